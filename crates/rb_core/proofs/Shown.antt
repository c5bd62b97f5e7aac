-- What is seen of clients and paths: look-ups by place, walks over places, and comparisons.
use Rattle.std.proofs.Common.{◌≡◌, ℕ, zero, suc, ◌+◌, Bool, true, ◌&&◌, nat_eq, List, [], ◌∷◌, ◌++◌, map, drop, Option, Some, None, MatchOption, refl, sym, ap, ◌∙◌, add-one, append_assoc}
use Rattle.std.specs.List.{slice_get, cons_option, enumerate_from, filter_map}
use Rattle.std.specs.Option.{option_and_then, option_copied, option_map, option_to_list}
use Rattle.std.proofs.lemmas.List.{append-nil}
use Rattle.std.specs.Borrow.{Bor}
use Rattle.std.proofs.lemmas.Option.{none-some, same_Some}
use Rattle.std.specs.Cmp.Lexicographic.{pointwise}
use Rattle.rb_base.specs.Window.{Span}
use Rattle.rb_book.specs.Book.{Book, same_book}
use Rattle.rb_scan.specs.Path.{Path}
use Rattle.rb_scan.specs.Same.{same_path, same_path-Decides}
use Rattle.rb_core_model.proofs.Options.{tested}
use Rattle.rb_base.specs.declared.gate.Part.{Part}
use Rattle.rb_base.specs.declared.gate.Part.TheVariants.{Packets, Channel}
use Rattle.rb_core_model.specs.Machine.{State, is_view, no_scans, scan_of, client_view, job_of}
use Rattle.rb_core_model.specs.Scan.{Scan}
use Rattle.rb_core_model.specs.Standing.{ClientState, path_view}

-- the last scan of a part, by those of a path
pub no_scan : (part : Part) → scan_of no_scans part ≡ None
no_scan Packets = refl
no_scan Channel = refl

pub scan_found : (part : Part) (o : Option Path) (r : Option (Bor Scan)) → option_copied r ≡ option_map (λ v. record { view = v; part = part }) o
    → MatchOption r (o ≡ None) (λ x. (o ≡ Some x.now.view) × (x.now.part ≡ part))
scan_found part None None e = refl
scan_found part None (Some x) e = absurd (none-some x.now (sym e))
scan_found part (Some v) None e = absurd (none-some _ e)
scan_found part (Some v) (Some x) e =
    let same = same_Some x.now (record { view = v; part = part }) e in
    (ap (λ (y : Scan). Some y.view) (sym same), ap (λ (y : Scan). y.part) same)

-- ---- walks over places

pub drop-get : {X : Type 0} (xs : List X) (i : ℕ) (x : X) → slice_get xs i ≡ Some x → drop i xs ≡ x ∷ drop (i + 1) xs
drop-get {X} xs i x e = go xs i e ∙ ap (λ n. x ∷ drop n xs) (sym (add-one i))
  where
    go : (xs : List X) (i : ℕ) → slice_get xs i ≡ Some x → drop i xs ≡ x ∷ drop (suc i) xs
    go [] i e = absurd (none-some x e)
    go (y ∷ xs) zero e = ap (λ z. z ∷ xs) (same_Some y x e)
    go (y ∷ xs) (suc i) e = go xs i e

-- what is left of a walk, the next place first
pub next_place : {X Y : Type 0} (f : X → Y) (xs : List X) (i : ℕ) (x : X) → slice_get xs i ≡ Some x
    → enumerate_from i (map f (drop i xs)) ≡ (i, f x) ∷ enumerate_from (i + 1) (map f (drop (i + 1) xs))
next_place f xs i x e = ap (λ l. enumerate_from i (map f l)) (drop-get xs i x e)

-- ---- comparisons

-- a path that is as it was seen is the view
pub seen_is : (s : State) (path : ℕ) (v : Path) → is_view s path v ≡ true → path_view s.standing path ≡ Some v
seen_is s path v e =
    let p = tested (same_path v) (path_view s.standing path) e in
    p.1 ∙ ap Some (sym ((same_path-Decides v p.0).0 p.2))

-- a walk that puts what a place gives to the end of a list
pub walked : {X Y : Type 0} (f : X → Option Y) (done : List Y) (place : X) (rest : List X) → (done ++ option_to_list (f place)) ++ filter_map f rest ≡ done ++ filter_map f (place ∷ rest)
walked {X} {Y} f done place rest = go (f place)
  where
    go : (o : Option Y) → (done ++ option_to_list o) ++ filter_map f rest ≡ done ++ cons_option o (filter_map f rest)
    go None = ap (λ (l : List Y). l ++ filter_map f rest) (append-nil done)
    go (Some y) = append_assoc done (y ∷ []) (filter_map f rest)

-- ---- jobs

pub client_seen : (s : State) (client : ℕ) (window : Span) (k : ClientState) → s.standing.window ≡ Some window → slice_get s.standing.clients client ≡ Some k
    → client_view s client ≡ Some (job_of s client window k)
client_seen s client window k e f =
    ap (option_and_then (λ w. option_map (job_of s client w) (slice_get s.standing.clients client))) e ∙ ap (option_map (job_of s client window)) f
