-- Sums of sizes, and who brings the most.
use Rattle.std.proofs.Common.{◌≡◌, ℕ, zero, suc, ◌+◌, ◌-◌, ◌^◌, ◌<◌, ◌≤◌, List, [], ◌∷◌, All, length, get_or, map, min, take, inl, inr, refl, sym, subst, ap, ◌∙◌, arith}
use Rattle.std.specs.Prelude.{Contains, codes, sum}
use Rattle.std.specs.List.{enumerate_from}
use Rattle.std.proofs.lemmas.List.Elements.{All-map}
use Rattle.std.proofs.lemmas.List.Sums.{sum_by_more}
use Rattle.rb_import_setup.specs.declared.setup.ClientSetup.{ClientSetup}
use Rattle.rb_import_setup.specs.declared.setup.ImportSetup.{ImportSetup}
use Rattle.rb_import_merge.specs.Errors.{IsNamedIn}
use Rattle.rb_import_merge.specs.declared.seen.SeenSetup.{SeenSetup}
use Rattle.rb_import.specs.Shares.{IsLargest, IsLargestIn, Sized, share_of, shares_of, shown, total}
use Rattle.rb_import.specs.declared.shares.Share.{Share}

-- a sum up to a number, and one more
up_to : (s x m : ℕ) → min (min s m + x) m ≡ min (s + x) m
up_to s x m = omega arith

pub size_more : (sizes : List ℕ) (i n before after : ℕ) → i < length sizes → n ≡ get_or sizes i n → before ≡ total (take i sizes) → after ≡ min (before + n) (2 ^ 64 - 1)
    → after ≡ total (take (i + 1) sizes)
size_more sizes i n before after small is was now =
    now ∙ ap (λ s. min (s + n) (2 ^ 64 - 1)) was ∙ up_to (sum (take i sizes)) n (2 ^ 64 - 1)
    ∙ ap (λ s. min s (2 ^ 64 - 1)) (ap (λ k. sum (take i sizes) + k) is ∙ sym (sum_by_more (λ x. x) sizes i n small))

-- ---- elements

later : {X : Type 0} (y x : X) (xs : List X) → Contains xs x → Contains (y ∷ xs) x
later y x xs (k, small, is) = (suc k, omega arith, is)

in_map : {X Y : Type 0} (f : X → Y) (xs : List X) (x : X) → Contains xs x → Contains (map f xs) (f x)
in_map f [] x c = absurd (omega (arith, c.1))
in_map f (y ∷ xs) x (zero, small, is) = (0, omega arith, ap f is)
in_map f (y ∷ xs) x (suc k, small, is) = later (f y) (f x) (map f xs) (in_map f xs x (k, omega arith, is))

from_map : {X Y : Type 0} (f : X → Y) (xs : List X) (y : Y) → Contains (map f xs) y → (x : X) × Contains xs x × (f x ≡ y)
from_map f [] y c = absurd (omega (arith, c.1))
from_map f (x ∷ xs) y (zero, small, is) = (x, (0, omega arith, refl), is)
from_map f (x ∷ xs) y (suc k, small, is) = let (z, there, same) = from_map f xs y (k, omega arith, is) in (z, later x z xs there, same)

-- an element beside its place is one of the list
in_numbered : {X : Type 0} (n : ℕ) (xs : List X) (p : ℕ × X) → Contains (enumerate_from n xs) p → Contains xs p.1
in_numbered {X = X} n [] p c = absurd (omega (arith, c.1))
in_numbered {X = X} n (x ∷ xs) p (zero, small, is) = (0, omega arith, ap (λ (q : ℕ × X). q.1) is)
in_numbered {X = X} n (x ∷ xs) p (suc k, small, is) = later x p.1 xs (in_numbered (n + 1) xs p (k, omega arith, is))

-- ---- who brings the most

pub largest_is : (setup : ImportSetup) (seen : SeenSetup) (shares : List Share) (s : Share) → map shown shares ≡ shares_of setup seen → Contains shares s
    → All (λ (t : Share). t.size ≤ s.size) shares → IsLargest setup seen s.id.now
unfolding IsLargest
largest_is setup seen shares s are there most =
    let many : All (λ (t : Sized). t.1 ≤ s.size) (map shown shares) = All-map (λ (t : Sized). t.1 ≤ s.size) shown shares most in
    inl (subst (λ ss. IsLargestIn ss s.id.now) are (shown s, in_map shown shares s there, refl, many))

none_shared : (setup : ImportSetup) (seen : SeenSetup) (n : ℕ) (cs : List ClientSetup) → [] ≡ map (share_of setup seen) (enumerate_from n cs) → cs ≡ []
none_shared setup seen n [] e = refl
none_shared setup seen n (c ∷ cs) e =
    let less : 0 ≡ suc (length (map (share_of setup seen) (enumerate_from (n + 1) cs))) = ap length e in absurd (omega (arith, less))

pub no_largest : (setup : ImportSetup) (seen : SeenSetup) (shares : List Share) → map shown shares ≡ shares_of setup seen → shares ≡ [] → IsLargest setup seen (codes "-")
unfolding IsLargest
no_largest setup seen shares are none =
    inr (none_shared setup seen 0 setup.clients.items (ap (map shown) (sym none) ∙ are), refl)

pub named_by : (setup : ImportSetup) (seen : SeenSetup) (shares : List Share) (s : Share) → map shown shares ≡ shares_of setup seen → Contains shares s → IsNamedIn setup s.id.now
named_by setup seen shares s are there =
    let (p, numbered, same) = from_map (share_of setup seen) (enumerate_from 0 setup.clients.items) (shown s) (subst (λ ss. Contains ss (shown s)) are (in_map shown shares s there)) in
    inr (inl (p.1, in_numbered 0 setup.clients.items p numbered, ap (λ (t : Sized). t.0) same))
