-- A request more among others.
use Rattle.std.proofs.Common.{◌≡◌, ℕ, List, [], ◌∷◌, ◌++◌, Bool, true, false, cond, length, get_or, arith, refl, ap, sym, ◌∙◌, ◌+◌, ◌<◌, ◌≤◌}
use Rattle.std.specs.Prelude.{All, count_by, if◌then◌else◌, not}
use Rattle.std.proofs.lemmas.List.Sums.{sum_by-cons, sum_by_push}
use Rattle.std.proofs.lemmas.Bool.{and_parts, true≢false}
use Rattle.std.proofs.lemmas.Slice.Eq.{bytes_eq-Decides}
use Rattle.std.specs.Str.{bytes_eq}
use Rattle.std.specs.List.{list_any}
use Rattle.std.proofs.lemmas.List.Elements.{All-push}
use Rattle.std.proofs.lemmas.List.Folds.{list_any_at}
use Rattle.std.proofs.lemmas.List.Quantifiers.{all_pairs_push}
use Rattle.rb_want_requests.specs.declared.request.Request.{Request}
use Rattle.rb_want_requests.specs.declared.reason.PathEnd.{PathEnd}
use Rattle.rb_want_requests.specs.Ends.{AreDistinctEnds, is_same_end}
use Rattle.rb_want_requests.specs.Requests.{AreDistinct, AreFew, is_of_gateway, is_same, is_to, is_to_same}

-- of a test that no element passes each element's answer is no
apart : (rs : List Request) (r : Request) → list_any (is_same r) rs ≡ false → (k : ℕ) (d : Request) → k < length rs → is_same r (get_or rs k d) ≡ false
apart rs r none k d small = grind (arith, none, small, list_any_at (is_same r) rs k d small)

pub adding : (rs : List Request) (r : Request) → AreDistinct rs → list_any (is_same r) rs ≡ false → AreDistinct (rs ++ r ∷ [])
adding rs r distinct none = all_pairs_push (λ earlier later. is_same later earlier ≡ false) rs r distinct (apart rs r none)

-- of a test that no end passes each end's answer is no
ends_apart : (es : List PathEnd) (e : PathEnd) → list_any (is_same_end e) es ≡ false → (k : ℕ) (d : PathEnd) → k < length es → is_same_end e (get_or es k d) ≡ false
ends_apart es e none k d small = grind (arith, none, small, list_any_at (is_same_end e) es k d small)

pub adding_end : (es : List PathEnd) (e : PathEnd) → AreDistinctEnds es → list_any (is_same_end e) es ≡ false → AreDistinctEnds (es ++ e ∷ [])
adding_end es e distinct none = all_pairs_push (λ earlier later. is_same_end later earlier ≡ false) es e distinct (ends_apart es e none)

-- ---- what holds of the requests after one was pushed, or wasn't

pub distinct : (ok : Bool) (rs : List Request) (r : Request) → AreDistinct rs → list_any (is_same r) rs ≡ false → AreDistinct (if ok then rs ++ r ∷ [] else rs)
distinct true rs r before none = adding rs r before none
distinct false rs r before none = before

count_cons : (p : Request → Bool) (r : Request) (rs : List Request) → count_by p (r ∷ rs) ≡ cond (p r) 1 0 + count_by p rs
count_cons p r rs = sum_by-cons (λ x. cond (p x) 1 0) r rs

count_push : (p : Request → Bool) (rs : List Request) (r : Request) → count_by p (rs ++ r ∷ []) ≡ count_by p rs + cond (p r) 1 0
count_push p rs r = sum_by_push (λ x. cond (p x) 1 0) rs r

of_same : (gateway is : Bool) → (if gateway then is else not is) ≡ true → gateway ≡ is
of_same true is e = sym e
of_same false true e = absurd (true≢false (sym e))
of_same false false e = refl

-- what goes to an address goes to that of each request there
to_same : (chain : List ℕ) (gateway : Bool) (r x : Request) → is_to chain gateway r ≡ true → is_to chain gateway x ≡ is_to_same r x
to_same chain gateway r x here =
    let parts = and_parts (bytes_eq chain r.chain) (if gateway then is_of_gateway r.query else not (is_of_gateway r.query)) here in
    ap (λ c. is_to c gateway x) ((bytes_eq-Decides chain r.chain).0 parts.0) ∙ ap (λ g. is_to r.chain g x) (of_same gateway (is_of_gateway r.query) parts.1)

counted_same : (chain : List ℕ) (gateway : Bool) (r : Request) (rs : List Request) → is_to chain gateway r ≡ true
    → count_by (is_to chain gateway) rs ≡ count_by (is_to_same r) rs
counted_same chain gateway r [] here = refl
counted_same chain gateway r (x ∷ rs) here =
    count_cons (is_to chain gateway) x rs ∙ ap (λ b. cond b 1 0 + count_by (is_to chain gateway) rs) (to_same chain gateway r x here)
    ∙ ap (λ n. cond (is_to_same r x) 1 0 + n) (counted_same chain gateway r rs here) ∙ sym (count_cons (is_to_same r) x rs)

few_more : (rs : List Request) (r : Request) → AreFew rs → count_by (is_to_same r) rs < 30 → AreFew (rs ++ r ∷ [])
few_more rs r all small chain gateway = go (is_to chain gateway r) refl
  where
    go : (b : Bool) → is_to chain gateway r ≡ b → count_by (is_to chain gateway) (rs ++ r ∷ []) ≤ 30
    go true e =
        let one : count_by (is_to chain gateway) (rs ++ r ∷ []) ≡ count_by (is_to chain gateway) rs + 1 =
        count_push (is_to chain gateway) rs r ∙ ap (λ b. count_by (is_to chain gateway) rs + cond b 1 0) e in
        omega (arith, one, counted_same chain gateway r rs e, small)
    go false e =
        let none : count_by (is_to chain gateway) (rs ++ r ∷ []) ≡ count_by (is_to chain gateway) rs + 0 =
        count_push (is_to chain gateway) rs r ∙ ap (λ b. count_by (is_to chain gateway) rs + cond b 1 0) e in
        omega (arith, none, all chain gateway)

pub few : (ok : Bool) (rs : List Request) (r : Request) → AreFew rs → count_by (is_to_same r) rs < 30 → AreFew (if ok then rs ++ r ∷ [] else rs)
few true rs r before small = few_more rs r before small
few false rs r before small = before

pub unanswered : (ok : Bool) (P : Request → Type 0) (rs : List Request) (r : Request) → All P rs → P r → All P (if ok then rs ++ r ∷ [] else rs)
unanswered true P rs r before new = All-push P rs r before new
unanswered false P rs r before new = before
