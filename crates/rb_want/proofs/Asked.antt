-- What is asked of what is needed.
use Rattle.std.proofs.Common.{◌≡◌, ◌+◌, ◌<◌, ◌≤◌, List, [], ◌∷◌, ◌++◌, ◌||◌, Bool, true, false, cond, All, length, length-append, get_or, ap, sym, subst, refl, ◌∙◌, arith}
use Rattle.std.specs.Prelude.{Contains, count_by, if◌then◌else◌}
use Rattle.std.specs.List.{list_any}
use Rattle.std.proofs.lemmas.Grind.{common_steps}
use Rattle.std.proofs.lemmas.List.{get_or_default}
use Rattle.std.proofs.lemmas.List.Elements.{All-cons, All-nil, All-push, All-tail}
use Rattle.std.proofs.lemmas.List.Folds.{list_any-append}
use Rattle.std.proofs.lemmas.List.Sums.{sum_by_push}
use Rattle.rb_want_requests.specs.declared.content.Folders.{Folders}
use Rattle.rb_want_requests.specs.declared.request.Request.{Request}
use Rattle.rb_want_requests.specs.Requests.{is_new, is_same, is_to_same, may_be_added}
use Rattle.rb_want.specs.Adding.{EachIsAsked, with_needed, with_request}
use Rattle.rb_want.specs.Laws.{NeedsAreAsked, NoneIsIdle}

one_grows : (b : Bool) (rs : List Request) (r : Request) → length rs ≤ length (if b then rs ++ r ∷ [] else rs)
one_grows true rs r = omega (arith, length-append rs (r ∷ []))
one_grows false rs r = omega arith

-- the requests never get fewer
pub grows : (f : Folders) (rs needed : List Request) → length rs ≤ length (with_needed f rs needed)
unfolding with_needed
grows f rs [] = omega arith
grows f rs (r ∷ needed) = omega (arith, one_grows (may_be_added f rs r) rs r, grows f (with_request f rs r) needed)

count_push : (p : Request → Bool) (rs : List Request) (r : Request) → count_by p (rs ++ r ∷ []) ≡ count_by p rs + cond (p r) 1 0
count_push p rs r = sum_by_push (λ x. cond (p x) 1 0) rs r

one_counts : (b : Bool) (p : Request → Bool) (rs : List Request) (r : Request) → count_by p rs ≤ count_by p (if b then rs ++ r ∷ [] else rs)
one_counts true p rs r = omega (arith, count_push p rs r)
one_counts false p rs r = omega arith

-- nor do those that pass a test
counts : (f : Folders) (p : Request → Bool) (rs needed : List Request) → count_by p rs ≤ count_by p (with_needed f rs needed)
unfolding with_needed
counts f p rs [] = omega arith
counts f p rs (r ∷ needed) = omega (arith, one_counts (may_be_added f rs r) p rs r, counts f p (with_request f rs r) needed)

one_stays : (b : Bool) (p : Request → Bool) (rs : List Request) (r : Request) → list_any p rs ≡ true → list_any p (if b then rs ++ r ∷ [] else rs) ≡ true
one_stays true p rs r there = list_any-append p rs (r ∷ []) ∙ ap (λ b. b || list_any p (r ∷ [])) there
one_stays false p rs r there = there

-- and each of them stays
stays : (f : Folders) (p : Request → Bool) (rs needed : List Request) → list_any p rs ≡ true → list_any p (with_needed f rs needed) ≡ true
unfolding with_needed
stays f p rs [] there = there
stays f p rs (r ∷ needed) there = stays f p (with_request f rs r) needed (one_stays (may_be_added f rs r) p rs r there)

-- a request is the same as itself
same : (r : Request) → is_same r r ≡ true
same r = grind (arith, common_steps)

pushed : (rs : List Request) (r : Request) → list_any (is_same r) (rs ++ r ∷ []) ≡ true
pushed rs r = grind (arith, common_steps, list_any-append (is_same r) rs (r ∷ []), same r)

-- a new request is asked for, or one that is the same
one_asked : (f : Folders) (rs : List Request) (r : Request) → count_by (is_to_same r) rs < 30 → is_new f r ≡ true → list_any (is_same r) (with_request f rs r) ≡ true
one_asked f rs r small new = go (list_any (is_same r) rs) refl
  where
    go : (b : Bool) → list_any (is_same r) rs ≡ b → list_any (is_same r) (with_request f rs r) ≡ true
    go true e = one_stays (may_be_added f rs r) (is_same r) rs r e
    go false e =
        let may : may_be_added f rs r ≡ true = grind (arith, common_steps, e, new, small) in
        subst (λ b. list_any (is_same r) (if b then rs ++ r ∷ [] else rs) ≡ true) (sym may) (pushed rs r)

each : (f : Folders) (rs needed : List Request) → EachIsAsked f needed (with_needed f rs needed)
unfolding with_needed
each f rs [] = All-nil (λ r. is_new f r ≡ true → count_by (is_to_same r) (with_needed f rs []) < 30 → list_any (is_same r) (with_needed f rs []) ≡ true)
each f rs (r ∷ needed) =
    let few : count_by (is_to_same r) rs ≤ count_by (is_to_same r) (with_needed f (with_request f rs r) needed) =
    omega (arith, one_counts (may_be_added f rs r) (is_to_same r) rs r, counts f (is_to_same r) (with_request f rs r) needed) in
    All-cons (λ q. is_new f q ≡ true → count_by (is_to_same q) (with_needed f (with_request f rs r) needed) < 30
    → list_any (is_same q) (with_needed f (with_request f rs r) needed) ≡ true) r needed
    (λ new small. stays f (is_same r) (with_request f rs r) needed (one_asked f rs r (omega (arith, few, small)) new))
    (each f (with_request f rs r) needed)

pub asked : NeedsAreAsked
asked f needed = each f [] needed

one_of : (b : Bool) (P : Request → Type 0) (rs : List Request) (r : Request) → All P rs → P r → All P (if b then rs ++ r ∷ [] else rs)
one_of true P rs r all one = All-push P rs r all one
one_of false P rs r all one = all

-- what holds of all that was asked for, and of all that is needed, holds of all that is asked for
of_all : (f : Folders) (P : Request → Type 0) (rs needed : List Request) → All P rs → All P needed → All P (with_needed f rs needed)
unfolding with_needed
of_all f P rs [] before all = before
of_all f P rs (r ∷ needed) before all =
    let first : P r = all 0 r (omega arith) in
    of_all f P (with_request f rs r) needed (one_of (may_be_added f rs r) P rs r before first) (All-tail P r needed all)

pub idle : NoneIsIdle
idle f needed = of_all f (Contains needed) [] needed (All-nil (Contains needed)) (λ k d small. (k, small, get_or_default needed k (get_or needed k d) d small))
