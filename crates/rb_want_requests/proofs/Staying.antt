-- What is answered or was refused stays so.
use Rattle.std.proofs.Common.{◌≡◌, ℕ, ◌+◌, ◌≤◌, List, ◌++◌, Bool, true, false, ◌&&◌, ◌||◌, cond, Option, Some, None, refl, sym, ap, subst, ◌∙◌, arith}
use Rattle.std.specs.Prelude.{count_by, nat_le, not}
use Rattle.std.specs.List.{list_any, sum_by}
use Rattle.std.proofs.lemmas.Bool.{true≢false}
use Rattle.std.proofs.lemmas.Bool.Decides.{nat_tests}
use Rattle.std.proofs.lemmas.List.Folds.{list_any-append}
use Rattle.std.proofs.lemmas.List.Recursion.{is_count_by}
use Rattle.std.proofs.lemmas.List.Sorted.{list_any-IsPermutation, sum_by-IsPermutation}
use Rattle.std.proofs.lemmas.List.Sums.{sum_by-append, sum_by-cons}
use Rattle.rb_want_requests.specs.Answered.{has_part, is_answered, is_part, is_part_to}
use Rattle.rb_want_requests.specs.Requests.{folder_of, is_named, is_new, is_new_at, is_new_in}
use Rattle.rb_want_requests.specs.declared.answered.PartKind.{PartKind}
use Rattle.rb_want_requests.specs.declared.answered.PartKind.TheVariants as kinds
use Rattle.rb_want_requests.specs.declared.content.Content.{Content}
use Rattle.rb_want_requests.specs.declared.content.Folder.{Folder}
use Rattle.rb_want_requests.specs.declared.content.Folders.{Folders}
use Rattle.rb_want_requests.specs.declared.request.Query.{Query}
use Rattle.rb_want_requests.specs.declared.request.Query.TheVariants as queries
use Rattle.rb_want_requests.specs.declared.request.Request.{Request}
use Rattle.rb_want_requests.specs.Asking.{HasAll, HaveAll, HasAllOf}

-- what some element passes, one of more elements does
any_stays : {X : Type 0} (p : X → Bool) (xs ys : List X) → HasAll xs ys → list_any p xs ≡ true → list_any p ys ≡ true
any_stays p xs ys (more, same) there =
    sym (list_any-IsPermutation p (xs ++ more) ys same) ∙ list_any-append p xs more ∙ ap (λ b. b || list_any p more) there

abbrev one : Bool → ℕ
one true = 1
one false = 0

one_more : (b : Bool) (n : ℕ) → one b + n ≡ cond b (1 + n) n
one_more true n = omega arith
one_more false n = omega arith

counted : {X : Type 0} (p : X → Bool) (xs : List X) → sum_by (λ x. one (p x)) xs ≡ count_by p xs
counted p xs =
    is_count_by (sum_by (λ x. one (p x))) p refl (λ y ys. sum_by-cons (λ x. one (p x)) y ys ∙ one_more (p y) (sum_by (λ x. one (p x)) ys)) xs

-- of more elements no fewer pass a test
count_stays : {X : Type 0} (p : X → Bool) (xs ys : List X) → HasAll xs ys → count_by p xs ≤ count_by p ys
count_stays p xs ys (more, same) =
    omega (
      arith,
      counted p xs,
      counted p ys,
      sum_by-append (λ x. one (p x)) xs more,
      sum_by-IsPermutation (λ x. one (p x)) (xs ++ more) ys same,
    )

up_to : (k m n : ℕ) → m ≤ n → nat_le k m ≡ true → nat_le k n ≡ true
up_to k m n le is = grind (arith, nat_tests, le, is)

either : (a b c d : Bool) → (a ≡ true → c ≡ true) → (b ≡ true → d ≡ true) → a || b ≡ true → c || d ≡ true
either a b true d f g is = refl
either true b false d f g is = absurd (true≢false (sym (f refl)))
either false b false d f g is = g is

-- a part that is there stays there
part_stays : (kind : PartKind) (n : ℕ) (there after : List Content) → HasAll there after → has_part kind n there ≡ true → has_part kind n after ≡ true
unfolding has_part
part_stays kind n there after all is =
    either (list_any (is_part kind n) there) (nat_le n (count_by (is_part_to kind n) there)) (list_any (is_part kind n) after) (nat_le n (count_by (is_part_to kind n) after))
    (any_stays (is_part kind n) there after all) (up_to n _ _ (count_stays (is_part_to kind n) there after all)) is

answered_stays : (there after : List Content) (query : Query) → HasAll there after → is_answered there query ≡ true → is_answered after query ≡ true
answered_stays there after queries.ClientState all is = any_stays _ there after all is
answered_stays there after (queries.ConsensusStates page) all is = part_stays kinds.ConsensusStates page there after all is
answered_stays there after queries.Status all is = any_stays _ there after all is
answered_stays there after (queries.Commit height) all is = any_stays _ there after all is
answered_stays there after (queries.Validators height page size) all is = part_stays (kinds.Validators height) page there after all is
answered_stays there after (queries.Commitments page) all is = part_stays kinds.Commitments page there after all is
answered_stays there after (queries.Unreceived part) all is = part_stays kinds.Unreceived part there after all is
answered_stays there after (queries.Acknowledgements part) all is = part_stays kinds.Acknowledgements part there after all is
answered_stays there after (queries.Sent sequence) all is = absurd (true≢false (sym is))
answered_stays there after (queries.Received sequence) all is = absurd (true≢false (sym is))
answered_stays there after (queries.AckWritten sequence) all is = absurd (true≢false (sym is))

-- where one of three tests is passed, one of three others is
still : (a b c x y z : Bool) → (a ≡ true → x ≡ true) → (b ≡ true → y ≡ true) → (c ≡ true → z ≡ true)
    → not a && not b && not c ≡ false → not x && not y && not z ≡ false
still a b c true y z f g h is = refl
still a b c false true z f g h is = refl
still a b c false false true f g h is = refl
still true b c false false false f g h is = absurd (true≢false (sym (f refl)))
still false true c false false false f g h is = absurd (true≢false (sym (g refl)))
still false false true false false false f g h is = absurd (true≢false (sym (h refl)))
still false false false false false false f g h is = is

folder_stays : (before after : Folder) (query : Query) → HasAllOf (Some before) (Some after) → is_new_in before query ≡ false
    → is_new_in after query ≡ false
folder_stays before after query (contents, refused, searched) is =
    still (is_answered before.contents.items query) (is_named before.refused.items query) (is_named before.searched.items query)
    (is_answered after.contents.items query) (is_named after.refused.items query) (is_named after.searched.items query)
    (answered_stays before.contents.items after.contents.items query contents)
    (any_stays _ before.refused.items after.refused.items refused)
    (any_stays _ before.searched.items after.searched.items searched) is

place_stays : (before after : Option Folder) (query : Query) → HasAllOf before after → is_new_at before query ≡ false → is_new_at after query ≡ false
place_stays (Some before) (Some after) query holds is = folder_stays before after query holds is
place_stays (Some before) None query holds is = absurd holds
place_stays None after query holds is = subst (λ o. is_new_at o query ≡ false) (sym holds) refl

-- a request that is answered, or was refused, stays so
pub stays : (before after : Folders) (r : Request) → HaveAll before after → is_new before r ≡ false → is_new after r ≡ false
stays before after r holds is = place_stays (folder_of before r.owner) (folder_of after r.owner) r.query (holds r.owner) is
