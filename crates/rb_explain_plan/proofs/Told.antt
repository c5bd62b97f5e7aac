-- Steps that are told one after the other.
use Rattle.std.proofs.Common.{◌≡◌, ℕ, ◌+◌, ◌<◌, ◌≤◌, ◌⊎◌, List, [], ◌∷◌, ◌++◌, length, get_or, take, Option, Some, None, All, MatchOption, inl, inr, ap, sym, subst, ◌∙◌, arith}
use Rattle.std.specs.List.{AllZip}
use Rattle.std.specs.List.Sorted.{IsNonDecreasingBy}
use Rattle.std.proofs.lemmas.Bool.{cases_lt}
use Rattle.std.proofs.lemmas.List.{take_more, take_all, length-take-le, get_or-take, get_or_default}
use Rattle.std.proofs.lemmas.List.Elements.{All-more}
use Rattle.rb_book.specs.Book.{Book, header_height}
use Rattle.rb_book.specs.Header.{Header}
use Rattle.rb_book.specs.Invariant.{IsBook}
use Rattle.rb_script_types.specs.Goal.{Wants}
use Rattle.rb_script_types.specs.declared.goal.Goal.{Goal}
use Rattle.rb_explain_plan.specs.Unreachable.{IsFirstOf, IsFirstWanted, IsLowestWanted}
use Rattle.rb_step.specs.LightClient.{Update}
use Rattle.rb_step.specs.View.{View}
use Rattle.rb_explain_plan.specs.Steps.{IsExplainedUpdate}
use Rattle.rb_explain_plan.specs.declared.step.StepExplanation.{StepExplanation}
use Rattle.rb_explain_plan.proofs.Between.{headers_rise}

zipped_push : {A B : Type 0} (R : A → B → Type 0) (xs : List A) (ys : List B) (x : A) (y : B) → AllZip R xs ys → R x y → AllZip R (xs ++ x ∷ []) (ys ++ y ∷ [])
zipped_push R [] [] x y all r = (r, tt)
zipped_push R [] (b ∷ ys) x y all r = absurd all
zipped_push R (a ∷ xs) [] x y all r = absurd all
zipped_push R (a ∷ xs) (b ∷ ys) x y all r = (all.0, zipped_push R xs ys x y all.1 r)

pub told_more : (v : View) (us : List Update) (i : ℕ) (u : Update) (xs : List (Option StepExplanation)) (x : Option StepExplanation) → i < length us → u ≡ get_or us i u
    → IsExplainedUpdate v u x → AllZip (IsExplainedUpdate v) (take i us) xs → AllZip (IsExplainedUpdate v) (take (i + 1) us) (xs ++ x ∷ [])
told_more v us i u xs x lt is told all =
    let more : take (i + 1) us ≡ take i us ++ u ∷ [] = take_more us i u lt ∙ ap (λ z. take i us ++ z ∷ []) (sym is) in
    subst (λ zs. AllZip (IsExplainedUpdate v) zs (xs ++ x ∷ [])) (sym more) (zipped_push (IsExplainedUpdate v) (take i us) xs u x all told)

pub told_all : (v : View) (us : List Update) (i : ℕ) (xs : List (Option StepExplanation)) → length us ≤ i → AllZip (IsExplainedUpdate v) (take i us) xs → AllZip (IsExplainedUpdate v) us xs
told_all v us i xs le all = subst (λ zs. AllZip (IsExplainedUpdate v) zs xs) (take_all i us le) all

-- ---- the first header that is wanted

-- the goal doesn't want a header's height
abbrev pub IsUnwanted : Goal → Header → Type 0
IsUnwanted goal h = Wants goal h.height → ⊥

-- the goal wants the height of a header, and those of none before it
pub record IsFirstAt (goal : Goal) (hs : List Header) (height : ℕ) : Type 0 where
  pub place : ℕ
  pub header : Header
  pub within : place < length hs
  pub there : get_or hs place header ≡ header
  pub same : header.height ≡ height
  pub wanted : Wants goal height
  pub none : All (IsUnwanted goal) (take place hs)

-- the first of so many headers that the goal wants
abbrev pub IsFirstAmong : Goal → List Header → ℕ → Option ℕ → Type 0
IsFirstAmong goal hs i o = MatchOption o (All (IsUnwanted goal) (take i hs)) (IsFirstAt goal hs)

pub wanted_more : (goal : Goal) (hs : List Header) (i : ℕ) (h : Header) (first next : Option ℕ) → i < length hs → h ≡ get_or hs i h → IsFirstOf goal first h.height next
    → IsFirstAmong goal hs i first → IsFirstAmong goal hs (i + 1) next
wanted_more goal hs i h (Some f) next lt is step wanted = subst (IsFirstAmong goal hs (i + 1)) (sym step) wanted
wanted_more goal hs i h None None lt is step none = All-more (IsUnwanted goal) hs i h lt none (subst (IsUnwanted goal) is step)
wanted_more goal hs i h None (Some x) lt is step none = record {
  place = i;
  header = h;
  within = lt;
  there = sym is;
  same = sym step.0;
  wanted = subst (Wants goal) (sym step.0) step.1;
  none = none;
}

-- where heights rise, the first one that is wanted is the lowest
lowest : (goal : Goal) (hs : List Header) (f : ℕ) → IsNonDecreasingBy header_height hs → IsFirstAt goal hs f → IsLowestWanted goal hs f
lowest goal hs f rising first = record {
  header = (first.place, first.header, first.within, first.there, first.same);
  wanted = first.wanted;
  lowest = λ k d lt wants. go k d lt wants (cases_lt k first.place);
}
  where
    go : (k : ℕ) (d : Header) → k < length hs → Wants goal (get_or hs k d).height → (k < first.place) ⊎ (first.place ≤ k) → f ≤ (get_or hs k d).height
    go k d lt wants (inl before) =
        let within = first.within in
        let long : length (take first.place hs) ≡ first.place = length-take-le first.place hs (omega arith) in
        let same : get_or (take first.place hs) k d ≡ get_or hs k d = get_or-take first.place hs k d before in
        absurd (first.none k d (omega arith) (subst (λ (h : Header). Wants goal h.height) (sym same) wants))
    go k d lt wants (inr after) =
        let at : (get_or hs first.place d).height ≡ f = ap header_height (get_or_default hs first.place d first.header first.within ∙ first.there) ∙ first.same in
        let above : (get_or hs first.place d).height ≤ (get_or hs k d).height = rising first.place k d after lt in
        omega arith

pub wanted_all : (goal : Goal) (b : Book) (i : ℕ) (first : Option ℕ) → IsBook b → length b.headers ≤ i → IsFirstAmong goal b.headers i first → IsFirstWanted b goal first
wanted_all goal b i None book le none = subst (All (IsUnwanted goal)) (take_all i b.headers le) none
wanted_all goal b i (Some f) book le first = lowest goal b.headers f (headers_rise b book) first
