-- Whether a book has room for a record, as a test.
use Rattle.std.proofs.Common.{◌≡◌, ◌⊎◌, ◌==◌, ◌||◌, ℕ, List, Bool, true, false, inl, inr, refl, sym, ◌∙◌, eq-eqb, eqb-true}
use Rattle.std.specs.Prelude.{Contains}
use Rattle.std.specs.Bool.{Decides}
use Rattle.std.specs.List.{list_any}
use Rattle.std.proofs.lemmas.Bool.{true≢false}
use Rattle.std.proofs.lemmas.Bool.Decides.{same_from_decides}
use Rattle.std.proofs.lemmas.List.{get_or_default}
use Rattle.std.proofs.lemmas.List.Folds.{Any-from_list_any, list_any-from_Any}
use Rattle.rb_import_check.specs.declared.chain.Commit.{Commit}
use Rattle.rb_import_check.specs.declared.chain.SeenChain.{SeenChain}
use Rattle.rb_import_merge.specs.Room.{HasHeader, IsKept, is_kept}
use Rattle.rb_import_merge.proofs.Writing.{decides_any}

decides_either : (p q : Bool) (P Q : Type 0) → Decides p P → Decides q Q → Decides (p || q) (P ⊎ Q)
decides_either true q P Q d e = ((λ t. inl (d.0 refl)), λ w. refl)
decides_either false q P Q d e = ((λ t. inr (e.0 t)), λ w. elim w [ inl x ↦ absurd (true≢false (sym (d.1 x))) | inr y ↦ e.1 y ])

decides_contains : (book : List ℕ) (height : ℕ) → Decides (list_any (λ h. h == height) book) (Contains book height)
decides_contains book height = (
  (λ e. let (k, x, small, is, same) = Any-from_list_any (λ h. h == height) book e in (k, small, get_or_default book k height x small ∙ is ∙ eqb-true x height same)),
  (λ w. list_any-from_Any (λ h. h == height) book (w.0, height, w.1, w.2, eq-eqb height height refl)),
)

decides_kept : (chain : SeenChain) (book : List ℕ) (height : ℕ) → Decides (is_kept chain book height) (IsKept chain book height)
unfolding IsKept HasHeader is_kept
decides_kept chain book height =
    decides_either (list_any (λ h. h == height) book) (list_any (λ (c : Commit). c.header.now.height == height) chain.commits.items) (Contains book height) (HasHeader chain height)
    (decides_contains book height)
    (decides_any (λ (c : Commit). c.header.now.height == height) (λ (c : Commit). c.header.now.height ≡ height) (λ c. (eqb-true c.header.now.height height, eq-eqb c.header.now.height height)) chain.commits.items)

pub is_kept-is : (r : Bool) (chain : SeenChain) (book : List ℕ) (height : ℕ) → Decides r (IsKept chain book height) → r ≡ is_kept chain book height
is_kept-is r chain book height decides = same_from_decides r (is_kept chain book height) decides (decides_kept chain book height)
