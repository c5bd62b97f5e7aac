-- Whether a step leads from one label to another, by what the table tells of it; and the table's step from a height.
use Rattle.std.proofs.Common.{◌≡◌, ◌↔◌, ℕ, ◌+◌, Bool, true, false, IsTrue, eqb, ◌&&◌, ap, sym, subst, ◌∙◌, refl, Option, Some, None, IsSomeAnd}
use Rattle.std.proofs.lemmas.Bool.{false≢true}
use Rattle.std.specs.List.{find, slice_get}
use Rattle.std.specs.Option.{option_map}
use Rattle.rb_book.specs.Book.{RecordAt, height_of, is_at}
use Rattle.rb_graph.specs.StepTable.{Target, IsStepFee}
use Rattle.rb_graph.proofs.RecordAt.{no_record}
use Rattle.rb_step.specs.LightClient.{Client}
use Rattle.rb_plan_types.specs.declared.cost.Cost.{Cost}
use Rattle.rb_plan_types.specs.declared.labelling.Label.{Label}
use Rattle.rb_plan_types.specs.Order.{after_update}
use Rattle.rb_plan.specs.Walk.{IsStep}
use Rattle.rb_plan_types.proofs.Costs.{same_from_eq, other_from_eq}
use Rattle.rb_plan_types.proofs.Lookups.{find-some}
use Rattle.rb_plan.proofs.Serving.{TellsStep}

module _ (client : Client) (from to : Label) where
  pub step_of_fee : (fee : ℕ) (cost : Cost) (same : Bool) → TellsStep client from.height to.height (Some fee) → cost ≡ after_update from.cost fee
      → same ≡ (eqb cost.fee to.cost.fee && eqb cost.count to.cost.count) → IsTrue same ↔ IsStep client from to
  step_of_fee fee cost true told is e =
      (λ _. record { accepted = told.0; cost = sym (same_from_eq cost to.cost e) ∙ is ∙ ap (after_update from.cost) told.1 }, λ _. refl)
  step_of_fee fee cost false told is e =
      (λ f. absurd (false≢true f), λ step. absurd (other_from_eq cost to.cost e (is ∙ ap (after_update from.cost) told.1 ∙ sym step.cost)))

  pub no_step : TellsStep client from.height to.height None → IsTrue false ↔ IsStep client from to
  no_step told = (λ f. absurd (false≢true f), λ step. absurd (told step.accepted))

-- a search by height ends at the record there, or there is none
pub fee_found : (x : Target) (t p : ℕ) (r : Option ℕ) → find (is_at t) x.book.records ≡ slice_get x.book.records p
    → IsSomeAnd (slice_get x.book.records p) (λ k. IsStepFee x k.height r) → IsStepFee x t r
fee_found x t p r found told = by (slice_get x.book.records p) found told
  where
    by : (o : Option RecordAt) → find (is_at t) x.book.records ≡ o → IsSomeAnd o (λ k. IsStepFee x k.height r) → IsStepFee x t r
    by None e is = absurd is
    by (Some k) e is = subst (λ (h : ℕ). IsStepFee x h r) (find-some height_of x.book.records t k e).1 is

pub fee_absent : (x : Target) (t : ℕ) → find (is_at t) x.book.records ≡ None → IsStepFee x t None
fee_absent x t absent = λ a. absurd (rw (no_record x.book t x.height (ap (option_map (λ (k : RecordAt). k.record_of)) absent)) at a)
