-- (internal) What is looked up of each known record.
use Rattle.std.specs.Prelude.{◌≡◌, ℕ, ◌<◌, ◌^◌, ◌↔◌, List, Option, Some, IfSome, IsSomeAnd, position, slice_get}
use Rattle.rb_book.specs.Book.{RecordAt, has_hash}
use Rattle.rb_step.specs.View.{View, client_of}
use Rattle.rb_plan_types.specs.declared.cost.Cost.{Cost}
use Rattle.rb_plan_types.specs.Labelling.{Labels}
use Rattle.rb_plan_types.specs.Order.{CostsAtMost, after_update}
use Rattle.rb_cert.specs.declared.trusted.Trusted.{Trusted}

-- the place in the book's sets of the record's next set
abbrev pub IsNextOf : View → RecordAt → Option ℕ → Type 0
IsNextOf v k next = next ≡ position (has_hash k.record_of.next) v.book.sets

-- the label of the record's height, where that is live, and the place of its next set
pub record IsLookedUp (v : View) (label : Labels) (k : RecordAt) (t : Trusted) : Type 0 where
  pub cost : (c : Cost) → (t.cost ≡ Some c) ↔ ((client_of v).IsLive k.height × (label k.height ≡ Some c))
  pub small : IfSome t.cost (λ c. (c.fee < 2 ^ 63) × (c.count < 2 ^ 63))
  pub next : IsNextOf v k t.next

-- the same of each record, by its place
abbrev pub AreLookedUp : List Trusted → View → Labels → Type 0
AreLookedUp found v label = (p : ℕ) (k : RecordAt) (t : Trusted) → slice_get v.book.records p ≡ Some k → slice_get found p ≡ Some t → IsLookedUp v label k t

-- a step of this fee from the one label leads to the other's height for less
abbrev pub LeadsLower : Option Cost → ℕ → Option Cost → Type 0
LeadsLower from fee label = IsSomeAnd from (λ c. ¬ IsSomeAnd label (λ d. CostsAtMost d (after_update c fee)))
