-- (internal) The labelled records from which steps are tried.
use Rattle.std.specs.Prelude.{◌≡◌, ℕ, ◌+◌, ◌<◌, ◌^◌, ◌⊎◌, List, Option, Some, All, Contains, IsSomeAnd, IfSome, length, position, slice_get, unwrap_or}
use Rattle.rb_book.specs.Book.{Book, RecordAt, has_hash}
use Rattle.rb_graph.specs.StepTable.{Target}
use Rattle.rb_step.specs.LightClient.{Client}
use Rattle.rb_step.specs.View.{View}
use Rattle.rb_plan_types.specs.declared.cost.Cost.{Cost}
use Rattle.rb_plan.specs.declared.offers.Offer.{Offer}
use Rattle.rb_plan_types.specs.Order.{CostsAtMost, after_update}
use Rattle.rb_plan_types.specs.Labelling.{Labels, LeadsTo}
use Rattle.rb_plan_types.specs.Raised.{IsCheapestStep, IsRaised}

-- the offer's place is that of the record at its height, and its numbers are small
pub record IsOffer (book : Book) (o : Offer) : Type 0 where
  pub placed : IsSomeAnd (slice_get book.records o.place) (λ k. k.height ≡ o.label.height)
  pub fee : o.label.cost.fee < 2 ^ 63
  pub count : o.label.cost.count < 2 ^ 63

-- the place of the set that a record names as its next, or the number of sets where the book doesn't know it
abbrev pub next_slot : Book → RecordAt → ℕ
next_slot book k = unwrap_or (position (has_hash k.record_of.next) book.sets) (length book.sets)

-- the records at two places name the same next set
abbrev pub NamesSame : Book → ℕ → ℕ → Type 0
NamesSame book p q =
    (k l : RecordAt) → slice_get book.records p ≡ Some k → slice_get book.records q ≡ Some l → k.record_of.next ≡ l.record_of.next

-- the first names the same set as the other, and costs no more
abbrev pub Serves : Book → Offer → Offer → Type 0
Serves book o other = NamesSame book o.place other.place × CostsAtMost o.label.cost other.label.cost

-- the offers are those before and the new one, or some of these that serve for all
pub record IsTakenIn (book : Book) (before : List Offer) (new : Offer) (after : List Offer) : Type 0 where
  pub drawn : All (λ o. Contains before o ⊎ (new ≡ o)) after
  pub serve : All (λ other. (o : Offer) × Contains after o × Serves book o other) before
  pub serves_new : (o : Offer) × Contains after o × Serves book o new

-- the offers are the new one, and some of those before that serve for all of these
pub record IsAdded (book : Book) (before : List Offer) (offer : Offer) (after : List Offer) : Type 0 where
  pub drawn : All (λ o. Contains before o ⊎ (offer ≡ o)) after
  pub serve : All (λ other. (o : Offer) × Contains after o × Contains before o × Serves book o other) before
  pub added : Contains after offer

-- the offers are labels
abbrev pub AreDrawn : Labels → List Offer → Type 0
AreDrawn label offers = All (λ o. label o.label.height ≡ Some o.label.cost) offers

-- from one of the offers an accepted step leads to the height for no more than from this label
abbrev pub IsServed : Client → List Offer → ℕ → Cost → ℕ → Type 0
IsServed client offers t c h =
    (o : Offer) × Contains offers o × client.Accepts o.label.height h
    × CostsAtMost (after_update o.label.cost (client.fee o.label.height h)) (after_update c (client.fee t h))

-- so it is for each label from which an accepted step leads to the height
abbrev pub AreEnough : Client → Labels → List Offer → ℕ → Type 0
AreEnough client label offers h = (t : ℕ) (c : Cost) → label t ≡ Some c → client.Accepts t h → IsServed client offers t c h

-- the least cost of a step from one of the offers is that of a step from any label, and the cost of the height by the
-- offers that by all labels, whatever labels the offers are drawn from and are enough for
abbrev pub OffersLead : Client → List Offer → ℕ → (Labels → Type 0) → Type 0
OffersLead client offers h P = (label : Labels) → AreDrawn label offers → AreEnough client label offers h → P label

-- the least cost is that of before, or that of the step from the offer to the height, and no more than either
pub record IsLoweredBy (client : Client) (label : Labels) (h : ℕ) (o : Offer) (before after : Option Cost) : Type 0 where
  pub under : (c : Cost) → LeadsTo client label o.label.height h c → IsSomeAnd after (λ b. CostsAtMost b c)
  pub kept : IfSome before (λ b. IsSomeAnd after (λ a. CostsAtMost a b))
  pub attained : (b : Cost) → after ≡ Some b → (before ≡ Some b) ⊎ LeadsTo client label o.label.height h b

-- so it is by all labels that the offer is drawn from
abbrev pub IsLowered : Client → ℕ → Offer → Option Cost → Option Cost → Type 0
IsLowered client h o before after = (label : Labels) → label o.label.height ≡ Some o.label.cost → IsLoweredBy client label h o before after

-- at this cost, if there is one, a step leads to the height from a labelled one
abbrev pub IsReachedBy : Client → Labels → ℕ → Option Cost → Type 0
IsReachedBy client label h cost = (b : Cost) → cost ≡ Some b → (t : ℕ) × LeadsTo client label t h b

-- so it is by all labels that the offers are drawn from
abbrev pub IsReached : Client → List Offer → ℕ → Option Cost → Type 0
IsReached client offers h cost = (label : Labels) → AreDrawn label offers → IsReachedBy client label h cost

-- a height, as the view's client is to reach it
abbrev pub target_of : View → ℕ → Target
target_of v h = record { book = v.book; options = v.options; window = v.window; fees = v.fees; height = h }
