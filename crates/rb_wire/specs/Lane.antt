-- What a clause sees of the two ends of a lane, and of the token of an end that has finished
-- (own choice; the ring is rtrb's).
use Rattle.std.specs.Prelude.{ℕ, List}
use Rattle.rtrb.specs.Ring.{sent, producer_capacity, known_free, received, known_items, all_sent, IsPair, IsFinishedOf, Finishes, SameProducer, SameConsumer}
use Rattle.rb_wire.specs.declared.ends.Tx.{Tx}
use Rattle.rb_wire.specs.declared.ends.Rx.{Rx}
use Rattle.rb_wire.specs.declared.ends.Finished.{Finished}

-- the most items that a lane has room for
abbrev pub max_capacity : ℕ
max_capacity = 1024

module _ {T A : Type 0} where
  -- all that was sent, oldest first
  abbrev pub sent_on : Tx T A → List T
  sent_on tx = sent tx.producer

  -- how many items the lane has room for
  abbrev pub capacity_of : Tx T A → ℕ
  capacity_of tx = producer_capacity tx.producer

  -- how many slots the end knows to be free
  abbrev pub free_on : Tx T A → ℕ
  free_on tx = known_free tx.producer

  -- all that was taken, oldest first
  abbrev pub taken_on : Rx T A → List T
  taken_on rx = received rx.consumer

  -- what the end has seen and not taken
  abbrev pub seen_on : Rx T A → List T
  seen_on rx = known_items rx.consumer

  -- all that was ever sent on the token's lane
  abbrev pub sent_in_all : Finished T A → List T
  sent_in_all token = all_sent token.mark

  -- the two are the ends of one lane
  abbrev pub IsLane : Tx T A → Rx T A → Type 0
  IsLane tx rx = IsPair tx.producer rx.consumer

  -- the two are one end, earlier and later
  abbrev pub SameTx : Tx T A → Tx T A → Type 0
  SameTx earlier later = SameProducer earlier.producer later.producer

  abbrev pub SameRx : Rx T A → Rx T A → Type 0
  SameRx earlier later = SameConsumer earlier.consumer later.consumer

  -- the token is of the lane of this end
  abbrev pub IsTokenOf : Finished T A → Rx T A → Type 0
  IsTokenOf token rx = IsFinishedOf token.mark rx.consumer

  -- the token is of the lane of this end, and shows what the end had sent
  abbrev pub IsTokenFrom : Tx T A → Finished T A → Type 0
  IsTokenFrom tx token = Finishes tx.producer token.mark
