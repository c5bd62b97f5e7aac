-- The destinations that packets of a path's source were sent to (ICS 4: a channel's end has one counterparty).
use Rattle.std.specs.Prelude.{◌≡◌, ◌≢◌, ℕ, true, List, Some, None, Any, string_bytes}
use Rattle.rb_import_answers.specs.declared.packets.PacketEvent.{PacketEvent}
use Rattle.rb_import_setup.specs.declared.setup.PathSetup.{PathSetup}
use Rattle.rb_import_merge.specs.declared.counterparties.Counterparties.{Counterparties}
use Rattle.rb_import_merge.specs.Packets.{counterparty, is_sending}

-- a packet was sent from the path's source to this destination
abbrev pub IsSentTo : PathSetup → List PacketEvent → List ℕ → Type 0
IsSentTo setup events dest = Any (λ (e : PacketEvent). (is_sending setup e ≡ true) × (string_bytes e.dest ≡ dest)) events

-- the setup names no counterparty, and packets were sent from the path's source to two destinations or more
abbrev pub HasSeveral : PathSetup → List PacketEvent → Type 0
HasSeveral setup events =
    (setup.counterparty ≡ None)
    × ((dest : List ℕ) × (other : List ℕ) × (dest ≢ other) × IsSentTo setup events dest × IsSentTo setup events other)

-- the destination that is taken, and another one that packets were sent to
abbrev pub AreCounterparties : PathSetup → List PacketEvent → Counterparties → Type 0
AreCounterparties setup events c =
    (counterparty setup events ≡ Some c.taken.now) × (c.other.now ≢ c.taken.now) × IsSentTo setup events c.other.now
