use Rattle.std.proofs.Common.{◌≡◌, drop}
use Rattle.std.specs.Prelude.{option_map}
use Rattle.rb_import_merge.specs.Packets.{first_dest}
use Rattle.rb_import_merge.proofs.counterparties.first_dest_in.Given as goal

-- the first one is among the events that are left
abbrev pub invariant-loop-event : goal.invariant-loop-event
invariant-loop-event l = first_dest l.setup (option_map (λ b. b.now) l.but) (drop l.event-index l.events) ≡ first_dest l.setup (option_map (λ b. b.now) l.but) l.events
