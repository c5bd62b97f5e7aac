use Rattle.std.proofs.Common.{◌≡◌, drop}
use Rattle.std.specs.Prelude.{option_map}
use Rattle.rb_import_merge.specs.Packets.{events_of, first_dest}
use Rattle.rb_import_merge.proofs.counterparties.first_dest.Given as goal

-- the first one is in the answers that are left
abbrev pub invariant-loop-saved : goal.invariant-loop-saved
invariant-loop-saved l =
    first_dest l.setup (option_map (λ b. b.now) l.but) (events_of (drop l.saved-index l.answers)) ≡ first_dest l.setup (option_map (λ b. b.now) l.but) (events_of l.answers)
