use Rattle.std.proofs.Common.{◌≡◌, take}
use Rattle.rb_import_setup.specs.Rests.{left_settlements}
use Rattle.rb_import_setup.proofs.rest.left_settlements.Given as goal

-- these are those of the settlements so far whose clients stay
abbrev pub invariant-loop-settlement : goal.invariant-loop-settlement
invariant-loop-settlement l = l.left.items ≡ left_settlements l.clients (take l.settlement-index l.settlements)
