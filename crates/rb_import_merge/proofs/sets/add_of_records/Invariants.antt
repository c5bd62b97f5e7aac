use Rattle.std.proofs.Common.{take}
use Rattle.std.specs.Prelude.{Any}
use Rattle.rb_import_merge.specs.Sets.{Gains, NamesNext}
use Rattle.rb_import_merge.proofs.sets.add_of_records.Given as goal

-- the places of what the records so far name came to what was there
abbrev pub invariant-loop-record : goal.invariant-loop-record
invariant-loop-record l = Gains (λ p. Any (NamesNext l.sets.sets.items p) (take l.record-index l.records)) l.fn.places.items l.places.items
