use Rattle.std.proofs.Common.{take}
use Rattle.std.specs.Prelude.{Any}
use Rattle.rb_import_merge.specs.Sets.{Gains, NamesSet}
use Rattle.rb_import_merge.proofs.sets.add_of_headers.Given as goal

-- the places of what the headers so far name came to what was there
abbrev pub invariant-loop-commit : goal.invariant-loop-commit
invariant-loop-commit l = Gains (λ p. Any (NamesSet l.chain.sets.sets.items p) (take l.commit-index l.chain.commits.items)) l.fn.places.items l.places.items
