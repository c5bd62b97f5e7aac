use Rattle.std.proofs.Common.{◌≡◌, ◌++◌, map, filter, take}
use Rattle.std.specs.Prelude.{◌==◌}
use Rattle.rb_import_answers.specs.declared.client.ConsensusState.{ConsensusState}
use Rattle.rb_want.proofs.records.add_states.Given as goal

-- the states so far that are of the revision number stand behind what was there
abbrev pub invariant-loop-state : goal.invariant-loop-state
invariant-loop-state l =
    map (λ r. r.now) l.stored.items
    ≡ map (λ r. r.now) l.fn.stored.items ++ filter (λ (s : ConsensusState). s.revision == l.revision) (take l.state-index l.states)
