use Rattle.std.proofs.Common.{◌≡◌, ◌++◌, map, filter, take}
use Rattle.std.specs.Prelude.{nat_le}
use Rattle.rb_import_answers.specs.declared.client.ConsensusState.{ConsensusState}
use Rattle.rb_import_check.specs.declared.client.Stored.{Stored}
use Rattle.rb_import_check.specs.Clients.{FiledState, filed_state}
use Rattle.rb_import_check.proofs.client.add_states.Given as goal

-- the states so far that aren't of an earlier revision stand behind what was there, and are of the file
abbrev pub invariant-loop-state : goal.invariant-loop-state
invariant-loop-state l = record {
  states : map (λ (s : Stored). s.state.now) l.stored.items ≡ map (λ (s : Stored). s.state.now) l.fn.stored.items ++ filter (λ (s : ConsensusState). nat_le l.revision s.revision) (take l.state-index l.states);
  files : map filed_state l.stored.items ≡ map filed_state l.fn.stored.items ++ filter (λ (f : FiledState). nat_le l.revision f.0.revision) (map (λ (s : ConsensusState). (s, l.file)) (take l.state-index l.states));
}
