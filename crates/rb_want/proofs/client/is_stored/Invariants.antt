use Rattle.std.specs.Prelude.{◌≡◌, ◌==◌, false, map, take}
use Rattle.std.specs.List.{list_any}
use Rattle.rb_import_answers.specs.declared.client.ConsensusState.{ConsensusState}
use Rattle.rb_want.proofs.client.is_stored.Given as goal

-- none of the records so far is of the height
abbrev pub invariant-loop-record : goal.invariant-loop-record
invariant-loop-record l = list_any (λ (s : ConsensusState). s.height == l.height) (map (λ r. r.now) (take l.record-index l.records)) ≡ false
