use Rattle.std.specs.Prelude.{map, take}
use Rattle.rb_want.specs.Needs.{IsStart}
use Rattle.rb_want.proofs.client.first_for.Given as goal

-- the greatest of the records so far
abbrev pub invariant-loop-record : goal.invariant-loop-record
invariant-loop-record l = IsStart (map (λ r. r.now) (take l.record-index l.records)) l.most l.first
