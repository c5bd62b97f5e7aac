use Rattle.std.proofs.Common.{◌≡◌, All, take}
use Rattle.rb_import_check.specs.declared.client.Stored.{Stored}
use Rattle.rb_import_check.proofs.client.judge_revisions.Given as goal

-- the records so far are of this revision
abbrev pub invariant-loop-record : goal.invariant-loop-record
invariant-loop-record l = All (λ (s : Stored). s.state.now.revision ≡ l.revision) (take l.record-index l.stored)
