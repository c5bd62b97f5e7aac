use Rattle.std.proofs.Common.{All, take}
use Rattle.rb_import_check.specs.Accord.{AgreesWith}
use Rattle.rb_import_check.proofs.accord.judge_records.Given as goal

-- the records so far are as the headers of their heights
abbrev pub invariant-loop-record : goal.invariant-loop-record
invariant-loop-record l = All (AgreesWith l.chain.commits.items) (take l.record-index l.stored)
