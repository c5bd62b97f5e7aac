use Rattle.std.proofs.Common.{◌≡◌, ◌≤◌, ◌-◌, [], take, drop}
use Rattle.rb_journal.specs.Parts.{end_from}
use Rattle.rb_journal.proofs.parts.part_end.Given as goal

-- the bytes of the last line are those from its start on
abbrev pub invariant-loop-place : goal.invariant-loop-place
invariant-loop-place l = record {
  before : l.line_start ≤ l.place;
  so_far : end_from 0 [] l.bytes ≡ end_from l.place (take (l.place - l.line_start) (drop l.line_start l.bytes)) (drop l.place l.bytes);
}
