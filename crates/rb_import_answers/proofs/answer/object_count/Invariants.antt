use Rattle.std.proofs.Common.{◌≡◌, ◌≤◌, take}
use Rattle.std.specs.Prelude.{count_by}
use Rattle.rb_import_answers.specs.Answers.{begins_object}
use Rattle.rb_import_answers.proofs.answer.object_count.Given as goal

-- so many of the bytes so far begin an object, and there are no more than bytes
abbrev pub invariant-loop-byte : goal.invariant-loop-byte
invariant-loop-byte l = record {
  count : l.count ≡ count_by begins_object (take l.byte-index l.bytes);
  low : l.count ≤ l.byte-index;
}
