use Rattle.std.proofs.Common.{◌≡◌, ◌≤◌, take}
use Rattle.std.specs.Prelude.{count_by}
use Rattle.rb_import_answers.specs.Answers.{marks_value}
use Rattle.rb_import_answers.proofs.answer.value_count.Given as goal

-- so many of the bytes so far mark a value, and there are no more than bytes
abbrev pub invariant-loop-byte : goal.invariant-loop-byte
invariant-loop-byte l = record {
  count : l.count ≡ count_by marks_value (take l.byte-index l.bytes);
  low : l.count ≤ l.byte-index;
}
