use Rattle.std.proofs.Common.{◌≡◌, ◌++◌, map, string_bytes}
use Rattle.rb_import_answers.specs.Said.{plain}
use Rattle.rb_import_answers.proofs.said.push_plain.Given as goal

-- the characters so far stand behind what was there
abbrev pub invariant-loop-character : goal.invariant-loop-character
invariant-loop-character l = string_bytes l.text ≡ string_bytes l.initial.text ++ map plain l.yielded
