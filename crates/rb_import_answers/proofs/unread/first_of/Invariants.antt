use Rattle.std.proofs.Common.{◌≡◌, drop}
use Rattle.rb_import_answers.specs.Unread.{first_of}
use Rattle.rb_import_answers.proofs.unread.first_of.Given as goal

-- the first byte is that of the bytes that are left
abbrev pub invariant-loop-byte : goal.invariant-loop-byte
invariant-loop-byte l = first_of (drop l.byte-index l.bytes) ≡ first_of l.bytes
