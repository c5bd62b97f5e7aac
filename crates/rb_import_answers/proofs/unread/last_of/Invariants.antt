use Rattle.std.proofs.Common.{◌≡◌, drop}
use Rattle.std.specs.Prelude.{None}
use Rattle.rb_import_answers.specs.Unread.{last_of}
use Rattle.rb_import_answers.proofs.unread.last_of.Given as goal

-- the last byte is that of the bytes that are left, or else the last one before them
abbrev pub invariant-loop-byte : goal.invariant-loop-byte
invariant-loop-byte l = last_of l.last (drop l.byte-index l.bytes) ≡ last_of None l.bytes
