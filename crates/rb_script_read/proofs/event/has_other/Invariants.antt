use Rattle.std.proofs.Common.{◌≡◌, take}
use Rattle.std.specs.List.{list_any}
use Rattle.rb_script_read.proofs.Letters.{is_other}
use Rattle.rb_script_read.proofs.event.has_other.Given as goal

abbrev pub invariant-loop-letter : goal.invariant-loop-letter
invariant-loop-letter l = l.has_other ≡ list_any is_other (take l.letter-index l.letters)
