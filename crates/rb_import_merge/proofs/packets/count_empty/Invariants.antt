use Rattle.std.proofs.Common.{◌≡◌, ◌≤◌, take}
use Rattle.std.specs.Prelude.{count_by}
use Rattle.rb_import_merge.specs.Packets.{is_silent}
use Rattle.rb_import_merge.proofs.packets.count_empty.Given as goal

-- so many of the answers so far tell of no packet, and there are no more than answers
abbrev pub invariant-loop-saved : goal.invariant-loop-saved
invariant-loop-saved l = record {
  count : l.count ≡ count_by is_silent (take l.saved-index l.answers);
  low : l.count ≤ l.saved-index;
}
