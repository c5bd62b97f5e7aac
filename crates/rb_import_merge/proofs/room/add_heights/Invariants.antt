use Rattle.std.proofs.Common.{◌≡◌, ◌++◌, map, take}
use Rattle.rb_import_check.specs.declared.client.Stored.{Stored}
use Rattle.rb_import_merge.proofs.room.add_heights.Given as goal

-- the heights of the records so far stand behind what was there
abbrev pub invariant-loop-record : goal.invariant-loop-record
invariant-loop-record l = l.heights.items ≡ l.fn.heights.items ++ map (λ (s : Stored). s.state.now.height) (take l.record-index l.stored)
