use Rattle.std.proofs.Common.{◌≡◌, filter, take}
use Rattle.rb_import_check.specs.declared.client.Stored.{Stored}
use Rattle.rb_import_merge.specs.Room.{AreThose, IsKept, is_kept}
use Rattle.rb_import_merge.proofs.room.kept_of.Given as goal

-- of the records so far these are those that are kept, in their order
abbrev pub invariant-loop-record : goal.invariant-loop-record
invariant-loop-record l = record {
  those : AreThose (λ (s : Stored). IsKept l.chain l.book s.state.now.height) (λ (s : Stored). ¬ IsKept l.chain l.book s.state.now.height) (take l.record-index l.stored) l.kept.items;
  order : l.kept.items ≡ filter (λ (s : Stored). is_kept l.chain l.book s.state.now.height) (take l.record-index l.stored);
}
