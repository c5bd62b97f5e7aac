use Rattle.std.proofs.Common.{◌≡◌, List, Some, None, sym, ap, ◌∙◌, set}
use Rattle.std.specs.List.{find, slice_get}
use Rattle.rb_book.specs.Search.{IsKnownPlace, IsNewPlace}
use Rattle.rb_scan.specs.Packet.{Packet}
use Rattle.rb_core_state.specs.Marked.{mark_by}
use Rattle.rb_core_model.proofs.Marks.{has}
use Rattle.rb_core_state.proofs.Places.{found}
use Rattle.rb_core_state.proofs.Replaced.{marked_there, marked_nowhere}
use Rattle.rb_core_state.proofs.packets.put_mark.Goals as goal

pub returns-in-Ok-clause-items : goal.returns-in-Ok-clause-items
returns-in-Ok-clause-items g c =
    let ps = c.args.packets.now.items in
    let known : IsKnownPlace (has c.args.sequence) ps c.in-Ok.place = rw c.as_slice.ensures.value at c.in-Ok.ensures in
    ap (set ps c.in-Ok.place) c.put.ensures
    ∙ sym (marked_there (mark_by c.args.mark) c.args.sequence ps c.in-Ok.place c.index.result.now c.requires known.found (found ps c.in-Ok.place c.index.result.now known.within c.index.ensures))

pub returns-in_default-clause-items : goal.returns-in_default-clause-items
returns-in_default-clause-items g c =
    let ps = c.args.packets.now.items in
    let new : IsNewPlace (has c.args.sequence) _ ps c.in_default.field-0 = rw c.as_slice.ensures.value at c.in_default.ensures in
    sym (marked_nowhere (mark_by c.args.mark) c.args.sequence ps new.absent)
