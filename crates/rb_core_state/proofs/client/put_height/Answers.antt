use Rattle.std.proofs.Common.{◌≡◌, sym, ◌∙◌}
use Rattle.rb_book.specs.Search.{IsKnownPlace, IsNewPlace}
use Rattle.rb_core_model.proofs.Rising.{height_rises}
use Rattle.rb_core_state.proofs.Stored.{height_new, height_known}
use Rattle.rb_core_state.proofs.client.put_height.Goals as goal

pub returns-in-Err-clause-items : goal.returns-in-Err-clause-items
returns-in-Err-clause-items g c =
    let hs = c.args.heights.now.items in
    let new : IsNewPlace _ _ hs c.in-Err.place = rw c.as_slice.ensures.value at c.in-Err.ensures in
    rw c.unwrap.ensures at c.insert.ensures.items ∙ sym (height_new c.args.height hs c.in-Err.place new)

pub returns-in-Err-clause-rising : goal.returns-in-Err-clause-rising
returns-in-Err-clause-rising g c =
    let hs = c.args.heights.now.items in
    let new : IsNewPlace _ _ hs c.in-Err.place = rw c.as_slice.ensures.value at c.in-Err.ensures in
    rw (rw c.unwrap.ensures at c.insert.ensures.items, sym (height_new c.args.height hs c.in-Err.place new)) (height_rises c.args.height hs c.requires.rising)

pub returns-in_default-clause-items : goal.returns-in_default-clause-items
returns-in_default-clause-items g c =
    let hs = c.args.heights.now.items in
    let known : IsKnownPlace _ hs c.in_default.field-0 = rw c.as_slice.ensures.value at c.in_default.ensures in
    sym (height_known c.args.height hs c.in_default.field-0 known)
