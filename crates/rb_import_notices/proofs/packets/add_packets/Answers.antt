use Rattle.std.proofs.Common.{◌≡◌, ◌++◌, append-nil, map, subst, sym}
use Rattle.std.proofs.lemmas.Option.{slice_get_past}
use Rattle.std.specs.Prelude.{None, slice_get}
use Rattle.rb_import_merge.specs.Seen.{answers_at}
use Rattle.rb_import_notices.specs.Packets.{left_out_in, packet_left_out, told_of}
use Rattle.rb_import_notices.proofs.packets.add_packets.Goals as goal

pub returns-in-None : goal.returns-in-None
returns-in-None c =
    let at = c.args.path in
    let none : slice_get c.args.seen.now.paths.items at ≡ None =
    subst (λ xs. slice_get xs at ≡ None) c.deref.ensures.value (slice_get_past c.deref.result.now at c.in-None.ensures.lookup.3) in
    let before = c.args.list.now.items in
    subst (λ found. before ≡ before ++ map (packet_left_out (answers_at c.args.answers.now.paths.items at) at) (told_of (left_out_in found))) (sym none) (sym (append-nil before))
