use Rattle.std.proofs.Common.{◌≡◌, arith, drop, map, sym, take, ◌++◌, ◌∙◌, ap, append-nil, Some}
use Rattle.std.specs.Option.{option_copied}
use Rattle.std.proofs.lemmas.Grind.{common_steps}
use Rattle.std.proofs.lemmas.List.{drop_min, take_min}
use Rattle.rb_messages.proofs.Files.{next, sent_by}
use Rattle.rb_messages.specs.Transactions.{batch_files, file_view, files_from, packets_at, sender_at}
use Rattle.rb_messages.proofs.transactions.transaction_files.Goals.{in-Some+in_ok-add_files, in_default}
use Rattle.rb_messages.proofs.transactions.transaction_files.Goals as goal

pub loop-place-preserved : goal.loop-place-preserved
loop-place-preserved c =
    let b = c.index-batches-place.result in
    let rest = c.loop-place.rest.now in
    let own : c.split_at.result.0.now ≡ take b.updates rest = grind (arith, take_min, c.split_at.ensures.front, c.min.ensures) in
    let behind : c.split_at.result.1.now ≡ drop b.updates rest = grind (arith, drop_min, c.split_at.ensures.back, c.min.ensures) in
    let added : map file_view c.match-sender_to.files.items ≡ map file_view c.loop-place.files.items ++ batch_files c.args.chains.now c.args.senders.now c.loop-place.place b c.split_at.result.0.now (packets_at c.args.packets.now c.loop-place.place) =
    elim c.match-sender_to.branch [
      | in-Some+in_ok-add_files w ↦
          (let is : sender_at c.args.senders.now b.host ≡ Some w.in-Some.sender.now = sym c.sender_to.ensures ∙ ap option_copied w.in-Some.is in
          sent_by c.args.chains.now c.args.senders.now c.args.packets.now c.loop-place.place b c.split_at.result.0.now (packets_at c.args.packets.now c.loop-place.place) w.in-Some.sender.now
          (map file_view c.loop-place.files.items) (map file_view c.match-sender_to.files.items) is
          (grind (arith, w.in_ok-add_files.ensures, w.files-is, w.id_of.ensures, w.texts_at.ensures)))
      | in_default w ↦ grind (arith, common_steps, append-nil, w.in_default.is, w.files-is, c.sender_to.ensures)
    ] in
    next c.args.chains.now c.args.senders.now c.args.packets.now c.args.batches.now c.loop-place.place b rest c.split_at.result.0.now c.split_at.result.1.now
    (map file_view c.loop-place.files.items) (map file_view c.match-sender_to.files.items)
    (files_from c.args.chains.now c.args.senders.now c.args.packets.now 0 c.args.batches.now c.args.updates.now)
    c.loop-place-test.true c.index-batches-place.is own behind added c.loop-place.invariant
