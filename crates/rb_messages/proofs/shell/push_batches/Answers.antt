use Rattle.std.proofs.Common.{◌≡◌, ◌++◌, ◌-◌, ap, arith, drop, length, length-drop, refl, string_bytes, take}
use Rattle.std.proofs.lemmas.List.{drop_min, take_min}
use Rattle.rb_messages.proofs.Batches.{next_batch}
use Rattle.rb_messages.specs.Shell.{batches_text}
use Rattle.rb_messages.proofs.shell.push_batches.Goals as goal

pub loop-place-preserved : goal.loop-place-preserved
loop-place-preserved c =
    let b = c.index-batches-place.result in
    let rest = c.loop-place.rest.now in
    let own : c.split_at.result.0.now ≡ take b.updates rest = grind (arith, take_min, c.split_at.ensures.front, c.min.ensures) in
    let behind : c.split_at.result.1.now ≡ drop b.updates rest = grind (arith, drop_min, c.split_at.ensures.back, c.min.ensures) in
    record {
      text = next_batch c.args.chains.now c.args.senders.now c.args.files.now c.args.updates.now c.args.batches.now c.loop-place.place b rest
          c.split_at.result.0.now c.split_at.result.1.now (length c.args.updates.now - length rest) (string_bytes c.loop-place.text) (string_bytes c.push_batch.new.text)
          (string_bytes c.args.text.now ++ batches_text c.args.chains.now c.args.senders.now c.args.files.now c.args.updates.now 0 c.args.batches.now c.args.updates.now)
          c.loop-place-test.true c.index-batches-place.is own behind refl c.in_ok-push_batch.ensures c.loop-place.invariant.text;
      within = omega (arith, c.loop-place.invariant.within, ap length behind, length-drop b.updates rest);
    }
