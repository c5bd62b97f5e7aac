use Rattle.std.proofs.Common.{ap, ◌∙◌}
use Rattle.rb_valset.specs.Ripemd.{digest_bytes, initial_hash, ripemd160}
use Rattle.rb_valset.proofs.RipemdBlocks.{hashed}
use Rattle.rb_valset.proofs.ripemd.ripemd160.Goals as goal

pub returns : goal.returns
unfolding ripemd160
returns c =
    let parts = c.split_at.ensures in
    let tail = c.as_slice.ensures.value ∙ c.tail_of-tail.ensures in
    c.digest_bytes.ensures
    ∙ ap digest_bytes (hashed c.args.message.now c.split_at.result.0.now c.split_at.result.1.now c.as_slice.result.now initial_hash c.take_blocks.new.hash c.take_blocks-2.new.hash parts.front parts.back tail c.take_blocks.ensures c.take_blocks-2.ensures)
