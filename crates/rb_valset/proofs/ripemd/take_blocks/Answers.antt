use Rattle.std.proofs.Common.{◌≡◌, ◌+◌, ◌-◌, ◌*◌, ℕ, drop, take, refl, ap, ◌∙◌, arith}
use Rattle.rb_valset.specs.Ripemd.{compress, hash_after}
use Rattle.rb_valset.proofs.RipemdBlocks.{hash_after-more}
use Rattle.rb_valset.proofs.ripemd.take_blocks.Goals as goal

pub loop-place-init : goal.loop-place-init
unfolding hash_after
loop-place-init c = refl

pub loop-place-preserved : goal.loop-place-preserved
loop-place-preserved c =
    let at = c.loop-place.place * 64 in
    let size : at + 64 - at ≡ 64 = omega arith in
    c.compress.ensures ∙ hash_after-more c.args.hash.now c.args.blocks.now _ _ c.loop-place.place c.loop-place.invariant (ap (λ (n : ℕ). take n (drop at c.args.blocks.now)) size)
