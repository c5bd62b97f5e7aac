use Rattle.std.proofs.Common.{◌≡◌, ℕ, ◌<◌, length, refl, ap, ◌∙◌, arith}
use Rattle.std.specs.Prelude.{max, slice_index_or}
use Rattle.rb_core_state.proofs.Forgotten.{upto, upto-step, upto-all}
use Rattle.rb_follow.proofs.tidying.raise.Goals as goal

pub loop-chain-preserved : goal.loop-chain-preserved
loop-chain-preserved c =
    let old = c.args.floors.now in
    let higher : ℕ → ℕ → ℕ = λ chain floor. max floor (slice_index_or c.args.before.now chain 0) in
    let within : c.loop-chain.chain < length old.items = omega (arith, c.loop-chain-test.true, c.len-chain-end.ensures, old.ok.0) in
    upto-step higher c.loop-chain.chain old.items c.loop-chain.floors.items _ c.index.result.now c.max.result within c.loop-chain.invariant c.index.ensures
    (c.max.ensures ∙ ap (max c.index.result.now) c.forgotten_of.ensures) refl

pub returns : goal.returns
returns c =
    let old = c.args.floors.now in
    let higher : ℕ → ℕ → ℕ = λ chain floor. max floor (slice_index_or c.args.before.now chain 0) in
    let end : c.loop-chain.chain ≡ length old.items = omega (arith, c.loop-chain-test.false, c.loop-chain.auto.chain-end, c.len-chain-end.ensures, old.ok.0) in
    c.loop-chain.invariant ∙ ap (λ k. upto higher 0 k old.items) end ∙ upto-all higher 0 old.items
