use Rattle.std.proofs.Common.{◌≡◌, ℕ, replicate, ap, ◌∙◌, arith}
use Rattle.rb_core_model.specs.Machine.{no_scans}
use Rattle.rb_core.proofs.copies.new_scans.Goals as goal

pub returns : goal.returns
returns g c =
    let all : c.loop.counter ≡ c.args.paths = omega (arith, c.loop-test.false, c.loop.auto.counter-end) in
    c.loop.invariant ∙ ap (λ (n : ℕ). replicate n no_scans) all
