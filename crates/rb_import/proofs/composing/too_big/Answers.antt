use Rattle.std.proofs.Common.{refl, subst, sym}
use Rattle.rb_import_check.specs.declared.error.ImportError.{ImportError}
use Rattle.rb_import_merge.specs.Errors.{IsToldIn}
use Rattle.rb_import.specs.Reasons.{IsOfSizeOf}
use Rattle.rb_import.proofs.Fitting.{of_alone}
use Rattle.rb_import.proofs.composing.too_big.Goals as goal

pub returns-in-Ok-clause-size : goal.returns-in-Ok-clause-size
returns-in-Ok-clause-size c =
    let Is : ImportError → Type 0 = IsOfSizeOf c.args.setup.now c.args.seen.now in
    of_alone Is c.of-problem.result c.alone.result c.alone.ensures (subst Is (sym c.of-problem.ensures) ((refl, refl, refl), (refl, (c.in-Ok.largest.now, c.in-Ok.ensures.largest, refl))))

pub returns-in-Ok-clause-told : goal.returns-in-Ok-clause-told
returns-in-Ok-clause-told c =
    let Is : ImportError → Type 0 = IsToldIn c.args.setup.now in
    of_alone Is c.of-problem.result c.alone.result c.alone.ensures (subst Is (sym c.of-problem.ensures) c.in-Ok.ensures.named)
