use Rattle.std.proofs.Common.{rules, ◌+◌, ◌++◌, length, refl, subst, arith}
use Rattle.rb_batch.specs.Cut.{IsFirstTooBig}
use Rattle.rb_batch.proofs.FirstTooBig.{behind_big, same_index}
use Rattle.rb_batch.proofs.apart.cut_behind.Goals as goal

pub overflow_add-result : goal.overflow_add-result
overflow_add-result g c =
    let within = (c.in-Err-TooBig.ensures.too_big c.in-Err-TooBig.index (search rules)).place in
    omega (arith, within)

pub returns-in-Err-TooBig-clause-too_big : goal.returns-in-Err-TooBig-clause-too_big
returns-in-Err-TooBig-clause-too_big g c = λ index none is.
    subst (IsFirstTooBig c.args.limits (c.args.before.now ++ c.args.messages.now)) (same_index (length c.args.before.now + c.in-Err-TooBig.index) index _ refl is)
    (behind_big c.args.limits c.args.before.now c.args.messages.now c.in-Err-TooBig.index none (c.in-Err-TooBig.ensures.too_big c.in-Err-TooBig.index (search rules)))
