use Rattle.rb_plan.proofs.answering.apart.Goals as goal

pub returns-clause-too_big : goal.returns-clause-too_big
returns-clause-too_big g c = λ index is.
    rw (c.config.ensures, c.as_slice.ensures.value, c.as_slice-2.ensures.value, c.in_ok-front.ensures, c.in_ok-back.ensures) at
    c.cut_apart.ensures.too_big index is
