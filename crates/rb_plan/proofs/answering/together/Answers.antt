use Rattle.rb_plan.proofs.answering.together.Goals as goal

pub returns-clause-too_big : goal.returns-clause-too_big
returns-clause-too_big g c = λ index is.
    rw (c.config.ensures, c.as_slice.ensures.value, c.in_ok-gases.ensures) at
    c.cut.ensures.too_big index is
