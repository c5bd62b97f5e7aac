use Rattle.std.proofs.Common.{◌-◌, ◌+◌, ◌∙◌, sym, arith, map}
use Rattle.rb_ics23.specs.Proof.{inner_view}
use Rattle.rb_ics23.proofs.Steps.{at_end, too_many, no_step, one_more, pushed}
use Rattle.rb_ics23.proofs.read.path_in.Goals as goal

pub returns-then-is_empty : goal.returns-then-is_empty
returns-then-is_empty c =
    at_end _ (128 - c.loop-i._i) c.loop-i.rest.now _ (sym c.is_empty.ensures ∙ c.if-is_empty.true) c.loop-i.invariant

pub returns-in_default : goal.returns-in_default
returns-in_default c =
    no_step (map inner_view c.loop-i.path.items) (128 - c.loop-i._i) c.loop-i.rest.now _ (omega arith)
    (sym c.is_empty.ensures ∙ c.if-is_empty.false) c.in_default.ensures c.loop-i.invariant

pub loop-i-preserved : goal.loop-i-preserved
loop-i-preserved c =
    pushed _ _ c.in-Some.step _ _ _ c.in_ok-push.ensures.items
    (one_more _ (128 - c.loop-i._i) (128 - (c.loop-i._i + 1)) c.loop-i.rest.now _ _ _ (omega arith)
    (sym c.is_empty.ensures ∙ c.if-is_empty.false) c.in-Some.ensures c.loop-i.invariant)

pub returns-then-is_empty-2 : goal.returns-then-is_empty-2
returns-then-is_empty-2 c =
    at_end _ (128 - c.loop-i._i) c.loop-i.rest.now _ (sym c.is_empty-2.ensures ∙ c.if-is_empty-2.true) c.loop-i.invariant

pub returns : goal.returns
returns c =
    too_many (map inner_view c.loop-i.path.items) (128 - c.loop-i._i) c.loop-i.rest.now _ (omega arith)
    (sym c.is_empty-2.ensures ∙ c.if-is_empty-2.false) c.loop-i.invariant
