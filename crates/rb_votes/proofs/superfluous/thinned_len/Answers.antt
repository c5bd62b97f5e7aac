use Rattle.std.proofs.Common.{◌-◌, take, sym, ◌∙◌, subst, arith}
use Rattle.std.proofs.lemmas.Bool.{iff_false}
use Rattle.std.proofs.lemmas.List.{get_or-take, length-take-le}
use Rattle.rb_votes.proofs.Counted.{IsCounted, counting_goes, counting_stays, counted_le}
use Rattle.rb_votes.proofs.superfluous.thinned_len.Goals as goal

pub loop-i-preserved : goal.loop-i-preserved
loop-i-preserved c =
    let list = c.args.voters.now.list in
    let i = c.loop-i.i - 1 in
    let v = c.get-voter.result in
    counting_stays c.args.needed (take c.args.count list) c.loop-i.i i c.loop-i.own c.loop-i.trusted c.loop-i.left v c.loop-i.invariant (omega arith)
    (c.get-voter.ensures ∙ sym (get_or-take c.args.count list i v (omega arith)))
    (λ own trusted. iff_false c.is_enough.ensures c.if-is_enough.false (omega (arith, own), omega (arith, trusted)))

pub loop-i-preserved-then-is_enough : goal.loop-i-preserved-then-is_enough
loop-i-preserved-then-is_enough c =
    let needed = c.args.needed in
    let list = c.args.voters.now.list in
    let votes = take c.args.count list in
    let i = c.loop-i.i - 1 in
    let v = c.get-voter.result in
    let enough = c.is_enough.ensures.0 c.if-is_enough.true in
    subst (λ n. IsCounted needed votes i (c.loop-i.own - n) (c.loop-i.trusted - c.from-in-loop-i.result) (c.loop-i.left - 1)) (sym c.from.ensures)
    (subst (λ n. IsCounted needed votes i (c.loop-i.own - v.own) (c.loop-i.trusted - n) (c.loop-i.left - 1)) (sym c.from-in-loop-i.ensures)
    (counting_goes needed votes c.loop-i.i i c.loop-i.own c.loop-i.trusted c.loop-i.left v c.loop-i.invariant (omega arith)
    (c.get-voter.ensures ∙ sym (get_or-take c.args.count list i v (omega arith))) (omega (arith, enough.0)) (omega (arith, enough.1))))

pub returns-clause-within : goal.returns-clause-within
returns-clause-within c =
    let votes = take c.args.count c.args.voters.now.list in
    omega (
      arith,
      counted_le c.args.needed votes c.loop-i.i c.loop-i.own c.loop-i.trusted c.loop-i.left c.loop-i.invariant,
      length-take-le c.args.count c.args.voters.now.list c.requires,
    )
