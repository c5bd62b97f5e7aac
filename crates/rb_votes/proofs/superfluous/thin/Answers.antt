use Rattle.std.proofs.Common.{◌-◌, sym, subst, arith}
use Rattle.std.proofs.lemmas.Bool.{iff_false}
use Rattle.rb_votes.proofs.Thinning.{IsThinned, thinning_goes, thinning_stays}
use Rattle.rb_votes.proofs.superfluous.thin.Goals as goal

pub loop-i-preserved : goal.loop-i-preserved
loop-i-preserved g c =
    thinning_stays c.args.needed c.args.votes.now.items c.loop-i.votes.items c.loop-i.i (c.loop-i.i - 1) c.loop-i.own c.loop-i.trusted c.index-voter.result.now
    c.loop-i.invariant (omega arith) c.index-voter.ensures (λ own trusted. iff_false c.is_enough.ensures c.if-is_enough.false (omega (arith, own), omega (arith, trusted)))

pub loop-i-preserved-then-is_enough : goal.loop-i-preserved-then-is_enough
loop-i-preserved-then-is_enough g c =
    let needed = c.args.needed in
    let old = c.args.votes.now.items in
    let new = c.remove.new.self.items in
    let i = c.loop-i.i - 1 in
    let v = c.index-voter.result.now in
    let enough = c.is_enough.ensures.0 c.if-is_enough.true in
    subst (λ n. IsThinned needed old new i (c.loop-i.own - n) (c.loop-i.trusted - c.from-in-loop-i.result)) (sym c.from.ensures)
    (subst (λ n. IsThinned needed old new i (c.loop-i.own - v.own) (c.loop-i.trusted - n)) (sym c.from-in-loop-i.ensures)
    (thinning_goes needed old c.loop-i.votes.items c.loop-i.i i c.loop-i.own c.loop-i.trusted v
    c.loop-i.invariant (omega arith) c.index-voter.ensures (omega (arith, enough.0)) (omega (arith, enough.1)) new c.remove.ensures.items))
