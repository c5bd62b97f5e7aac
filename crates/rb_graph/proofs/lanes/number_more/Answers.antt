use Rattle.std.proofs.Common.{subst, arith}
use Rattle.std.proofs.lemmas.List.{length-take}
use Rattle.rb_graph.specs.Numbering.{IsNumbered, AreNumbered}
use Rattle.rb_graph.proofs.Numbering.{intern_step, all-whole}
use Rattle.rb_graph.proofs.Laned.{extends_none, extends_again, extends_intern}
use Rattle.rb_graph.proofs.lanes.number_more.Goals as goal

pub loop-member-init : goal.loop-member-init
loop-member-init g c = record {
  extends = extends_none c.args.columns.now;
  numbered = λ k d lt. absurd (omega (arith, length-take 0 c.members-member-items.result.now));
}

pub loop-member-preserved : goal.loop-member-preserved
loop-member-preserved g c =
    let old = c.loop-member.columns in
    let new = c.intern.new.self in
    let a = c.address.result.now in
    let keys = c.in_ok-intern.ensures.keys in
    record {
      extends = extends_again c.args.columns.now old new c.loop-member.invariant.extends (extends_intern old new a keys);
      numbered = intern_step old new a c.members-member-items.result.now c.loop-member.member-index c.member-item.result keys c.address.ensures (omega arith) c.member-item.is c.loop-member.invariant.numbered;
    }

pub returns-clause-numbered : goal.returns-clause-numbered
returns-clause-numbered g c =
    let columns = c.loop-member.columns in
    let members = c.members-member-items.result.now in
    subst (AreNumbered columns) c.members-member-items.ensures.members
    (all-whole (IsNumbered columns) members c.loop-member.member-index (omega arith) c.loop-member.invariant.numbered)
