use Rattle.std.proofs.Common.{◌≡◌, ◌∙◌, ◌+◌, ◌-◌, ◌≤◌, ℕ, ap, subst, arith, List, take, sum_by}
use Rattle.std.proofs.lemmas.Bool.{iff_false}
use Rattle.rb_base.specs.Fraction.{Exceeds}
use Rattle.rb_valset.specs.Validator.{Member, address_of}
use Rattle.rb_valset.specs.ValidatorSet.{total_of}
use Rattle.rb_cert.specs.Places.{IsMarked}
use Rattle.rb_cert.specs.Voters.{mark_of}
use Rattle.rb_cert.proofs.MarkedVoters.{missing, one_less, power_left, same_left, too_few}
use Rattle.rb_cert.proofs.voters.VoterMarks.rule_out.Goals as goal
use Rattle.rb_cert.proofs.voters.VoterMarks.rule_out.Goals.{then-not-contains+else-not-is_exceeded_by, else-not-contains}

pub overflow_sub-most : goal.overflow_sub-most
overflow_sub-most g c =
    let left = power_left c.args.self.now.words c.members-member-items.result.now c.loop-member.member-index c.loop-member.most c.member-item.result c.loop-member-test.true c.member-item.is c.loop-member.invariant in
    omega (arith, left, c.power-most.ensures.value)

pub loop-member-preserved : goal.loop-member-preserved
loop-member-preserved g c =
    let words = c.args.self.now.words in
    let items = c.members-member-items.result.now in
    let i = c.loop-member.member-index in
    let most = c.loop-member.most in
    let m = c.member-item.result in
    let mark : c.mark_of.result ≡ mark_of (address_of m.key) = c.mark_of.ensures.value ∙ ap mark_of c.address.ensures in
    let left : m.power ≤ most = power_left words items i most m c.loop-member-test.true c.member-item.is c.loop-member.invariant in
    elim c.if-not-contains.branch [
      | then-not-contains+else-not-is_exceeded_by w ↦
          let not : ¬ IsMarked words (mark_of (address_of m.key)) = subst (λ (n : ℕ). ¬ IsMarked words n) mark (iff_false c.contains.ensures w.if-not-contains.true) in
          one_less words items i most m c.loop-member-test.true c.member-item.is c.loop-member.invariant c.if-not-contains.most not (omega (arith, w.most-is, w.power-most.ensures.value, left))
      | else-not-contains w ↦
          let marked : IsMarked words (mark_of (address_of m.key)) = subst (IsMarked words) mark (c.contains.ensures.0 w.if-not-contains.false) in
          rw w.most-is (same_left words items i most m c.loop-member-test.true c.member-item.is c.loop-member.invariant marked)
    ]

pub returns-then-not-is_exceeded_by : goal.returns-then-not-is_exceeded_by
returns-then-not-is_exceeded_by g c ruled own h marks =
    let words = c.args.self.now.words in
    let items = c.members-member-items.result.now in
    let i = c.loop-member.member-index in
    let most = c.loop-member.most in
    let m = c.member-item.result in
    let left = most - c.power-most.result in
    let mark : c.mark_of.result ≡ mark_of (address_of m.key) = c.mark_of.ensures.value ∙ ap mark_of c.address.ensures in
    let not : ¬ IsMarked words (mark_of (address_of m.key)) = subst (λ (n : ℕ). ¬ IsMarked words n) mark (iff_false c.contains.ensures c.if-not-contains.true) in
    let fits : m.power ≤ most = power_left words items i most m c.loop-member-test.true c.member-item.is c.loop-member.invariant in
    let rest : left + sum_by (missing words) (take (i + 1) items) ≡ total_of items =
    one_less words items i most m c.loop-member-test.true c.member-item.is c.loop-member.invariant left not (omega (arith, c.power-most.ensures.value, fits)) in
    let few : ¬ Exceeds left (total_of c.args.set.now) c.args.trust =
    subst (λ (t : ℕ). ¬ Exceeds left t c.args.trust) c.total-total.ensures.value (iff_false c.is_exceeded_by.ensures c.if-not-is_exceeded_by.true) in
    too_few words own h marks c.args.set.now (i + 1) left c.args.trust
    (subst (λ (ms : List Member). left + sum_by (missing words) (take (i + 1) ms) ≡ total_of ms) c.members-member-items.ensures.members rest) few
