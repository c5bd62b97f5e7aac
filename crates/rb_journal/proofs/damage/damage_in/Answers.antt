use Rattle.std.proofs.Common.{◌≡◌, ◌+◌, ap, ◌∙◌, length, None, true, false, length-append, rules, arith}
use Rattle.rb_journal.specs.Parts.{part_end, digest_holds, lost_mark}
use Rattle.rb_journal.proofs.Ends.{part-some}
use Rattle.rb_journal.proofs.Damages.{checked-then, damaged-part, damaged-end, intact}
use Rattle.rb_journal.proofs.damage.damage_in.Goals as goal

pub loop-part-smaller : goal.loop-part-smaller
loop-part-smaller c =
    let all : length c.loop-part.rest.now ≡ length c.in-Some.part.now + length c.in-Some.more.now = ap length c.in-Some.ensures.0 ∙ length-append c.in-Some.part.now c.in-Some.more.now in
    let some = part-some c.in-Some.part.now c.in-Some.ensures.1 in
    omega arith

pub loop-part-preserved : goal.loop-part-preserved
loop-part-preserved c =
    let holds : digest_holds c.in-Some.part.now ≡ true = search rules in
    checked-then c.args.bytes.now c.loop-part.rest.now c.in-Some.part.now c.in-Some.more.now c.loop-part.invariant c.in-Some.ensures.0 c.in-Some.ensures.1 holds

pub returns-then-not-holds : goal.returns-then-not-holds
returns-then-not-holds c =
    let other : digest_holds c.in-Some.part.now ≡ false = search rules in
    damaged-part c.args.bytes.now c.loop-part.rest.now c.in-Some.part.now c.in-Some.more.now c.loop-part.invariant c.in-Some.ensures.0 c.in-Some.ensures.1 other

pub returns-then-lost : goal.returns-then-lost
returns-then-lost c =
    let none : part_end c.loop-part.rest.now ≡ None = search rules in
    let lost : lost_mark c.loop-part.rest.now ≡ true = search rules in
    damaged-end c.args.bytes.now c.loop-part.rest.now c.loop-part.invariant none lost

pub returns : goal.returns
returns c =
    let none : part_end c.loop-part.rest.now ≡ None = search rules in
    let ends : lost_mark c.loop-part.rest.now ≡ false = search rules in
    intact c.args.bytes.now c.loop-part.rest.now c.loop-part.invariant none ends
