use Rattle.std.proofs.Common.{ap, arith, List, length}
use Rattle.std.specs.Option.{option_copied}
use Rattle.rb_valset.specs.Validator.{Member}
use Rattle.rb_step.proofs.Walked.{none_wanted, none_there, over_count, over_lacks}
use Rattle.rb_step.proofs.carried.first_votes.Goals as goal

pub returns-then-left-eq0-clause-count : goal.returns-then-left-eq0-clause-count
returns-then-left-eq0-clause-count g c =
    let next = option_copied c.args.next in
    let l = c.loop-place in
    over_count next c.args.own.now c.args.header.now c.args.needed l.place l.count l.left l.lacking c.members-member-items.ensures.set l.invariant
    (none_wanted next c.args.own.now c.args.header.now c.args.needed l.place l.left c.if-left-eq0.true)

pub returns-then-left-eq0-clause-lacking : goal.returns-then-left-eq0-clause-lacking
returns-then-left-eq0-clause-lacking g c =
    let next = option_copied c.args.next in
    let l = c.loop-place in
    over_lacks next c.args.own.now c.args.header.now c.args.needed l.place l.count l.left l.lacking c.members-member-items.ensures.set l.invariant
    (none_wanted next c.args.own.now c.args.header.now c.args.needed l.place l.left c.if-left-eq0.true)

pub returns-clause-count : goal.returns-clause-count
returns-clause-count g c =
    let next = option_copied c.args.next in
    let l = c.loop-place in
    let same = ap (λ (ms : List Member). length ms) c.members-member-items.ensures.members in
    over_count next c.args.own.now c.args.header.now c.args.needed l.place l.count l.left l.lacking c.members-member-items.ensures.set l.invariant
    (none_there next c.args.own.now c.args.header.now c.args.needed l.place l.left (omega (arith, same)))

pub returns-clause-lacking : goal.returns-clause-lacking
returns-clause-lacking g c =
    let next = option_copied c.args.next in
    let l = c.loop-place in
    let same = ap (λ (ms : List Member). length ms) c.members-member-items.ensures.members in
    over_lacks next c.args.own.now c.args.header.now c.args.needed l.place l.count l.left l.lacking c.members-member-items.ensures.set l.invariant
    (none_there next c.args.own.now c.args.header.now c.args.needed l.place l.left (omega (arith, same)))
