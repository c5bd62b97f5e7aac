use Rattle.std.proofs.Common.{◌≡◌, ◌+◌, ◌<◌, length, get_or, take, cond, arith, ap, sym, ◌∙◌}
use Rattle.std.specs.Prelude.{option_map}
use Rattle.std.proofs.lemmas.List.{take_all}
use Rattle.rb_import_check.proofs.Powers.{power_bound, power_from, power_more, power_none, power_whole}
use Rattle.rb_import_check.proofs.signed.signed_power.Goals as goal
use Rattle.rb_import_check.proofs.signed.signed_power.Goals.{then-counts_at, else-counts_at}

pub overflow_add-signed : goal.overflow_add-signed
overflow_add-signed c =
    let bound = power_bound c.args.signatures (option_map (λ v. v.now) c.args.commit.now.verdict) c.args.commit.now.header.now.signatures.items c.args.set.now c.loop-place.place in
    let total = c.members-member-items.ensures.set.total in
    omega (arith, bound, total, c.loop-place.invariant, c.power-signed.ensures.value, c.power-signed.ensures.range.1)

pub loop-place-preserved : goal.loop-place-preserved
loop-place-preserved c =
    let place = c.loop-place.place in
    let m = c.member-item.result in
    let verdict = option_map (λ v. v.now) c.args.commit.now.verdict in
    let votes = c.args.commit.now.header.now.signatures.items in
    let there : place < length c.args.set.now = omega (arith, ap length c.members-member-items.ensures.members) in
    let is : m ≡ get_or c.args.set.now place m = c.member-item.is ∙ ap (λ l. get_or l place m) c.members-member-items.ensures.members in
    let more : power_from c.args.signatures verdict 0 votes (take (place + 1) c.args.set.now) ≡ power_from c.args.signatures verdict 0 votes (take place c.args.set.now) + cond c.counts_at.result m.power 0 =
    power_more c.args.signatures verdict votes c.args.set.now place m there is
    ∙ ap (λ b. power_from c.args.signatures verdict 0 votes (take place c.args.set.now) + cond b m.power 0) (sym c.counts_at.ensures) in
    elim c.if-counts_at.branch [
      | then-counts_at w ↦ omega (arith, rw w.if-counts_at.true at more, w.signed-is, c.loop-place.invariant, w.power-signed.ensures.value)
      | else-counts_at w ↦ omega (arith, rw w.if-counts_at.false at more, w.signed-is, c.loop-place.invariant)
    ]

pub returns : goal.returns
returns c =
    let verdict = option_map (λ v. v.now) c.args.commit.now.verdict in
    let votes = c.args.commit.now.header.now.signatures.items in
    c.loop-place.invariant ∙ ap (power_from c.args.signatures verdict 0 votes) (take_all c.loop-place.place c.args.set.now (omega (arith, ap length c.members-member-items.ensures.members)))
    ∙ power_whole c.args.signatures verdict votes c.args.set.now

pub loop-place-init : goal.loop-place-init
loop-place-init c = power_none c.args.signatures (option_map (λ v. v.now) c.args.commit.now.verdict) c.args.commit.now.header.now.signatures.items c.args.set.now
