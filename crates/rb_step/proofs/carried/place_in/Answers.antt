use Rattle.std.proofs.Common.{◌≡◌, position, sym, ap, ◌∙◌, subst}
use Rattle.std.specs.Cmp.Lexicographic.{bytes_decides}
use Rattle.std.specs.Option.{option_copied}
use Rattle.rb_valset.specs.Validator.{has_address}
use Rattle.rb_votes.specs.Voters.{power_at}
use Rattle.rb_step.specs.Carried.{power_in, members_of}
use Rattle.rb_step.proofs.CommitVoters.{power_same}
use Rattle.rb_step.proofs.Put.{place_power, found_power, none_power}
use Rattle.rb_step.proofs.carried.place_in.Goals as goal

pub returns-then-eq-clause-power : goal.returns-then-eq-clause-power
returns-then-eq-clause-power g c =
    let set = c.in-Some.set.now in
    let there = c.in-Some-get.ensures.lookup in
    let same = c.in-Some-get.same.now in
    subst (λ o. power_at (members_of o) c.args.place ≡ power_in o c.args.member.now) (sym (ap option_copied c.in-Some.is))
    (place_power set c.members.result.now c.args.place same c.members.ensures.members there.3.0 there.1
    ∙ power_same set c.members.result.now c.args.member.now same c.args.place c.members.ensures.set.distinct c.members.ensures.members there.3.0 there.1
    (sym c.address.ensures ∙ (bytes_decides _ _).0 (sym c.if-eq.ensures) ∙ c.address-in-Some-get.ensures))

pub returns-in-Some-position-clause-power : goal.returns-in-Some-position-clause-power
returns-in-Some-position-clause-power g c =
    let set = c.in-Some.set.now in
    let place = ap (λ a. position (has_address a) set) (sym c.address-2.ensures) ∙ sym c.in-Some-position.ensures.place in
    subst (λ o. power_at (members_of o) c.in-Some-position.found ≡ power_in o c.args.member.now) (sym (ap option_copied c.in-Some.is))
    (found_power set c.args.member.now c.in-Some-position.found place)

pub returns-in-None-clause-power : goal.returns-in-None-clause-power
returns-in-None-clause-power g c =
    let set = c.in-Some.set.now in
    let place = ap (λ a. position (has_address a) set) (sym c.address-2.ensures) ∙ sym c.in-None.ensures.place in
    subst (λ o. power_at (members_of o) c.size.result ≡ power_in o c.args.member.now) (sym (ap option_copied c.in-Some.is))
    (ap (λ n. power_at set n) c.size.ensures.value ∙ none_power set c.args.member.now place)
