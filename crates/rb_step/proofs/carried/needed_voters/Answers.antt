use Rattle.std.proofs.Common.{◌≡◌, ap, ◌∙◌, subst}
use Rattle.std.specs.Prelude.{IfOk}
use Rattle.std.specs.Option.{option_copied}
use Rattle.std.proofs.lemmas.List.Sorted.{IsPermutation-refl}
use Rattle.rb_votes.specs.Votes.{sent_votes}
use Rattle.rb_step.specs.Carried.{voters_of}
use Rattle.rb_step.proofs.carried.needed_voters.Goals as goal

pub returns : goal.returns
returns g c =
    let list = c.put_voters.new.voters.list in
    subst (λ vs. IfOk c.sent_votes.result (λ voters. voters.items ≡ vs))
    (ap (λ vs. sent_votes c.needed_of-needed.result vs) c.put_voters.ensures.voters
    ∙ ap (λ n. sent_votes n (voters_of (option_copied c.args.next) c.args.header.now c.args.own.now)) c.needed_of-needed.ensures)
    (c.sent_votes.ensures list c.put_voters.ensures.places (IsPermutation-refl list))
