use Rattle.std.proofs.Common.{◌∙◌, ◌<◌, sym, subst, length, List}
use Rattle.std.specs.List.{All}
use Rattle.std.specs.Option.{option_copied}
use Rattle.rb_votes.specs.declared.voter.Voter.{Voter}
use Rattle.rb_step.proofs.SentTo.{needed_places}
use Rattle.rb_step.proofs.step.Step.sent_votes.Goals as goal

pub addresses_at-requires : goal.addresses_at-requires
addresses_at-requires g c =
    let i = c.self.inside in
    subst (λ (ws : List Voter). All (λ v. v.place < length i.own.now) ws) (sym (c.as_slice.ensures.value ∙ c.in_ok-voters.ensures))
    (needed_places c.args.options.now i.trusted_height (option_copied i.next) i.header.now i.own.now)
