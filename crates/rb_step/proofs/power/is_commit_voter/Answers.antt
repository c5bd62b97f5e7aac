use Rattle.std.proofs.Common.{List, get_or, position, sym, ap, ◌∙◌}
use Rattle.rb_valset.specs.Validator.{has_address}
use Rattle.rb_book.specs.Header.{is_commit}
use Rattle.rb_book.specs.declared.vote.Vote.{Vote}
use Rattle.rb_book.specs.declared.vote.Vote.TheVariants.{Commit}
use Rattle.std.proofs.Common.{ℕ}
use Rattle.rb_step.proofs.Voters.{voter_found, voter_missing}
use Rattle.rb_step.proofs.power.is_commit_voter.Goals as goal

pub returns-in-Some : goal.returns-in-Some
returns-in-Some g c =
    let place = ap (λ (a : List ℕ). position (has_address a) c.args.own.now) (sym c.address.ensures) ∙ sym c.in-Some.ensures.place in
    c.is_commit.ensures ∙ ap (λ (votes : List Vote). is_commit (get_or votes c.in-Some.place Commit)) c.votes.ensures
    ∙ voter_found c.args.own.now c.args.header.now c.args.member.now c.in-Some.place Commit c.in-Some.ensures.set c.requires.votes place

pub returns-in-None : goal.returns-in-None
returns-in-None g c =
    let place = ap (λ (a : List ℕ). position (has_address a) c.args.own.now) (sym c.address.ensures) ∙ sym c.in-None.ensures.place in
    sym (voter_missing c.args.own.now c.args.header.now c.args.member.now place)
