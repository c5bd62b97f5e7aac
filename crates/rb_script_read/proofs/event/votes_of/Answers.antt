use Rattle.std.proofs.Common.{◌<◌, List, [], length, set, refl, sym, subst, ◌∙◌, arith}
use Rattle.std.proofs.lemmas.List.{length-set}
use Rattle.rb_book.specs.declared.vote.Vote.{Vote}
use Rattle.rb_script_toml.specs.Faults.{Fails}
use Rattle.rb_script_toml.specs.Fields.{field_view}
use Rattle.rb_script_toml.specs.declared.fault.FaultName.TheVariants.{BadVotes}
use Rattle.rb_script_toml.proofs.Steps.{fails-at}
use Rattle.rb_script_read.proofs.Letters.{votes_read, votes_refused, no_other, vote_set}
use Rattle.rb_script_read.proofs.event.votes_of.Goals as goal

pub returns-then-has_other : goal.returns-then-has_other
returns-then-has_other c =
    let path = (field_view c.args.field.now).path in
    let letters = c.args.letters.now in
    subst (Fails c.fault.result) (sym (votes_refused path [] letters (sym c.if-has_other.ensures))) (fails-at (List Vote) c.fault.result BadVotes path c.fault.ensures)

pub vote_of-requires : goal.vote_of-requires
vote_of-requires c = no_other c.args.letters.now c.loop-place.place (sym c.if-has_other.ensures) (omega arith)

pub loop-place-preserved : goal.loop-place-preserved
loop-place-preserved c =
    let votes = c.loop-place.votes.items in
    let place = c.loop-place.place in
    let within : place < length votes = omega (arith, c.loop-place.invariant.long) in
    record {
      long = length-set votes place c.vote_of.result ∙ c.loop-place.invariant.long;
      so_far = vote_set c.args.letters.now votes (set votes place c.vote_of.result) place c.vote_of.result within refl c.vote_of.ensures c.loop-place.invariant.so_far;
    }

pub returns : goal.returns
returns c =
    votes_read (field_view c.args.field.now).path [] c.args.letters.now c.loop-place.votes.items c.loop-place.invariant.long
    (λ k lt. c.loop-place.invariant.so_far k (omega arith))
