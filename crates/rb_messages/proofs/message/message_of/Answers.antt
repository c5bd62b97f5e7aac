use Rattle.std.proofs.Common.{◌∙◌, ap, refl, sym}
use Rattle.std.specs.Option.{option_map}
use Rattle.rb_step.specs.Sent.{sent_view}
use Rattle.rb_messages.specs.Votes.{missing_vote}
use Rattle.rb_messages.proofs.Missing.{none_missing}
use Rattle.rb_messages.proofs.message.message_of.Goals as goal

pub returns-clause-message : goal.returns-clause-message
returns-clause-message c =
    let missing = ap (λ entries. missing_vote entries (option_map sent_view c.args.update.now.votes)) (sym c.as_slice.ensures.value) ∙ sym c.missing_vote.ensures in
    record {
      commit = c.in-Ok.commit;
      own = c.in-Ok-own_set.set.now;
      trusted = c.in-Ok-trusted_set.set.now;
      revision = c.revision_of-revision.result;
      commit_is = c.in-Ok.ensures.commit;
      header_is = c.in-Ok.ensures.header;
      votes_are = none_missing c.in-Ok.commit.header.now.votes.items c.args.update.now.votes (missing ∙ c.in-None.is);
      own_is = c.in-Ok-own_set.ensures.set;
      trusted_is = c.in-Ok-trusted_set.ensures.set;
      revision_is = c.revision_of-revision.ensures.revision;
      text_is = c.in_ok-text.ensures;
    }

-- the height's commit lacks this vote
pub returns-in-Some-clause-refused : goal.returns-in-Some-clause-refused
returns-in-Some-clause-refused c =
    let missing = ap (λ entries. missing_vote entries (option_map sent_view c.args.update.now.votes)) (sym c.as_slice.ensures.value) ∙ sym c.missing_vote.ensures in
    (refl, refl, rw c.in-Ok.ensures.commit (refl, missing ∙ c.in-Some.is))
