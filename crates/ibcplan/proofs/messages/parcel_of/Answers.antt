use Rattle.std.proofs.Common.{◌≡◌, List, ℕ, map, subst}
use Rattle.rb_messages.specs.declared.message.MessageFile.{MessageFile}
use Rattle.rb_messages.specs.Transactions.{file_view, files_from}
use Rattle.ibcplan_folders.specs.Folders.{OfKnown}
use Rattle.ibcplan_folders.specs.Messages.{AreAnswersOn, AreMessagesBy}
use Rattle.ibcplan.proofs.messages.parcel_of.Goals as goal

pub returns-in-Ok : goal.returns-in-Ok
returns-in-Ok g c =
    let known = g.F.AnswerFolders.known c.args.files.now in
    let updates = c.args.updates.now in
    let answers = c.in_ok-answers.answers.items in
    let messages = c.in_ok-messages.messages.items in
    let chains = c.as_slice-chains.ensures.value in
    let files = map file_view c.in-Ok.transactions.items in
    record {
      packets = c.args.packets.now;
      messages_are = record {
        answers = answers;
        answers_are = subst (λ (ids : List (List ℕ)). OfKnown known (λ files. AreAnswersOn files updates ids answers)) chains c.in_ok-answers.ensures;
        messages_are = subst (λ (ids : List (List ℕ)). AreMessagesBy ids answers updates messages) chains
            (subst (λ saved. AreMessagesBy c.as_slice-chains.result.now saved updates messages) c.as_slice.ensures.value c.in_ok-messages.ensures.messages);
      };
      packets_are = c.requires;
      transactions_are = subst (λ (ids : List (List ℕ)). files ≡ files_from ids c.args.senders.now c.args.packets.now 0 c.args.batches.now messages) chains
          (subst (λ (made : List MessageFile). files ≡ files_from c.as_slice-chains.result.now c.args.senders.now c.args.packets.now 0 c.args.batches.now made) c.as_slice-made.ensures.value c.in-Ok.ensures);
    }
