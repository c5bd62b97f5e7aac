-- The files of batches, one batch after the other.
use Rattle.std.proofs.Common.{◌≡◌, ℕ, ◌+◌, ◌<◌, List, [], ◌∷◌, ◌++◌, append_assoc, ap, drop, get_or, length, subst, sym, take, ◌∙◌, Option, Some}
use Rattle.std.specs.List.{enumerate_from, flat_map}
use Rattle.std.specs.Prelude.{String, Vec, slice_index_or}
use Rattle.std.specs.Global.{Global}
use Rattle.std.proofs.lemmas.List.{drop_more}
use Rattle.rb_import_setup.specs.Senders.{sender_view}
use Rattle.rb_import_setup.specs.declared.sender.Sender.{Sender as CodeSender}
use Rattle.rb_messages.specs.declared.message.MessageFile.{MessageFile}
use Rattle.rb_messages.specs.Transactions.{File, batch_files, file_in, files_from, messages_of, packets_at, sender_at}
use Rattle.rb_messages.specs.declared.batch.PlannedBatch.{PlannedBatch}

module _ (chains : List (List ℕ)) (senders : List (Option CodeSender)) (packets : List (Vec (Option (String Global)) Global)) where
  -- those of a batch to whose host somebody sends
  pub sent_by : (place : ℕ) (b : PlannedBatch) (own : List MessageFile) (ps : List (Option (String Global))) (s : CodeSender) (made more : List File)
      → sender_at senders b.host ≡ Some s
      → more ≡ made ++ flat_map (file_in place (sender_view s) (messages_of (slice_index_or chains b.host []) b.client (sender_view s) own ps)) (enumerate_from 0 b.transactions.items)
      → more ≡ made ++ batch_files chains senders place b own ps
  sent_by place b own ps s made more is added = rw is added

  -- the files of the next batch are made, and those of the others are left
  pub next : (batches : List PlannedBatch) (place : ℕ) (b : PlannedBatch) (rest own behind : List MessageFile) (made more all : List File)
      → place < length batches → b ≡ get_or batches place b → own ≡ take b.updates rest → behind ≡ drop b.updates rest
      → more ≡ made ++ batch_files chains senders place b own (packets_at packets place)
      → made ++ files_from chains senders packets place (drop place batches) rest ≡ all
      → more ++ files_from chains senders packets (place + 1) (drop (place + 1) batches) behind ≡ all
  next batches place b rest own behind made more all lt is first last added before =
      let left : drop place batches ≡ b ∷ drop (place + 1) batches = drop_more batches place b lt ∙ ap (λ z. z ∷ drop (place + 1) batches) (sym is) in
      let here : made ++ files_from chains senders packets place (b ∷ drop (place + 1) batches) rest ≡ all =
      subst (λ bs. made ++ files_from chains senders packets place bs rest ≡ all) left before in
      rw added (rw first (rw last (
      append_assoc made (batch_files chains senders place b (take b.updates rest) (packets_at packets place))
      (files_from chains senders packets (place + 1) (drop (place + 1) batches) (drop b.updates rest))
      ∙ here
      )))
