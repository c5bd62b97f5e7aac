-- The commands of batches, one batch after the other.
use Rattle.std.proofs.Common.{◌≡◌, ℕ, ◌+◌, ◌-◌, ◌<◌, List, ◌∷◌, ◌++◌, append_assoc, ap, drop, get_or, length, subst, sym, take, ◌∙◌, Option}
use Rattle.std.proofs.lemmas.List.{drop_more}
use Rattle.rb_import_setup.specs.declared.sender.Sender.{Sender}
use Rattle.rb_messages.specs.declared.update.PlannedUpdate.{PlannedUpdate}
use Rattle.rb_messages.specs.Shell.{batch_text, batches_text}
use Rattle.rb_messages.specs.declared.batch.PlannedBatch.{PlannedBatch}
use Rattle.rb_messages.specs.declared.transactions.TransactionFile.{TransactionFile}

module _ (chains : List (List ℕ)) (senders : List (Option Sender)) (files : List TransactionFile) (updates : List PlannedUpdate) where
  -- those of the next batch are there, and those of the others are left
  pub next_batch : (batches : List PlannedBatch) (place : ℕ) (b : PlannedBatch) (rest own behind : List PlannedUpdate) (first : ℕ) (made more all : List ℕ)
      → place < length batches → b ≡ get_or batches place b → own ≡ take b.updates rest → behind ≡ drop b.updates rest → first ≡ length updates - length rest
      → more ≡ made ++ batch_text chains senders files place b first own
      → made ++ batches_text chains senders files updates place (drop place batches) rest ≡ all
      → more ++ batches_text chains senders files updates (place + 1) (drop (place + 1) batches) behind ≡ all
  next_batch batches place b rest own behind first made more all lt is front back at added before =
      let left : drop place batches ≡ b ∷ drop (place + 1) batches = drop_more batches place b lt ∙ ap (λ z. z ∷ drop (place + 1) batches) (sym is) in
      let here : made ++ batches_text chains senders files updates place (b ∷ drop (place + 1) batches) rest ≡ all =
      subst (λ bs. made ++ batches_text chains senders files updates place bs rest ≡ all) left before in
      rw added (rw at (rw front (rw back (
      append_assoc made (batch_text chains senders files place b (length updates - length rest) (take b.updates rest))
      (batches_text chains senders files updates (place + 1) (drop (place + 1) batches) (drop b.updates rest))
      ∙ here
      ))))
