-- The messages of updates, by the answers of a folder (ICS 7, `Header`).
use Rattle.std.specs.Prelude.{◌≡◌, ◌==◌, ℕ, Bool, true, List, Option, Vec}
use Rattle.std.specs.List.{AllZip, enumerate_from, list_any}
use Rattle.std.specs.Global.{Global}
use Rattle.rb_import_check.specs.declared.chain.SeenChain.{SeenChain}
use Rattle.rb_import_check.specs.declared.saved.Saved.{Saved}
use Rattle.rb_messages.specs.Messages.{AreFilesOf}
use Rattle.rb_messages.specs.Sources.{AreTold}
use Rattle.rb_messages.specs.declared.message.MessageFile.{MessageFile}
use Rattle.rb_messages.specs.declared.update.PlannedUpdate.{PlannedUpdate}
use Rattle.ibcplan_folders.specs.Folders.{AnswerFile, AreAnswersIn, OfKnown}
use Rattle.ibcplan_folders.specs.declared.reading.Votes.TheVariants.{Kept}

-- whether one of the updates is of the chain at a place
abbrev pub is_updated : List PlannedUpdate → ℕ → Bool
is_updated updates place = list_any (λ u. u.chain == place) updates

-- the answers on each chain that an update is of are what the files of its folder tell
abbrev pub AreAnswersAt : List AnswerFile → List PlannedUpdate → ℕ × List ℕ → Vec Saved Global → Type 0
AreAnswersAt files updates p saved = is_updated updates p.0 ≡ true → AreAnswersIn Kept 0 p.1 files saved.items

abbrev pub AreAnswersOn : List AnswerFile → List PlannedUpdate → List (List ℕ) → List (Vec Saved Global) → Type 0
AreAnswersOn files updates chains answers = AllZip (AreAnswersAt files updates) (enumerate_from 0 chains) answers

-- the files are the messages of updates, one each and in their order, made of what the answers on their chains tell
pub record AreMessagesBy (chains : List (List ℕ)) (answers : List (Vec Saved Global)) (updates : List PlannedUpdate) (files : List MessageFile) : Type 0 where
  pub seen : List SeenChain
  pub told : AreTold chains answers seen
  pub messages : AreFilesOf chains seen updates files

-- and the answers are what the files of the folders of these chains tell, where files are known
pub record AreMessagesIn (known : Option (List AnswerFile)) (chains : List (List ℕ)) (updates : List PlannedUpdate) (messages : List MessageFile) : Type 0 where
  pub answers : List (Vec Saved Global)
  pub answers_are : OfKnown known (λ files. AreAnswersOn files updates chains answers)
  pub messages_are : AreMessagesBy chains answers updates messages
