-- The packet messages of batches, by the answers of a folder (ICS 4; proofs: ICS 23).
use Rattle.std.specs.Prelude.{◌≡◌, ◌++◌, ℕ, List, [], All, codes, map, Vec, Option, Some, IfSome, IsSomeAnd, MatchOption, slice_get, slice_index_or, String, string_bytes}
use Rattle.std.specs.Global.{Global}
use Rattle.std.specs.List.{AllZip}
use Rattle.std.specs.Option.{option_map_or}
use Rattle.rb_import_answers.specs.Revisions.{IsRevision}
use Rattle.rb_import_setup.specs.declared.sender.Sender.{Sender}
use Rattle.rb_packets.specs.Ends.{ends_in}
use Rattle.rb_packets.specs.Facts.{AreFactsIn, IsAnswerOf, answer_view}
use Rattle.rb_packets.specs.Messages.{Due, IsProven, file_of}
use Rattle.rb_packets.specs.declared.facts.PathAnswer.{PathAnswer}
use Rattle.rb_plan_client.specs.Task.{Message}
use Rattle.rb_script_types.specs.declared.config.Config.{Config}
use Rattle.rb_script_types.specs.declared.config.PathConfig.{PathConfig}
use Rattle.rb_messages.specs.Transactions.{sender_at}
use Rattle.rb_messages.specs.declared.batch.PlannedBatch.{PlannedBatch}
use Rattle.ibcplan_folders.specs.Folders.{AnswerFile, OfKnown, content}

-- what a message of a batch is made of: its packet is one of its path's channel, as the answers tell of it, and its proof is judged by the app
-- hash of the consensus state at the proof height of the batch
pub record IsDue (config : Config Global) (batch : PlannedBatch) (answers : List PathAnswer) (path : PathConfig) (m : Message) (d : Due) : Type 0 where
  pub kind : d.kind ≡ m.packet.kind
  pub sequence : d.sequence ≡ m.packet.sequence
  pub order : d.order ≡ path.order
  pub ends : ends_in path.channel ≡ Some d.ends
  pub facts : AreFactsIn m.packet.kind d.ends m.packet.sequence (map answer_view answers) d.facts
  pub app_hash : IsSomeAnd batch.proof_record (λ r. d.app_hash ≡ r.root)
  pub height : d.proof_height.height ≡ batch.proof
  pub revision : IsRevision (slice_index_or config.chains.items batch.chain []) d.proof_height.revision

-- the folder of the proofs that nodes answered for the messages of a path
abbrev pub proofs_of : List ℕ → List ℕ
proofs_of path = path ++ codes "/proofs"

-- the text is that of a message that is due, with the proofs of an answer, which show what it claims (ICS 23); where files are known, the answer is
-- the one that was asked for: the file of its name in the folder of the path's proofs
pub record IsTextOf (known : Option (List AnswerFile)) (config : Config Global) (batch : PlannedBatch) (answers : List PathAnswer) (signer : List ℕ) (path : PathConfig) (m : Message) (text : List ℕ) : Type 0 where
  pub due : Due
  pub answer : List ℕ
  pub is_due : IsDue config batch answers path m due
  pub is_proven : IsProven due signer answer text
  pub of_file : OfKnown known (λ files. content (proofs_of path.id) (file_of due) files ≡ Some answer)

-- what was read in the folder of the path at a place
abbrev pub answers_at : List (Vec PathAnswer Global) → ℕ → List PathAnswer
answers_at answers place = option_map_or (λ v. v.items) (slice_get answers place) []

-- what stands for a message of a batch: the text of one that is due on its path, or nothing
abbrev pub StandsFor : Option (List AnswerFile) → Config Global → PlannedBatch → List (Vec PathAnswer Global) → List ℕ → Message → Option (String Global) → Type 0
StandsFor known config batch answers signer m text =
    IfSome text (λ t. IsSomeAnd (slice_get config.paths.items m.path) (λ path. IsTextOf known config batch (answers_at answers m.path) signer path m (string_bytes t)))

-- what stands for the messages of a batch, one by one; nothing where nobody sends to its host
abbrev pub StandFor : Option (List AnswerFile) → Config Global → List (Option Sender) → List (Vec PathAnswer Global) → PlannedBatch → Vec (Option (String Global)) Global → Type 0
StandFor known config senders answers batch texts =
    MatchOption (sender_at senders batch.host) (texts.items ≡ []) (λ s. AllZip (StandsFor known config batch answers (string_bytes s.signer)) batch.messages.items texts.items)

-- an answer that the bytes of a file tell; where files are known, it is one of this folder
pub record WasRead (known : Option (List AnswerFile)) (folder : List ℕ) (a : PathAnswer) : Type 0 where
  pub bytes : List ℕ
  pub told : IsAnswerOf bytes a
  pub of_file : OfKnown known (λ files. (name : List ℕ) × (content folder name files ≡ Some bytes))

abbrev pub WereRead : Option (List AnswerFile) → List ℕ → Vec PathAnswer Global → Type 0
WereRead known folder answers = All (WasRead known folder) answers.items

-- so it is of the folder of a path
abbrev pub WereReadOf : Option (List AnswerFile) → PathConfig → Vec PathAnswer Global → Type 0
WereReadOf known path answers = WereRead known path.id answers

-- the texts of the packet messages of batches, by answers that were read in the folders of paths
pub record ArePacketTexts (known : Option (List AnswerFile)) (config : Config Global) (senders : List (Option Sender)) (batches : List PlannedBatch) (texts : List (Vec (Option (String Global)) Global)) : Type 0 where
  pub answers : List (Vec PathAnswer Global)
  pub were_read : AllZip (WereReadOf known) config.paths.items answers
  pub texts_are : AllZip (StandFor known config senders answers) batches texts
