-- The second theorem: from the answers of nodes to the messages that are sent.
use Rattle.std.specs.Prelude.{◌≡◌, ℕ, List, Vec, Ok, Option, String, map, option_map}
use Rattle.std.specs.Global.{Global}
use Rattle.rb_core.specs.Core.{Core}
use Rattle.rb_import_setup.specs.Senders.{sender_view}
use Rattle.rb_import_setup.specs.Setups.{ImportSetup, setup_of}
use Rattle.rb_import_setup.specs.declared.sender.Sender.{Sender}
use Rattle.rb_messages.specs.declared.update.PlannedUpdate.{PlannedUpdate}
use Rattle.rb_script_types.specs.Config.{config_view}
use Rattle.rb_script_types.specs.declared.config.Config.{Config}
use Rattle.rb_script_types.specs.Script.{Script, script_view}
use Rattle.rb_script_types.specs.declared.script.Script.{Script as CodeScript}
use Rattle.rb_messages.specs.Transactions.{file_view, files_from}
use Rattle.rb_messages.specs.declared.batch.PlannedBatch.{PlannedBatch}
use Rattle.ibcplan_folders.specs.Fleets.{IsMadeBy}
use Rattle.ibcplan_folders.specs.Files.{signatures_of}
use Rattle.ibcplan_folders.specs.Folders.{AnswerFile}
use Rattle.ibcplan_folders.specs.Messages.{AreMessagesIn}
use Rattle.ibcplan_folders.specs.Packets.{ArePacketTexts}
use Rattle.ibcplan_cli.specs.declared.given.Import.{Import}
use Rattle.ibcplan.specs.Sendings.{IsSendingOf}
use Rattle.ibcplan.specs.declared.parcel.Parcel.{Parcel}

-- the files of what a relayer sends: the messages of its updates, by what the files of the folders of their chains tell; the texts of the packet
-- messages of its batches, with the proofs that the definition of ICS 23 accepts; and the transactions of these
pub record HasParcel (known : Option (List AnswerFile)) (config : Config Global) (updates : List PlannedUpdate) (batches : List PlannedBatch) (senders : List (Option Sender)) (p : Parcel) : Type 0 where
  pub packets : List (Vec (Option (String Global)) Global)
  pub messages_are : AreMessagesIn known config.chains.items updates p.messages.items
  pub packets_are : ArePacketTexts known config senders batches packets
  pub transactions_are : map file_view p.transactions.items ≡ files_from config.chains.items senders packets 0 batches p.messages.items

-- so it is by the configuration of the relayer
pub record IsSentBy (known : Option (List AnswerFile)) (relayer : Core) (updates : List PlannedUpdate) (batches : List PlannedBatch) (senders : List (Option Sender)) (p : Parcel) : Type 0 where
  pub config : Config Global
  pub config_is : config_view config ≡ relayer.config
  pub parcel : HasParcel known config updates batches senders p

-- the files of what the last turn of a script sends
pub record IsParcelOf (known : Option (List AnswerFile)) (script : Script Global) (senders : List (Option Sender)) (p : Parcel) : Type 0 where
  pub relayer : Core
  pub updates : List PlannedUpdate
  pub batches : List PlannedBatch
  pub sending : IsSendingOf script relayer updates batches
  pub sent : IsSentBy known relayer updates batches senders p

-- who sends to each chain of a setup
abbrev pub AreSendersOf : List ℕ → List (Option Sender) → Type 0
AreSendersOf bytes senders = (setup : ImportSetup) × (setup_of bytes ≡ Ok setup) × (map (option_map sender_view) senders ≡ setup.senders)

-- the files of what the script sends that a setup and the files of its folders make; where the status is 0 no client and no path is left out
pub record AreMessagesOf (known : Option (List AnswerFile)) (bytes : List ℕ) (asked : Import) (status : ℕ) (p : Parcel) : Type 0 where
  pub script : CodeScript Global
  pub senders : List (Option Sender)
  pub made : IsMadeBy known bytes (signatures_of asked) status script
  pub sent_by : AreSendersOf bytes senders
  pub parcel : IsParcelOf known (script_view script) senders p
