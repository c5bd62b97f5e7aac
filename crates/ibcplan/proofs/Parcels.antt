-- What is sent is that of a script, and of a setup with its files.
use Rattle.std.proofs.Common.{◌≡◌, ℕ, List, arith, max, refl, subst, sym}
use Rattle.std.specs.Prelude.{Option, Some, None, IfSome, Result, Ok, Err, IfOk}
use Rattle.std.specs.Global.{Global}
use Rattle.rb_core.specs.Core.{Core}
use Rattle.rb_import_setup.specs.Setups.{setup_of, setup_view}
use Rattle.rb_import_setup.specs.declared.sender.Sender.{Sender}
use Rattle.rb_import_setup.specs.declared.setup.ImportSetup.{ImportSetup}
use Rattle.rb_messages.specs.declared.update.PlannedUpdate.{PlannedUpdate}
use Rattle.rb_script_types.specs.Config.{config_view}
use Rattle.rb_script_types.specs.declared.config.Config.{Config}
use Rattle.rb_script_types.specs.Script.{Script, script_view}
use Rattle.rb_script_types.specs.declared.script.Script.{Script as CodeScript}
use Rattle.rb_messages.specs.declared.batch.PlannedBatch.{PlannedBatch}
use Rattle.ibcplan_folders.specs.Files.{signatures_of}
use Rattle.ibcplan_folders.specs.Fleets.{IsMadeBy}
use Rattle.ibcplan_folders.specs.Folders.{AnswerFile}
use Rattle.ibcplan_cli.specs.declared.given.Import.{Import}
use Rattle.ibcplan.specs.Headline.{AreMessagesOf, AreSendersOf, HasParcel, IsParcelOf, IsSentBy}
use Rattle.ibcplan.specs.Sendings.{IsSendingOf}
use Rattle.ibcplan.specs.declared.messages.Sent.{Sent}
use Rattle.ibcplan.specs.declared.parcel.Parcel.{Parcel}

some_parcel : (P Q : Parcel → Type 0) (o : Option Parcel) → ((p : Parcel) → P p → Q p) → IfSome o P → IfSome o Q
some_parcel P Q None imp is = tt
some_parcel P Q (Some p) imp is = imp p is

pub parcel_sent : {E : Type 0} (known : Option (List AnswerFile)) (script : Script Global) (senders : List (Option Sender)) (relayer : Core) (updates : List PlannedUpdate) (batches : List PlannedBatch)
    (r : Result Sent E) → IsSendingOf script relayer updates batches → IfOk r (λ sent. IfSome sent.parcel (IsSentBy known relayer updates batches senders))
    → IfOk r (λ sent. IfSome sent.parcel (IsParcelOf known script senders))
parcel_sent known script senders relayer updates batches (Err e) sending has = tt
parcel_sent known script senders relayer updates batches (Ok sent) sending has =
    some_parcel (IsSentBy known relayer updates batches senders) (IsParcelOf known script senders) sent.parcel
    (λ p has. record { relayer = relayer; updates = updates; batches = batches; sending = sending; sent = has }) has

-- where a later status is 0 the script's is
made_at : (known : Option (List AnswerFile)) (bytes : List ℕ) (asked : Import) (before status : ℕ) (script : CodeScript Global) → (status ≡ 0 → before ≡ 0)
    → IsMadeBy known bytes (signatures_of asked) before script → IsMadeBy known bytes (signatures_of asked) status script
made_at known bytes asked before status script none made =
    let is = made.is_fleet in
    record {
      fleet = made.fleet;
      is_fleet = record { setup = is.setup; read = is.read; rest = is.rest; whole = λ zero. is.whole (none zero); chains = is.chains; clients = is.clients; paths = is.paths };
      is_made = made.is_made;
    }

none_of_two : (a b m : ℕ) → m ≡ max a b → m ≡ 0 → b ≡ 0
none_of_two a b m is zero = omega (arith, is, zero)

pub setup_sent : {E : Type 0} (known : Option (List AnswerFile)) (bytes : List ℕ) (asked : Import) (status : ℕ) (script : CodeScript Global) (senders : List (Option Sender)) (sent : Sent)
    (r : Result Sent E) → IsMadeBy known bytes (signatures_of asked) status script → AreSendersOf bytes senders → IfSome sent.parcel (IsParcelOf known (script_view script) senders)
    → IfOk r (λ told. told.parcel ≡ sent.parcel) → IfOk r (λ told. told.told.status ≡ max sent.told.status status)
    → IfOk r (λ told. IfSome told.parcel (AreMessagesOf known bytes asked told.told.status))
setup_sent known bytes asked status script senders sent (Err e) made by is same later = tt
setup_sent known bytes asked status script senders sent (Ok told) made by is same later =
    let at = told.told.status in
    subst (λ (o : Option Parcel). IfSome o (AreMessagesOf known bytes asked at)) (sym same)
    (some_parcel (IsParcelOf known (script_view script) senders) (AreMessagesOf known bytes asked at) sent.parcel
    (λ p parcel. record {
      script = script;
      senders = senders;
      made = made_at known bytes asked status at script (none_of_two sent.told.status status at later) made;
      sent_by = by;
      parcel = parcel;
    }) is)

pub senders_read : (bytes read : List ℕ) (setup : ImportSetup) → read ≡ bytes → setup_of read ≡ Ok (setup_view setup) → AreSendersOf bytes setup.senders.items
senders_read bytes read setup same is = (setup_view setup, subst (λ bs. setup_of bs ≡ Ok (setup_view setup)) same is, refl)

pub sent_with : (known : Option (List AnswerFile)) (config : Config Global) (relayer : Core) (us updates : List PlannedUpdate) (bs batches : List PlannedBatch) (senders : List (Option Sender)) (p : Parcel)
    → HasParcel known config us bs senders p → config_view config ≡ relayer.config → us ≡ updates → bs ≡ batches → IsSentBy known relayer updates batches senders p
sent_with known config relayer us updates bs batches senders p has is same_updates same_batches = record {
  config = config;
  config_is = is;
  parcel = subst (λ (xs : List PlannedUpdate). HasParcel known config xs batches senders p) same_updates
      (subst (λ (ys : List PlannedBatch). HasParcel known config us ys senders p) same_batches has);
}
