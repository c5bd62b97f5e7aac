-- Why a path's answers aren't taken (ICS 4's events, and CometBFT's `/tx_search`).
use Rattle.std.specs.Prelude.{◌≡◌, ◌≢◌, List, None, true, false, Any, string_bytes}
use Rattle.rb_import_answers.specs.declared.packets.PacketEvent.{PacketEvent}
use Rattle.rb_import_answers.specs.declared.packets.PacketKind.{PacketKind}
use Rattle.rb_import_setup.specs.declared.setup.PathSetup.{PathSetup}
use Rattle.rb_import_check.specs.declared.error.CheckErrorName.{CheckErrorName}
use Rattle.rb_import_check.specs.declared.error.ImportError.{ImportError}
use Rattle.rb_import_check.specs.declared.saved.Saved.{Saved}
use Rattle.rb_import_check.specs.Errors.{IsAt, IsBetween, IsToldBy}
use Rattle.rb_import_merge.specs.declared.packets.SeenPacket.{SeenPacket}
use Rattle.rb_import_merge.specs.Packets.{IsSameSending, events_of, is_on_packets, wanted_of}
use Rattle.rb_import_merge.specs.Pending.{lack_last_page}
use Rattle.rb_import_merge.specs.Totals.{is_whole, pages_of}

-- an event is of another source than a wanted one, and the setup names none
abbrev pub HaveTwoSources : PathSetup → List Saved → Type 0
HaveTwoSources setup saved =
    (setup.source_channel ≡ None)
    × Any (λ (e : PacketEvent). Any (λ (f : PacketEvent). string_bytes e.source ≢ string_bytes f.source) (events_of saved)) (wanted_of setup saved)

-- so it is of two events that were seen, and the error is between their files, and names the sequence of the second
abbrev pub IsFromOther : ImportError → SeenPacket → SeenPacket → Type 0
IsFromOther e p q = (string_bytes p.event.now.source ≢ string_bytes q.event.now.source) × IsAt q.event.now.sequence e × IsBetween p.file.now q.file.now e

-- both events tell of one sending, and they aren't equal
abbrev pub TellOtherwise : PacketEvent → PacketEvent → Type 0
TellOtherwise e f = (e.kind ≡ PacketKind.Sent) × (f.kind ≡ PacketKind.Sent) × (e.sequence ≡ f.sequence) × (¬ IsSameSending f e)

-- among these events there are two of one sending that aren't equal
abbrev pub HaveTwoSendings : List PacketEvent → Type 0
HaveTwoSendings events = Any (λ (e : PacketEvent). Any (TellOtherwise e) events) events

-- what doesn't hold of a path's answers, by the name that is told; no other name is
abbrev pub RefusesPath : CheckErrorName → PathSetup → List Saved → Type 0
RefusesPath CheckErrorName.WrongFolder setup saved = Any (λ (s : Saved). is_on_packets s.answer ≡ false) saved
RefusesPath CheckErrorName.MissingTransactions setup saved = Any (λ p. is_whole p.total (pages_of saved) ≡ false) (pages_of saved)
RefusesPath CheckErrorName.TwoChannels setup saved = HaveTwoSources setup saved
RefusesPath CheckErrorName.TwoAnswers setup saved = HaveTwoSendings (wanted_of setup saved)
RefusesPath CheckErrorName.MissingCommitments setup saved = lack_last_page saved ≡ true
RefusesPath _ setup saved = ⊥

-- the error has its reason in a path's answers; memory may run out at any
abbrev pub HasReasonOfPath : PathSetup → List Saved → ImportError → Type 0
HasReasonOfPath setup saved e = IsToldBy (λ name. RefusesPath name setup saved) e
