-- Paths from whose source packets were sent to several destinations.
use Rattle.std.specs.Prelude.{◌&&◌, ℕ, Bool, not, is_some, if◌then◌else◌, List, Option, Some, None, slice_get, string_bytes}
use Rattle.std.specs.List.{list_any}
use Rattle.std.specs.Str.{bytes_eq}
use Rattle.rb_import_answers.specs.declared.packets.PacketEvent.{PacketEvent}
use Rattle.rb_import_setup.specs.declared.setup.PathSetup.{PathSetup}
use Rattle.rb_import_setup.specs.declared.setup.ImportSetup.{ImportSetup}
use Rattle.rb_import_check.specs.declared.saved.SavedAnswers.{SavedAnswers}
use Rattle.rb_import_merge.specs.Packets.{events_of, is_sending}
use Rattle.rb_import_merge.specs.Seen.{answers_at}
use Rattle.rb_import_notices.specs.declared.notice.Notice.{Notice}
use Rattle.rb_import_notices.specs.declared.notice.Notice.TheVariants.{SeveralCounterparties}
use Rattle.rb_import_notices.specs.Steps.{◌>>=◌}

-- whether an event tells that a packet was sent from the path's source to another destination than this one
abbrev pub is_sent_elsewhere : PathSetup → PacketEvent → PacketEvent → Bool
is_sent_elsewhere path one other = is_sending path other && not (bytes_eq (string_bytes one.dest) (string_bytes other.dest))

-- whether the setup names no counterparty of a path, and packets were sent from its source to two destinations or more
abbrev pub has_several : PathSetup → List PacketEvent → Bool
has_several path events =
    not (is_some path.counterparty) && list_any (λ (one : PacketEvent). is_sending path one && list_any (is_sent_elsewhere path one) events) events

-- such a path
abbrev pub sent_to_several : ImportSetup → SavedAnswers → ℕ → Option Notice
sent_to_several setup answers place = do
  path ← slice_get setup.paths.items place
  if has_several path (events_of (answers_at answers.paths.items place)) then Some (SeveralCounterparties place) else None
