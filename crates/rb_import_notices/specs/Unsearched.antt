-- Searches for a path's packets that aren't among the answers.
use Rattle.std.specs.Prelude.{◌&&◌, ℕ, nat_lt, Bool, if◌then◌else◌, List, Option, Some, None, count_by, slice_get}
use Rattle.rb_import_answers.specs.declared.packets.PacketKind.{PacketKind}
use Rattle.rb_import_setup.specs.declared.setup.PathSetup.{PathSetup}
use Rattle.rb_import_setup.specs.declared.setup.ImportSetup.{ImportSetup}
use Rattle.rb_import_check.specs.declared.saved.Saved.{Saved}
use Rattle.rb_import_check.specs.declared.saved.SavedAnswers.{SavedAnswers}
use Rattle.rb_import_merge.specs.declared.packets.Searches.{Searches}
use Rattle.rb_import_merge.specs.Packets.{is_silent, lacking, lacks}
use Rattle.rb_import_merge.specs.Pending.{first_of, is_pending}
use Rattle.rb_import_notices.specs.declared.notice.Notice.{Notice}
use Rattle.rb_import_notices.specs.declared.notice.Notice.TheVariants.{MissingSearches}
use Rattle.rb_import_notices.specs.Steps.{◌>>=◌}

-- of which of the three kinds that are searched for a path's answers don't tell, and how many of them tell of no packet
abbrev pub searches_of : List Saved → Searches
searches_of saved = record {
  lacks_sent = lacks PacketKind.Sent saved;
  lacks_received = lacks PacketKind.Received saved;
  lacks_cleared = lacks PacketKind.Cleared saved;
  empty = count_by is_silent saved;
}

-- whether fewer answers are empty than kinds are lacking
abbrev pub are_missing : Searches → Bool
are_missing s = nat_lt s.empty (lacking s)

-- a path whose first packet that isn't finished may be pending (it has a commitment, or no answer tells of commitments), and of which fewer answers are
-- empty than kinds are lacking; and what its answers don't tell
abbrev pub missing_searches : ImportSetup → SavedAnswers → ℕ → Option Notice
missing_searches setup answers place = do
  path ← slice_get setup.paths.items place
  saved ← slice_get answers.paths.items place
  if are_missing (searches_of saved.items) && is_pending saved.items (first_of path saved.items) then Some (MissingSearches place (searches_of saved.items))
      else None
