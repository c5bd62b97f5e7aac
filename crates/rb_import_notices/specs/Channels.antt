-- Paths whose answers tell of packets, but of none from the source that the setup names.
use Rattle.std.specs.Prelude.{◌&&◌, ℕ, Bool, false, not, is_some, if◌then◌else◌, List, Option, Some, None, String, slice_get, string_bytes}
use Rattle.std.specs.Global.{Global}
use Rattle.rb_import_setup.specs.declared.setup.PathSetup.{PathSetup}
use Rattle.rb_import_setup.specs.declared.setup.ImportSetup.{ImportSetup}
use Rattle.rb_import_check.specs.declared.saved.Saved.{Saved}
use Rattle.rb_import_check.specs.declared.saved.SavedAnswers.{SavedAnswers}
use Rattle.rb_import_merge.specs.Seen.{answers_at}
use Rattle.rb_import_merge.specs.Sources.{first_source, tell_from}
use Rattle.rb_import_notices.specs.declared.notice.Notice.{Notice}
use Rattle.rb_import_notices.specs.declared.notice.Notice.TheVariants.{OtherChannel}
use Rattle.rb_import_notices.specs.Steps.{◌>>=◌}

abbrev is_other_than : Option (String Global) → List Saved → Bool
is_other_than (Some named) saved = not (tell_from (string_bytes named) saved) && is_some (first_source saved)
is_other_than None saved = false

-- whether the setup names a path's source, and the answers tell of packets, but of none from it
abbrev pub is_of_others : PathSetup → List Saved → Bool
is_of_others path saved = is_other_than path.source_channel saved

-- such a path
abbrev pub other_channel : ImportSetup → SavedAnswers → ℕ → Option Notice
other_channel setup answers place = do
  path ← slice_get setup.paths.items place
  if is_of_others path (answers_at answers.paths.items place) then Some (OtherChannel place) else None
