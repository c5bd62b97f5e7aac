-- Clients whose latest height isn't among their records (ICS 7: whatever sets a client's latest height stores a consensus state of it).
use Rattle.std.specs.Prelude.{◌==◌, ℕ, Bool, not, if◌then◌else◌, List, Option, Some, None, option_and_then, slice_get}
use Rattle.std.specs.List.{list_all}
use Rattle.rb_import_check.specs.declared.client.SeenClient.{SeenClient}
use Rattle.rb_import_check.specs.declared.client.Stored.{Stored}
use Rattle.rb_import_merge.specs.declared.seen.SeenSetup.{SeenSetup}
use Rattle.rb_import_notices.specs.declared.notice.Notice.{Notice}
use Rattle.rb_import_notices.specs.declared.notice.Notice.TheVariants.{MissingLatest}
use Rattle.rb_import_notices.specs.Steps.{◌>>=◌}

-- whether none of these records is of this height
abbrev pub lacks_record : List Stored → ℕ → Bool
lacks_record records height = list_all (λ (s : Stored). not (s.state.now.height == height)) records

-- a client whose state names a latest height, of which it has no record, and that height
abbrev pub missing_latest : SeenSetup → ℕ → Option Notice
missing_latest seen client = do
  told ← slice_get seen.clients.items client
  height ← told.latest
  if lacks_record told.stored.items height then Some (MissingLatest client height) else None
