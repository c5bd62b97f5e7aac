-- Clients that are due for a refresh, and for which no header serves (own choice).
use Rattle.std.specs.Prelude.{◌+◌, ◌-◌, ◌/◌, ◌==◌, ◌&&◌, nat_le, ℕ, Bool, false, not, is_some, if◌then◌else◌, List, Option, Some, None, length, slice_get, unwrap_or}
use Rattle.std.specs.List.{list_all}
use Rattle.rb_base.specs.Window.{Span}
use Rattle.rb_plan_types.specs.declared.terms.Terms.{Terms}
use Rattle.rb_plan_types.specs.Refresh.{needed_time}
use Rattle.rb_import_setup.specs.declared.setup.ClientSetup.{ClientSetup}
use Rattle.rb_import_setup.specs.declared.setup.ImportSetup.{ImportSetup}
use Rattle.rb_import_setup.specs.declared.setup.TurnSetup.{TurnSetup}
use Rattle.rb_import_setup.specs.Windows.{window_of}
use Rattle.rb_import_check.specs.declared.chain.Commit.{Commit}
use Rattle.rb_import_check.specs.declared.client.SeenClient.{SeenClient}
use Rattle.rb_import_check.specs.declared.client.Stored.{Stored}
use Rattle.rb_import_merge.specs.declared.seen.SeenSetup.{SeenSetup}
use Rattle.rb_import_notices.specs.declared.notice.Notice.{Notice}
use Rattle.rb_import_notices.specs.declared.notice.Notice.TheVariants.{NothingFresh}
use Rattle.rb_import_notices.specs.Steps.{◌>>=◌}
use Rattle.rb_import_notices.specs.Unusable.{last_turn}

-- what the client's refreshes go by: its trusting period, and the refresh age of the setup, or else a third of the period
abbrev pub terms_of : ClientSetup → SeenClient → Terms
terms_of c client = record { period = client.period; refresh = unwrap_or c.terms.refresh (client.period / 3) }

-- whether a refresh of a client whose newest consensus state is of this time needs none of the headers
abbrev pub none_serves : Terms → Span → ℕ → List Commit → Bool
none_serves terms w stored commits = list_all (λ (c : Commit). not (is_some (needed_time terms stored c.header.now.time w.until))) commits

abbrev are_stale_by : Terms → Span → List Commit → Option Stored → Bool
are_stale_by terms w commits (Some s) =
    not (terms.refresh == 0) && nat_le (s.state.now.time + terms.refresh) w.until && none_serves terms w s.state.now.time commits
are_stale_by terms w commits None = false

-- whether the client is refreshed, at the window's last moment its newest consensus state is due for it, and no header serves
abbrev pub are_stale : Terms → Span → List Commit → List Stored → Bool
are_stale terms w commits records = are_stale_by terms w commits (slice_get records (length records - 1))

-- a client that is due for a refresh in its window in the last turn, for which none of the headers serves of the chain that it tracks
abbrev pub nothing_fresh : ImportSetup → SeenSetup → ℕ → Option Notice
nothing_fresh setup seen client = do
  turn ← last_turn setup
  own ← slice_get setup.clients.items client
  chain ← slice_get seen.chains.items own.tracks
  judging ← slice_get seen.clients.items client
  records ← slice_get seen.records.items client
  if are_stale (terms_of own judging) (window_of setup client turn.window) chain.commits.items records.items then Some (NothingFresh client) else None
