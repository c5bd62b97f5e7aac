-- What can't be used in a window (ICS 7, update validity; CometBFT light client).
use Rattle.std.specs.Prelude.{ℕ, ◌+◌, ◌-◌, ◌==◌, ◌&&◌, nat_le, Bool, not, if◌then◌else◌, List, [], Option, Some, None, count_by, filter, length, map, min, option_map, slice_get}
use Rattle.std.specs.List.{list_all, reduce}
use Rattle.rb_base.specs.Window.{Span}
use Rattle.rb_script_types.specs.declared.script.Asked.{Asked}
use Rattle.rb_script_types.specs.declared.goal.Goal.{Goal}
use Rattle.rb_script_types.specs.declared.goal.Goal.TheVariants.{Exactly, AtLeast}
use Rattle.rb_import_setup.specs.declared.setup.ClientSetup.{ClientSetup}
use Rattle.rb_import_setup.specs.declared.setup.ImportSetup.{ImportSetup}
use Rattle.rb_import_setup.specs.declared.setup.TurnSetup.{TurnSetup}
use Rattle.rb_import_setup.specs.Windows.{window_of}
use Rattle.rb_import_check.specs.declared.chain.Commit.{Commit}
use Rattle.rb_import_check.specs.declared.chain.SeenChain.{SeenChain}
use Rattle.rb_import_check.specs.declared.client.Stored.{Stored}
use Rattle.rb_import_merge.specs.declared.seen.SeenSetup.{SeenSetup}
use Rattle.rb_import_notices.specs.declared.notice.Notice.{Notice}
use Rattle.rb_import_notices.specs.declared.notice.Notice.TheVariants.{FutureHeaders, NothingTrusted, UnseenGoal}
use Rattle.rb_import_notices.specs.Steps.{◌>>=◌}

-- ---- the last turn

-- the last turn, which has the events
abbrev pub last_turn : ImportSetup → Option TurnSetup
last_turn setup = slice_get setup.turns.items (length setup.turns.items - 1)

abbrev pub goals_in : Option TurnSetup → List Asked
goals_in (Some turn) = turn.goals.items
goals_in None = []

-- the goals of the last turn
abbrev pub last_goals : ImportSetup → List Asked
last_goals setup = goals_in (last_turn setup)

-- ---- clients whose records have expired

-- whether the trusting period is over at the window's last moment
abbrev pub has_expired : ℕ → Span → Stored → Bool
has_expired period w s = nat_le (s.state.now.time + period) w.until

abbrev pub have_expired : ℕ → Span → List Stored → Bool
have_expired period w records = list_all (has_expired period w) records

-- a client whose written records have all expired at the end of its window in the last turn, and how many these are
abbrev pub nothing_trusted : ImportSetup → SeenSetup → ℕ → Option Notice
nothing_trusted setup seen client = do
  turn ← last_turn setup
  judging ← slice_get seen.clients.items client
  records ← slice_get seen.records.items client
  if have_expired judging.period (window_of setup client turn.window) records.items then Some (NothingTrusted client (length records.items)) else None

-- ---- clients with headers from the future

-- whether a header is ahead of the window's first moment by the clock drift or more
abbrev pub is_from_future : ℕ → Span → Commit → Bool
is_from_future drift w c = nat_le (w.from + drift) c.header.now.time

-- how many headers are, and the lowest height of one
abbrev pub count_ahead : ℕ → Span → List Commit → ℕ
count_ahead drift w commits = count_by (is_from_future drift w) commits

abbrev pub lowest_ahead : ℕ → Span → List Commit → Option ℕ
lowest_ahead drift w commits = reduce min (map (λ (c : Commit). c.header.now.height) (filter (is_from_future drift w) commits))

-- a client with headers from the future, in its window in the last turn, of the chain that it tracks: how many, and the lowest height of these
abbrev pub future_headers : ImportSetup → SeenSetup → ℕ → Option Notice
future_headers setup seen client = do
  turn ← last_turn setup
  own ← slice_get setup.clients.items client
  judging ← slice_get seen.clients.items client
  chain ← slice_get seen.chains.items own.tracks
  lowest ← lowest_ahead judging.drift (window_of setup client turn.window) chain.commits.items
  Some (FutureHeaders client (count_ahead judging.drift (window_of setup client turn.window) chain.commits.items) lowest)

-- ---- goals that nothing meets

-- whether a goal wants a height
abbrev pub wants : Goal → ℕ → Bool
wants (Exactly wanted) height = height == wanted
wants (AtLeast least) height = nat_le least height

-- whether neither a header nor a record is of a height that the goal wants
abbrev pub no_header_meets : Goal → List Commit → Bool
no_header_meets goal commits = list_all (λ (c : Commit). not (wants goal c.header.now.height)) commits

abbrev pub no_record_meets : Goal → List Stored → Bool
no_record_meets goal records = list_all (λ (s : Stored). not (wants goal s.state.now.height)) records

abbrev pub is_unseen : Goal → List Commit → List Stored → Bool
is_unseen goal commits records = no_header_meets goal commits && no_record_meets goal records

-- whether there are headers, and that
abbrev pub is_missed : Goal → List Commit → List Stored → Bool
is_missed goal commits records = not (length commits == 0) && is_unseen goal commits records

-- a goal of the last turn whose client tracks a chain that has headers, and neither one of these nor a written record of the client is of a height that
-- the goal wants
abbrev pub unseen_goal : ImportSetup → SeenSetup → ℕ → Option Notice
unseen_goal setup seen place = do
  asked ← slice_get (last_goals setup) place
  client ← slice_get setup.clients.items asked.client
  chain ← slice_get seen.chains.items client.tracks
  records ← slice_get seen.records.items asked.client
  if is_missed asked.goal chain.commits.items records.items then Some (UnseenGoal place) else None
