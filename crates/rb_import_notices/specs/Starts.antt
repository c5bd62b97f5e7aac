-- Between which heights a stored consensus state is of use to a plan that lacks its next set (ICS 7: an update is above its trusted height).
use Rattle.std.specs.Prelude.{ℕ, ◌==◌, ◌&&◌, nat_lt, min, max, Bool, List, Vec, Option, Some, None, filter, find, map, slice_get}
use Rattle.std.specs.Global.{Global}
use Rattle.std.specs.List.{reduce}
use Rattle.std.specs.Option.{unwrap_or}
use Rattle.rb_script_types.specs.declared.script.Asked.{Asked}
use Rattle.rb_script_types.specs.declared.goal.Goal.{Goal}
use Rattle.rb_script_types.specs.declared.goal.Goal.TheVariants.{Exactly, AtLeast}
use Rattle.rb_import_setup.specs.declared.setup.ClientSetup.{ClientSetup}
use Rattle.rb_import_setup.specs.declared.setup.ImportSetup.{ImportSetup}
use Rattle.rb_import_setup.specs.declared.setup.TurnSetup.{TurnSetup}
use Rattle.rb_import_check.specs.declared.chain.Commit.{Commit}
use Rattle.rb_import_check.specs.declared.chain.SeenChain.{SeenChain}
use Rattle.rb_import_check.specs.declared.client.Stored.{Stored}
use Rattle.rb_import_merge.specs.declared.seen.SeenSetup.{SeenSetup}
use Rattle.rb_import_merge.specs.Seen.{is_written}
use Rattle.rb_import_notices.specs.declared.starts.Starts.{Starts}
use Rattle.rb_import_notices.specs.Unusable.{last_turn}

-- the first of these goals that is of the client at a place, if there is one
unfoldable pub asked_in : List Asked → ℕ → Option Asked
asked_in goals place = find (λ (a : Asked). a.client == place) goals

abbrev asked_for : Option TurnSetup → ℕ → Option Asked
asked_for (Some turn) place = asked_in turn.goals.items place
asked_for None place = None

-- the goal of the client at a place in the last turn, if it has one
abbrev pub asked_of : ImportSetup → ℕ → Option Asked
asked_of setup place = asked_for (last_turn setup) place

abbrev pub bound_by : Goal → ℕ → ℕ
bound_by (Exactly height) highest = min height highest
bound_by (AtLeast least) highest = highest

-- the height below which an update starts: that of the goal, where it is of one height, and in any case that of the highest header
abbrev pub below_of : Option Asked → ℕ → ℕ
below_of (Some asked) highest = bound_by asked.goal highest
below_of None highest = highest

-- the greatest height of these headers, if there are some
unfoldable pub highest_among : List Commit → Option ℕ
highest_among commits = reduce max (map (λ (c : Commit). c.header.now.height) commits)

abbrev highest_in : Option SeenChain → ℕ
highest_in (Some chain) = unwrap_or (highest_among chain.commits.items) 0
highest_in None = 0

-- the greatest height of the headers of the chain at a place, 0 if there are none
abbrev pub highest_of : SeenSetup → ℕ → ℕ
highest_of seen chain = highest_in (slice_get seen.chains.items chain)

-- whether a record is below a height, and its next set is written of the chain at a place
abbrev pub has_written_next : SeenSetup → ℕ → ℕ → Stored → Bool
has_written_next seen chain below s =
    nat_lt s.state.now.height below && is_written (slice_get seen.chains.items chain) (slice_get seen.sets.items chain) s.state.now.next

-- the greatest height of those of these records that are below a height and whose next set is written, if there are some
unfoldable pub highest_start : SeenSetup → ℕ → ℕ → List Stored → Option ℕ
highest_start seen chain below records = reduce max (map (λ (s : Stored). s.state.now.height) (filter (has_written_next seen chain below) records))

-- the same, 0 if there are none: an update starts there
abbrev pub lower_start : SeenSetup → ℕ → ℕ → List Stored → ℕ
lower_start seen chain below records = unwrap_or (highest_start seen chain below records) 0

abbrev lower_in : SeenSetup → ℕ → ℕ → Option (Vec Stored Global) → ℕ
lower_in seen chain below (Some records) = lower_start seen chain below records.items
lower_in seen chain below None = 0

abbrev starts_below : SeenSetup → ℕ → ℕ → ℕ → Starts
starts_below seen place chain below = record { above = lower_in seen chain below (slice_get seen.records.items place); below = below }

-- the heights between which the written records of the client at a place are of use: above the highest one from which an update starts already, and
-- below the goal, where it is of one height, and the highest header
abbrev pub starts_at : ImportSetup → SeenSetup → ℕ → ClientSetup → Starts
starts_at setup seen place c = starts_below seen place c.tracks (below_of (asked_of setup place) (highest_of seen c.tracks))

-- whether a record is of such a height
abbrev pub is_start : Starts → Stored → Bool
is_start starts s = nat_lt starts.above s.state.now.height && nat_lt s.state.now.height starts.below
