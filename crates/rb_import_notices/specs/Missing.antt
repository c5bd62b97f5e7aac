-- The sets that records name as their next and that aren't written.
use Rattle.std.specs.Prelude.{◌==◌, ◌+◌, ◌&&◌, ℕ, Bool, false, not, if◌then◌else◌, List, Option, Some, None, count_by, filter, map, max, slice_get}
use Rattle.std.specs.List.{list_any, reduce}
use Rattle.std.specs.Str.{bytes_eq}
use Rattle.rb_valset.specs.ValidatorSet.{set_hash}
use Rattle.rb_import_setup.specs.declared.setup.ClientSetup.{ClientSetup}
use Rattle.rb_import_setup.specs.declared.setup.ImportSetup.{ImportSetup}
use Rattle.rb_import_check.specs.declared.chain.SeenChain.{SeenChain}
use Rattle.rb_import_check.specs.declared.client.Stored.{Stored}
use Rattle.rb_import_check.specs.declared.sets.SeenSet.{SeenSet}
use Rattle.rb_import_merge.specs.declared.seen.SeenSetup.{SeenSetup}
use Rattle.rb_import_merge.specs.Seen.{is_written}
use Rattle.rb_import_notices.specs.declared.notice.Notice.{Notice}
use Rattle.rb_import_notices.specs.declared.notice.Notice.TheVariants.{MissingNextSet}
use Rattle.rb_import_notices.specs.declared.starts.Starts.{Starts}
use Rattle.rb_import_notices.specs.Starts.{is_start, starts_at}
use Rattle.rb_import_notices.specs.Steps.{◌>>=◌}

-- whether a set of this hash was seen of a chain
abbrev pub was_seen : Option SeenChain → List ℕ → Bool
was_seen (Some chain) hash = list_any (λ (s : SeenSet). bytes_eq (set_hash s.set) hash) chain.sets.sets.items
was_seen None hash = false

-- whether a record is of these heights, and no answer on the chain at a place has the set that it names as its next
abbrev pub is_unseen : SeenSetup → ℕ → Starts → Stored → Bool
is_unseen seen chain starts s = is_start starts s && not (was_seen (slice_get seen.chains.items chain) s.state.now.next)

-- whether it is, and that set was seen, and isn't written
abbrev pub is_left_out : SeenSetup → ℕ → Starts → Stored → Bool
is_left_out seen chain starts s =
    is_start starts s
    && was_seen (slice_get seen.chains.items chain) s.state.now.next
    && not (is_written (slice_get seen.chains.items chain) (slice_get seen.sets.items chain) s.state.now.next)

-- the height of the set that a record names as its next
abbrev pub next_height : Stored → ℕ
next_height s = s.state.now.height + 1

-- of how many of these, of some heights, no answer on the chain at a place has the next set; the height of that set of the highest of them; and of how
-- many the next set was seen, and isn't written
unfoldable pub unseen_in : SeenSetup → ℕ → Starts → List Stored → ℕ
unseen_in seen chain starts records = count_by (is_unseen seen chain starts) records

unfoldable pub next_in : SeenSetup → ℕ → Starts → List Stored → Option ℕ
next_in seen chain starts records = reduce max (map next_height (filter (is_unseen seen chain starts) records))

unfoldable pub left_out_in : SeenSetup → ℕ → Starts → List Stored → ℕ
left_out_in seen chain starts records = count_by (is_left_out seen chain starts) records

-- a client, where some weren't seen, or some are left out
abbrev pub next_sets_told : ℕ → ℕ → Option ℕ → ℕ → Option Notice
next_sets_told client unseen next left_out = if unseen == 0 && left_out == 0 then None else Some (MissingNextSet client unseen next left_out)

abbrev next_sets_of : SeenSetup → ℕ → ℕ → Starts → List Stored → Option Notice
next_sets_of seen client chain starts records =
    next_sets_told client (unseen_in seen chain starts records) (next_in seen chain starts records) (left_out_in seen chain starts records)

-- a client of whose written records, that could be of use to a plan, some next sets of the chain that it tracks aren't written: of how many each is so,
-- and what to fetch for the highest
abbrev pub missing_next_set : ImportSetup → SeenSetup → ℕ → Option Notice
missing_next_set setup seen client = do
  own ← slice_get setup.clients.items client
  records ← slice_get seen.records.items client
  next_sets_of seen client own.tracks (starts_at setup seen client own) records.items
