use Rattle.std.proofs.Common.{◌≡◌, ℕ, ◌<◌, ◌≤◌, [], length, Ok}
use denote.Text.{Utf8}
use denote.Shadow.{shadow}
use Rattle.toml.specs.Data.{Items, no_items}
use Rattle.toml.specs.Parse.{val, items}
use Rattle.rb_script_toml.specs.Fields.{in_sequence}
use Rattle.rb_script_config.specs.Setups.{setup_view}
use Rattle.rb_script_read.specs.Events.{event}
use Rattle.rb_script_read.specs.TurnNames.{names_now}
use Rattle.rb_script_read.proofs.plain.read_elements.Given as goal

abbrev pub invariant-events : goal.invariant-events
invariant-events l =
    shadow (Utf8 l.rest) × (length l.rest ≤ length l.fn.s) × (l.names.earlier.now ≡ l.fn.names.earlier.now)
    × ((n : ℕ) → length l.fn.s < n → (m : ℕ) × (ds : Items) × (length l.rest < m)
    × (items (val 79) n no_items l.fn.s ≡ items (val 79) m ds l.rest)
    × (in_sequence (event (setup_view l.setup)) l.path (names_now l.fn.names) [] ds ≡ Ok (l.events.items, names_now l.names)))

abbrev pub decreases-events : goal.decreases-events
decreases-events l = length l.rest
