use Rattle.std.proofs.Common.{◌≡◌, ℕ, ◌<◌, ◌≤◌, length}
use denote.Text.{Utf8}
use denote.Shadow.{shadow}
use Rattle.toml.specs.Data.{Items}
use Rattle.toml.specs.View.{table_view}
use Rattle.toml.specs.Tables.{Nodes}
use Rattle.rb_script_config.specs.Setups.{setup_view}
use Rattle.rb_script_read.specs.Names.{Names}
use Rattle.rb_script_read.specs.TurnNames.{names_now}
use Rattle.rb_script_read.specs.Plain.{AreRead, Leaves, around, in_turn}
use Rattle.rb_script_read.proofs.plain.read_lines.Given as goal

abbrev pub invariant-lines : goal.invariant-lines
invariant-lines l =
    shadow (Utf8 l.rest) × (length l.rest ≤ length l.fn.s) × (l.lines.names.earlier.now ≡ l.fn.lines.names.earlier.now)
    × ((root : Nodes) (done : Items) (names : Names) (ds : Items) (n : ℕ) → length l.fn.s < n
    → AreRead (setup_view l.setup) l.path names (table_view l.fn.lines.table) ds l.fn.lines.events.items (names_now l.fn.lines.names)
    → (es : Items) × Leaves n (in_turn root done (around ds (table_view l.fn.lines.table))) l.fn.s (in_turn root done (around es (table_view l.lines.table))) l.rest
    × AreRead (setup_view l.setup) l.path names (table_view l.lines.table) es l.lines.events.items (names_now l.lines.names))

abbrev pub decreases-lines : goal.decreases-lines
decreases-lines l = length l.rest
