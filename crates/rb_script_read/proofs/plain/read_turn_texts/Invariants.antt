use Rattle.std.proofs.Common.{◌≡◌, ℕ, ◌<◌, ◌≤◌, length, map, Ok}
use denote.Text.{Utf8}
use denote.Shadow.{shadow}
use Rattle.toml.specs.Data.{Items, no_items}
use Rattle.toml.specs.Tables.{Nodes, no_nodes}
use Rattle.rb_script_types.specs.Script.{turn_view}
use Rattle.rb_script_config.specs.Setups.{setup_view}
use Rattle.rb_script_read.specs.Turns.{turns_of, opening, reading_view}
use Rattle.rb_script_read.specs.Plain.{Leaves, in_turn}
use Rattle.rb_script_read.proofs.plain.read_turn_texts.Given as goal

abbrev pub invariant-turns : goal.invariant-turns
invariant-turns l =
    shadow (Utf8 l.rest) × (length l.rest ≤ length l.fn.s)
    × ((root : Nodes) (n : ℕ) → length l.fn.s < n → (done : Items)
    × Leaves n (in_turn root no_items no_nodes) l.fn.s (in_turn root done no_nodes) l.rest
    × (turns_of (setup_view l.setup) opening done ≡ Ok (map turn_view l.turns.items, reading_view l.reading)))

abbrev pub decreases-turns : goal.decreases-turns
decreases-turns l = length l.rest
