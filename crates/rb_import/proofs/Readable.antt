-- Scripts that their reader could have given.
use Rattle.std.proofs.Common.{◌≡◌, ◌+◌, ◌<◌, ◌≤◌, ℕ, List, length, map, take, get_or, All, refl, sym, subst, sum_by, arith}
use Rattle.std.specs.declared.alloc.Global.{Global}
use Rattle.std.proofs.lemmas.List.{get_or-map, length-map, take-map}
use Rattle.std.proofs.lemmas.List.Elements.{All-map}
use Rattle.std.proofs.lemmas.List.Sums.{sum_by-take-le, sum_by_more}
use Rattle.rb_script_types.specs.declared.script.Script.{Script as CodeScript}
use Rattle.rb_script_types.specs.declared.script.Turn.{Turn as CodeTurn}
use Rattle.rb_script_types.specs.Config.{IsConfig, config_view}
use Rattle.rb_script_types.specs.Limits.{max_entries, max_turns}
use Rattle.rb_script_types.specs.Script.{IsReadScript, IsReadTurn, IsTurnOf, Turn, entry_count, script_view, turn_view}
use Rattle.rb_script_types.proofs.Turns.{its_turns}

same_length : (s : CodeScript Global) (turns : List (CodeTurn Global)) → turns ≡ s.turns.items → length turns ≡ length (map turn_view s.turns.items)
same_length s turns same = rw same (omega (arith, length-map s.turns.items turn_view))

pub is_read : (s : CodeScript Global) (turns : List (CodeTurn Global)) → turns ≡ s.turns.items → IsConfig (config_view s.config) → (length turns ≤ max_turns) × All (IsTurnOf s.config) turns
    → sum_by entry_count (map turn_view s.turns.items) ≤ max_entries → IsReadScript (script_view s)
is_read s turns same config (few, each) room = record {
  config = config;
  turns = All-map (IsReadTurn (length s.config.chains.items) (length s.config.clients.items) (length s.config.paths.items)) turn_view s.turns.items (subst (All (IsTurnOf s.config)) same each);
  few_turns = subst (λ n. n ≤ max_turns) (same_length s turns same) few;
  few_entries = room;
}

-- and what they have
pub read_turns : (s : CodeScript Global) (turns : List (CodeTurn Global)) → turns ≡ s.turns.items → IsReadScript (script_view s) → (length turns ≤ max_turns) × All (IsTurnOf s.config) turns
read_turns s turns same is = (subst (λ n. n ≤ max_turns) (sym (same_length s turns same)) is.few_turns, its_turns s turns same is)

-- a turn that doesn't fit into the room that those before it leave is too much
pub no_room : (turns : List (CodeTurn Global)) (i room most : ℕ) (t : CodeTurn Global) → i < length turns → t ≡ get_or turns i t → room + sum_by entry_count (map turn_view (take i turns)) ≡ most
    → ¬ (entry_count (turn_view t) ≤ room) → ¬ (sum_by entry_count (map turn_view turns) ≤ most)
no_room turns i room most t small is left out fits = out (omega (arith, part, more, before, at, left, fits)) where
  all : List (Turn Global)
  all = map turn_view turns

  part : sum_by entry_count (take (i + 1) all) ≤ sum_by entry_count all
  part = sum_by-take-le entry_count all (i + 1)

  more : sum_by entry_count (take (i + 1) all) ≡ sum_by entry_count (take i all) + entry_count (get_or all i (turn_view t))
  more = sum_by_more entry_count all i (turn_view t) (omega (arith, small, length-map turns turn_view))

  before : sum_by entry_count (take i all) ≡ sum_by entry_count (map turn_view (take i turns))
  before = rw (take-map turn_view i turns) refl

  at : entry_count (get_or all i (turn_view t)) ≡ entry_count (turn_view t)
  at = rw (get_or-map turn_view turns i t (turn_view t) small, sym is) refl
