-- The turns of a script, as they lie in memory and without that.
use Rattle.std.proofs.Common.{◌≡◌, List, map, length, All, sym, subst, arith}
use Rattle.std.proofs.lemmas.List.{length-map, get_or-map}
use Rattle.rb_script_types.specs.declared.script.Script.{Script as CodeScript}
use Rattle.rb_script_types.specs.declared.script.Turn.{Turn as CodeTurn}
use Rattle.rb_script_types.specs.Script.{turn_view, script_view, IsReadTurn, IsTurnOf, IsReadScript}

-- what every turn of a script keeps
pub its_turns : {A : Type 0} (s : CodeScript A) (turns : List (CodeTurn A)) → turns ≡ s.turns.items → IsReadScript (script_view s) → All (IsTurnOf s.config) turns
its_turns s turns same is = subst (All (IsTurnOf s.config)) (sym same) (λ k d lt.
    subst (IsReadTurn (length s.config.chains.items) (length s.config.clients.items) (length s.config.paths.items)) (get_or-map turn_view s.turns.items k d (turn_view d) lt)
    (is.turns k (turn_view d) (omega (arith, lt, length-map s.turns.items turn_view))))
