-- Whatever happens, there are as many paths as before.
use Rattle.std.proofs.Common.{◌≡◌, ℕ, List, [], ◌∷◌, length, Option, Some, None, is_some, refl, ◌∙◌, if◌then◌else◌}
use Rattle.std.specs.List.{fold}
use Rattle.std.specs.Option.{option_map_or}
use Rattle.rb_script_types.specs.declared.refusal.Refusal.{Refusal}
use Rattle.rb_script_types.specs.declared.script.Settlement.{Settlement}
use Rattle.rb_core_model.specs.Event.{Event, Window, Asked}
use Rattle.rb_core_model.specs.Standing.{Standing, judged, changed, standing_after}
use Rattle.rb_core_model.proofs.Lengths.{lengths_changed}
use Rattle.rb_super_turn.specs.Report.{TurnReport}
use Rattle.rb_super_turn.specs.Script.{Turn}
use Rattle.rb_super_turn.specs.Turns.{after_window, window_event, after_host_window, after_question, before_events, before_plans, after_plans, settlement_event, after_settlement, taking, after_taking, takers, after_turn}

abbrev paths_in : Standing → ℕ
paths_in s = length s.paths

by_event : (s : Standing) (e : Event) → paths_in (standing_after s e) ≡ paths_in s
by_event s e = go (judged s e)
  where
    go : (o : Option Refusal) → paths_in (if is_some o then s else changed s e) ≡ paths_in s
    go None = (lengths_changed s e).paths
    go (Some r) = refl

by_all : {X : Type 0} (step : Standing → X → Standing) → ((s : Standing) (x : X) → paths_in (step s x) ≡ paths_in s) → (xs : List X) (s : Standing) → paths_in (fold step s xs) ≡ paths_in s
by_all step one [] s = refl
by_all step one (x ∷ xs) s = by_all step one xs (step s x) ∙ one s x

by_taking : (s : Standing) (place : ℕ) → paths_in (after_taking s place) ≡ paths_in s
by_taking s place = go (taking s place)
  where
    go : (o : Option Settlement) → paths_in (option_map_or (after_settlement s) o s) ≡ paths_in s
    go None = refl
    go (Some x) = by_event s (settlement_event x)

pub paths_before : (s : Standing) (turn : Turn) → paths_in (before_plans s turn) ≡ paths_in s
paths_before s turn =
    let hosts = fold after_host_window s turn.windows in
    by_all standing_after by_event turn.events (before_events s turn)
    ∙ by_all after_question (λ s q. by_event s (Asked q.client q.goal)) turn.goals (after_window hosts turn.window)
    ∙ by_event hosts (Window turn.window) ∙ by_all after_host_window (λ s w. by_event s (window_event w)) turn.windows s

pub paths_after : (s : Standing) (turn : Turn) (r : TurnReport) → paths_in (after_turn s turn r) ≡ paths_in s
paths_after s turn r =
    let sent = after_plans s turn r in
    by_all after_taking by_taking (takers sent turn.taken) (fold after_settlement sent turn.settlements)
    ∙ by_all after_settlement (λ s x. by_event s (settlement_event x)) turn.settlements sent ∙ paths_before s turn
