-- What is refused, told by the report as it lies in memory.
use Rattle.std.specs.Prelude.{◌≡◌, ℕ, Bool, true, false, List, [], ◌∷◌, ◌||◌, map, length, is_some}
use Rattle.std.specs.List.{list_any, sum_by}
use Rattle.std.proofs.Common.{refl, ap, sym}
use Rattle.std.proofs.lemmas.List.{length-map}
use Rattle.rb_super_turn.specs.Views.{refused_view, settlement_view, turn_report_view}
use Rattle.ibcplan.specs.Status.{has_refusal}
use Rattle.rb_super_turn.specs.declared.report.TurnReport.{TurnReport as CodeTurnReport}

pub any-map : {X Y : Type 0} (p : Y → Bool) (f : X → Y) (xs : List X) → list_any p (map f xs) ≡ list_any (λ x. p (f x)) xs
any-map p f [] = refl
any-map p f (x ∷ xs) = ap (λ b. p (f x) || b) (any-map p f xs)

-- a turn whose windows and events are taken refuses what its settlements do
pub turn-by-settlements : {A : Type 0} (t : CodeTurnReport A) → t.window_back ≡ false → length t.hosts_back.items ≡ 0 → length t.refused.items ≡ 0 →
    list_any (λ x. is_some (settlement_view x).refusal) t.settlements.items ≡ has_refusal (turn_report_view t)
turn-by-settlements t window hosts events =
    rw (window, hosts, length-map t.refused.items refused_view, events) (sym (any-map (λ x. is_some x.refusal) settlement_view t.settlements.items))

-- how many events turns refused, as they lie in memory
abbrev pub events_refused : {A : Type 0} → List (CodeTurnReport A) → ℕ
events_refused turns = sum_by (λ t. length (map refused_view t.refused.items)) turns

pub ruleset refusals = (any-map, turn-by-settlements)
