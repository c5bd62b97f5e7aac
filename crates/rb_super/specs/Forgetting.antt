-- What forgetting leaves as it is.
use Rattle.std.specs.Prelude.{◌≡◌, ℕ, max, Bool, List, [], ◌∷◌, Option, Some, None}
use Rattle.rb_script_types.specs.declared.refusal.Refusal.TheVariants.{Full}
use Rattle.rb_core_model.specs.Event.{Event}
use Rattle.rb_core_model.specs.Standing.{Standing, opening_standing, judged, standing_after}
use Rattle.rb_super_turn.specs.Report.{Report}
use Rattle.rb_super_turn.specs.Script.{Turn, Script, IsScript}
use Rattle.rb_super_turn.specs.Turns.{before_events, after_turn, IsReportOf}
use Rattle.rb_super.specs.Forgetful.{forgotten, AreForgetful, floors_if, floors_after}
use Rattle.rb_super.specs.Free.{after_freely, turn_freely, AreFreeReports}
use Rattle.rb_super.specs.Spoken.{IsSpared}

-- No event speaks of what was forgotten, and none is refused because a light store or a path is full. The first is how things would stand, were
-- nothing ever forgotten, and no light store or path ever full.
abbrev pub AreSpared : (ℕ → ℕ) → Standing → Standing → List Event → Type 0
AreSpared m s t [] = Unit {0}
AreSpared m s t (e ∷ es) = IsSpared m s t e × (judged t e ≡ Some Full → ⊥) × AreSpared m (after_freely s e) (standing_after t e) es

-- the greatest heights so far below which something was forgotten
abbrev pub greatest : (ℕ → ℕ) → (ℕ → ℕ) → ℕ → ℕ
greatest m n chain = max (m chain) (n chain)

abbrev pub raised : (ℕ → ℕ) → Option (ℕ → ℕ) → ℕ → ℕ
raised m None = m
raised m (Some n) = greatest m n

-- ---- forgetting by the floors

-- no event speaks of what was forgotten by then
abbrev pub AreSparedTurns : (Standing → Bool) → (ℕ → ℕ) → Standing → Standing → List Turn → Report → Type 0
AreSparedTurns chosen m s t [] rs = Unit {0}
AreSparedTurns chosen m s t (turn ∷ turns) [] = Unit {0}
AreSparedTurns chosen m s t (turn ∷ turns) (r ∷ rs) =
    AreSpared m (before_events s turn) (before_events t turn) turn.events
    × AreSparedTurns chosen (raised m (floors_if chosen (after_turn t turn r))) (turn_freely s turn r)
    (forgotten (floors_if chosen (after_turn t turn r)) (after_turn t turn r)) turns rs

-- In every script: whoever forgets what lies below the floors, after turns that are chosen by how things stand, gives the reports that the same turns
-- would give, were nothing forgotten and no light store or path ever full, as long as no event speaks of what was forgotten, and none is refused for
-- want of room.
abbrev pub ForgettingByFloorsIsUnseen : Type 0
ForgettingByFloorsIsUnseen =
    (chosen : Standing → Bool) (script : Script) (report : Report) → IsScript script
    → AreSparedTurns chosen (λ (chain : ℕ). 0) (opening_standing script.config) (opening_standing script.config) script.turns report
    → AreFreeReports (opening_standing script.config) script.turns report
    → AreForgetful (opening_standing script.config) script.turns (floors_after chosen (opening_standing script.config) script.turns report) report

-- ---- scripts that stay within their limits

-- no event is refused because a light store or a path is full
abbrev pub HasRoom : Standing → List Event → Type 0
HasRoom s [] = Unit {0}
HasRoom s (e ∷ es) = (judged s e ≡ Some Full → ⊥) × HasRoom (standing_after s e) es

abbrev pub HaveRoom : Standing → List Turn → Report → Type 0
HaveRoom s [] rs = Unit {0}
HaveRoom s (turn ∷ turns) [] = Unit {0}
HaveRoom s (turn ∷ turns) (r ∷ rs) = HasRoom (before_events s turn) turn.events × HaveRoom (after_turn s turn r) turns rs

-- where no event of a script is refused for want of room, its report is that of light stores and paths that are never full
abbrev pub ReportsAreFree : Type 0
ReportsAreFree =
    (script : Script) (report : Report) → HaveRoom (opening_standing script.config) script.turns report → IsReportOf script report
    → AreFreeReports (opening_standing script.config) script.turns report
