-- What a client is planned by in each turn of a script keeps what every view keeps.
use Rattle.std.proofs.Common.{◌≡◌, ℕ, zero, suc, List, [], ◌∷◌, take, Some, refl, subst}
use Rattle.std.specs.List.{AllByRecursion, slice_get}
use Rattle.std.proofs.lemmas.Option.{none-some, same_Some}
use Rattle.rb_step.specs.View.{IsView}
use Rattle.rb_plan_client.specs.Task.{view_of}
use Rattle.rb_core_model.specs.Standing.{Standing, opening_standing}
use Rattle.rb_super_turn.specs.Report.{TurnReport, Report}
use Rattle.rb_super_turn.specs.Script.{Turn, Script}
use Rattle.rb_super_turn.specs.Turns.{before_plans, after_turn}
use Rattle.rb_super_turn.specs.Judging.{Leads}
use Rattle.rb_super.specs.Laws.{PlannedViewsAreViews}
use Rattle.rb_super.specs.Fewest.{ClientTurn, AreTurnsOf, IsRun}
use Rattle.rb_super.specs.InTime.{IsPlannedIn}

-- a turn, how things stand when it begins, and what it plans for the client
pub record Turning (place : ℕ) (s : Standing) (turns : List Turn) (n : ℕ) (k : ClientTurn) : Type 0 where
  pub begun : Standing
  pub earlier : Leads s (take n turns) begun
  pub this : Turn
  pub is_this : slice_get turns n ≡ Some this
  pub report : TurnReport
  pub planned : IsPlannedIn begun this report place k.client k.report k.task k.reach

pub turning : (place : ℕ) (turns : List Turn) (rs : List TurnReport) (ks : List ClientTurn) (s : Standing) → AreTurnsOf place s turns rs ks
    → (n : ℕ) (k : ClientTurn) → slice_get ks n ≡ Some k → Turning place s turns n k
turning place [] rs [] s are n k at = absurd (none-some k at)
turning place [] rs (x ∷ ks) s are n k at = absurd are
turning place (turn ∷ turns) [] ks s are n k at = absurd are
turning place (turn ∷ turns) (r ∷ rs) [] s are n k at = absurd are
turning place (turn ∷ turns) (r ∷ rs) (x ∷ ks) s are zero k at = record {
  begun = s;
  earlier = refl;
  this = turn;
  is_this = refl;
  report = r;
  planned = subst (λ (y : ClientTurn). IsPlannedIn s turn r place y.client y.report y.task y.reach) (same_Some x k at) are.0;
}
turning place (turn ∷ turns) (r ∷ rs) (x ∷ ks) s are (suc n) k at =
    let rest = turning place turns rs ks (after_turn s turn r) are.1 n k at in
    record {
      begun = rest.begun;
      earlier = (r, are.0.is_turn, rest.earlier);
      this = rest.this;
      is_this = rest.is_this;
      report = rest.report;
      planned = rest.planned;
    }

by_place : (P : ClientTurn → Type 0) (ks : List ClientTurn) → ((n : ℕ) (k : ClientTurn) → slice_get ks n ≡ Some k → P k) → AllByRecursion P ks
by_place P [] each = tt
by_place P (k ∷ ks) each = (each 0 k refl, by_place P ks (λ n x at. each (suc n) x at))

pub are_views : PlannedViewsAreViews → (script : Script) (report : Report) (place : ℕ) (ks : List ClientTurn) → IsRun script report place ks
    → AllByRecursion (λ (k : ClientTurn). IsView (view_of k.task)) ks
are_views law script report place ks is = by_place (λ (k : ClientTurn). IsView (view_of k.task)) ks (λ n k at.
    let t = turning place script.turns report ks (opening_standing script.config) is.turns n k at in
    law script is.is_script n place (before_plans t.begun t.this) k.client k.task
    (record { begun = t.begun; earlier = t.earlier; this = t.this; is = t.is_this; taken_in = refl })
    (record { window = t.planned.window; is_window = t.planned.is_window; is_known = t.planned.is_client; is_task = t.planned.task }))
