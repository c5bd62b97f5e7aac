-- A turn that was led through gives its report.
use Rattle.std.proofs.Common.{◌≡◌, ℕ, Bool, List, length, ap, ◌∙◌}
use Rattle.rb_core.specs.Core.{Core}
use Rattle.rb_core_model.specs.Standing.{goes_back}
use Rattle.rb_script_types.specs.declared.script.Asked.{Asked}
use Rattle.rb_script_types.specs.declared.script.HostWindow.{HostWindow}
use Rattle.rb_script_types.specs.declared.script.Settlement.{Settlement}
use Rattle.rb_script_types.specs.declared.script.Turn.{Turn as CodeTurn}
use Rattle.rb_super_turn.specs.Phases.{standing_in, turn_heard, AreReported}
use Rattle.rb_super_turn.specs.Report.{RefusedEvent, ClientReport, SettlementReport, TurnReport}
use Rattle.rb_super_turn.specs.AsEvents.{code_turn_as_events}
use Rattle.rb_super_turn.specs.Turns.{hosts_back, before_plans, refusals_in, after_all, reports_of_all, IsTurnReport, after_turn}
use Rattle.rb_super_turn.proofs.Phases.{turn_reported}
use Rattle.rb_super_turn.proofs.Steps.{sizes_in}

pub turn_done : {A : Type 0} (self b d e : Core) (t : CodeTurn A) (windows : List HostWindow) (goals : List Asked) (xs : List Settlement) (back : Bool) (hosts : List ℕ) (refused : List RefusedEvent) (clients : List ClientReport) (settlements : List SettlementReport)
    → windows ≡ t.windows.items → goals ≡ t.goals.items → xs ≡ t.settlements.items
    → back ≡ goes_back (standing_in self).window t.window
    → hosts ≡ hosts_back (standing_in self) windows
    → refused ≡ refusals_in (standing_in self) (turn_heard t.window windows goals t.events.items)
    → standing_in b ≡ before_plans (standing_in self) (turn_heard t.window windows goals t.events.items)
    → length clients ≡ length self.config.clients
    → AreReported (standing_in b) (standing_in d) 0 clients
    → settlements ≡ reports_of_all xs t.taken (standing_in d)
    → standing_in e ≡ after_all xs t.taken (standing_in d)
    → let r : TurnReport = record { window_back = back; hosts_back = hosts; refused = refused; clients = clients; settlements = settlements }
    in IsTurnReport (standing_in self) (code_turn_as_events t) r × (standing_in e ≡ after_turn (standing_in self) (code_turn_as_events t) r)
turn_done self b d e t windows goals xs back hosts refused clients settlements windows_are goals_are xs_are back_is hosts_are refused_is b_is count are settlements_are e_is =
    let s = standing_in self in
    turn_reported self.config (code_turn_as_events t) s (standing_in b) (standing_in d) (standing_in e) back hosts refused clients settlements (sizes_in self).clients back_is
    (hosts_are ∙ ap (hosts_back s) windows_are)
    (refused_is ∙ (λ i. refusals_in s (turn_heard t.window (windows_are i) (goals_are i) t.events.items)))
    (b_is ∙ (λ i. before_plans s (turn_heard t.window (windows_are i) (goals_are i) t.events.items)))
    count are
    (settlements_are ∙ ap (λ ys. reports_of_all ys t.taken (standing_in d)) xs_are)
    (e_is ∙ ap (λ ys. after_all ys t.taken (standing_in d)) xs_are)
