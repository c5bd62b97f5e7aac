-- Where no event is refused for want of room, limits make no difference.
use Rattle.std.proofs.Common.{◌≡◌, ℕ, ◌+◌, List, [], ◌∷◌, ◌++◌, Option, Some, is_some, refl, sym, ap, ◌∙◌, subst, if◌then◌else◌}
use Rattle.std.specs.List.{AllZip, enumerate_from, fold}
use Rattle.rb_script_types.specs.declared.refusal.Refusal.{Refusal}
use Rattle.rb_script_types.specs.declared.refusal.Refusal.TheVariants.{Full}
use Rattle.rb_core_model.specs.Event.{Event}
use Rattle.rb_core_model.specs.Standing.{Standing, opening_standing, judged, changed, standing_after}
use Rattle.rb_super_turn.specs.Report.{TurnReport, Report}
use Rattle.rb_super_turn.specs.Script.{Turn}
use Rattle.rb_super_turn.specs.Turns.{refused_as, refusals, before_events, before_plans, IsClientReport, after_reports, after_plans, after_all, reports_of_all, IsTurnReport, after_turn, AreTurnReports}
use Rattle.rb_super.specs.Free.{after_freely, refusals_freely, plans_freely, sent_freely, IsFreeReport, turn_freely, AreFreeReports}
use Rattle.rb_super.specs.Forgetting.{HasRoom, HaveRoom, ReportsAreFree}
use Rattle.rb_super.proofs.Turns.{not_full}

pub same_after : (s : Standing) (e : Event) → (judged s e ≡ Some Full → ⊥) → after_freely s e ≡ standing_after s e
same_after s e room = ap (λ (o : Option Refusal). if is_some o then s else changed s e) (not_full (judged s e) room)

pub same_run : (n : ℕ) (s : Standing) (es : List Event) → HasRoom s es → (fold after_freely s es ≡ fold standing_after s es) × (refusals_freely n s es ≡ refusals n s es)
same_run n s [] room = (refl, refl)
same_run n s (e ∷ es) (room, more) =
    let same = same_after s e room in
    let rest = same_run (n + 1) (standing_after s e) es more in (
      ap (λ (x : Standing). fold after_freely x es) same ∙ rest.0,
      (λ i. refused_as n (not_full (judged s e) room i) ++ refusals_freely (n + 1) (same i) es) ∙ ap (λ rs. refused_as n (judged s e) ++ rs) rest.1,
    )

module _ (s : Standing) (turn : Turn) (room : HasRoom (before_events s turn) turn.events) where
  plans_same : plans_freely s turn ≡ before_plans s turn
  plans_same = (same_run 0 (before_events s turn) turn.events room).0

  sent_same : (r : TurnReport) → sent_freely s turn r ≡ after_plans s turn r
  sent_same r = ap (λ (x : Standing). record x { clients = after_reports x.clients r.clients }) plans_same

  pub turn_same : (r : TurnReport) → turn_freely s turn r ≡ after_turn s turn r
  turn_same r = ap (after_all turn.settlements turn.taken) (sent_same r)

  -- a turn's report, with limits and without
  pub with_limits : (r : TurnReport) → IsFreeReport s turn r → IsTurnReport s turn r
  with_limits r right = record {
    window = right.window;
    hosts = right.hosts;
    refused = right.refused ∙ (same_run 0 (before_events s turn) turn.events room).1;
    clients = subst (λ (x : Standing). AllZip (IsClientReport x) (enumerate_from 0 x.clients) r.clients) plans_same right.clients;
    settlements = right.settlements ∙ ap (reports_of_all turn.settlements turn.taken) (sent_same r);
  }

  pub without_limits : (r : TurnReport) → IsTurnReport s turn r → IsFreeReport s turn r
  without_limits r right = record {
    window = right.window;
    hosts = right.hosts;
    refused = right.refused ∙ sym (same_run 0 (before_events s turn) turn.events room).1;
    clients = subst (λ (x : Standing). AllZip (IsClientReport x) (enumerate_from 0 x.clients) r.clients) (sym plans_same) right.clients;
    settlements = right.settlements ∙ sym (ap (reports_of_all turn.settlements turn.taken) (sent_same r));
  }

turns_free : (s : Standing) (turns : List Turn) (report : Report) → HaveRoom s turns report → AreTurnReports s turns report → AreFreeReports s turns report
turns_free s [] [] room right = tt
turns_free s [] (r ∷ rs) room right = right
turns_free s (turn ∷ turns) [] room right = right
turns_free s (turn ∷ turns) (r ∷ rs) room right = (
  without_limits s turn room.0 r right.0,
  subst (λ (x : Standing). AreFreeReports x turns rs) (sym (turn_same s turn room.0 r)) (turns_free (after_turn s turn r) turns rs room.1 right.1),
)

pub reports_are_free : ReportsAreFree
reports_are_free = λ script report room right. turns_free (opening_standing script.config) script.turns report room right
