-- The turns of a script before a place, and the one there.
use Rattle.std.proofs.Common.{◌≡◌, ℕ, ◌<◌, List, [], All, Some, length, map, take, get_or, sym, ap, ◌∙◌, subst, arith}
use Rattle.std.specs.List.{slice_get, sum_by}
use Rattle.std.proofs.lemmas.List.{take-map}
use Rattle.std.proofs.lemmas.List.Elements.{All-take, All-get_or}
use Rattle.std.proofs.lemmas.List.Sums.{sum_by-take-le, sum_by_more_le}
use Rattle.std.proofs.lemmas.Option.{slice_get-get_or, same_Some}
use Rattle.rb_core.specs.Core.{Core}
use Rattle.rb_core_model.specs.Snapshot.{from_nothing}
use Rattle.rb_core_model.specs.Standing.{Standing}
use Rattle.rb_core_state.proofs.Places.{found_seen}
use Rattle.rb_script_types.specs.Config.{Config}
use Rattle.rb_script_types.specs.Script.{Script, turn_view, IsReadScript}
use Rattle.rb_script_types.specs.declared.script.Turn.{Turn as CodeTurn}
use Rattle.rb_super_turn.specs.Judging.{Leads, IsPlanPhase}
use Rattle.rb_super_turn.specs.Phases.{standing_in, HasLogRoom, IsLater}
use Rattle.rb_super_turn.specs.Script.{Turn}
use Rattle.rb_super_turn.specs.AsEvents.{turn_as_events, as_events, code_turn_as_events, IsTurnFor, most_events}
use Rattle.rb_super_turn.specs.Turns.{before_plans}
use Rattle.rb_super_turn.proofs.Runs.{opened_standing, turns_fit, turns_for, turns_as_events}

-- what stands at a place
there : {X : Type 0} (xs : List X) (i : ℕ) (x : X) → i < length xs → slice_get xs i ≡ Some x → x ≡ get_or xs i x
there xs i x lt at = same_Some x (get_or xs i x) (sym at ∙ slice_get-get_or xs i x lt)

module _ {A : Type 0} (script : Script A) (core : Core) (turns : List (CodeTurn A)) (config : core.config ≡ script.config) (log : core.log ≡ from_nothing []) (are : script.turns ≡ map turn_view turns)
    (is : IsReadScript script) (place : ℕ) (lt : place < length turns) (earlier : List (CodeTurn A)) (before : earlier ≡ take place turns)
    (this : CodeTurn A) (at : slice_get turns place ≡ Some this) where
  pub earlier_for : All (IsTurnFor core.config) earlier
  earlier_for = subst (λ ts. All (IsTurnFor core.config) ts) (sym before) (All-take (IsTurnFor core.config) place turns (turns_for script core turns config are is))

  pub earlier_fit : HasLogRoom core (sum_by (most_events core.config) earlier)
  earlier_fit =
      let whole = turns_fit core script turns config log are is in
      let part = sum_by-take-le (most_events core.config) turns place in
      let same = ap (λ ts. sum_by (most_events core.config) ts) before in
      omega arith

  pub this_for : (begun : Core) → begun.config ≡ core.config → IsTurnFor begun.config this
  this_for begun same =
      subst (λ (c : Config). IsTurnFor c this) (sym same)
      (subst (IsTurnFor core.config) (sym (there turns place this lt at)) (All-get_or (IsTurnFor core.config) turns place this lt (turns_for script core turns config are is)))

  pub this_fits : (begun : Core) → IsLater (sum_by (most_events core.config) earlier) core begun → HasLogRoom begun (most_events begun.config this)
  this_fits begun later =
      let whole = turns_fit core script turns config log are is in
      let part = sum_by_more_le (most_events core.config) turns place this lt in
      let same = ap (λ ts. sum_by (most_events core.config) ts) before in
      let one = ap (most_events core.config) (there turns place this lt at) in
      let moved : most_events begun.config this ≡ most_events core.config this = ap (λ (c : Config). most_events c this) later.config in
      let front = later.front in
      omega arith

  pub phase_there : (begun : Standing) (s : Standing) → Leads (standing_in core) (map code_turn_as_events earlier) begun → s ≡ before_plans begun (code_turn_as_events this) → IsPlanPhase (as_events script) place s
  phase_there begun s leads taken_in =
      let all : (as_events script).turns ≡ map code_turn_as_events turns = ap (map turn_as_events) are ∙ turns_as_events turns in
      let opened = opened_standing core script.config config log in
      let part : map code_turn_as_events earlier ≡ take place (as_events script).turns = ap (map code_turn_as_events) before ∙ sym (take-map code_turn_as_events place turns) ∙ ap (take place) (sym all) in
      record {
        begun = begun;
        earlier = subst (λ (p : Standing × List Turn). Leads p.0 p.1 begun) (λ i. (opened i, part i)) leads;
        this = code_turn_as_events this;
        is = ap (λ ts. slice_get ts place) all ∙ found_seen code_turn_as_events turns place this lt (there turns place this lt at);
        taken_in = taken_in;
      }
