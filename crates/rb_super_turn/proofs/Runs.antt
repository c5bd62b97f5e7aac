-- Turn after turn gives the report of a script.
use Rattle.std.proofs.Common.{◌≡◌, ◌+◌, ◌*◌, ◌<◌, ◌≤◌, List, [], ◌∷◌, ◌++◌, length, map, get_or, All, refl, sym, ap, ◌∙◌, subst, arith}
use Rattle.std.specs.List.{sum_by}
use Rattle.std.proofs.lemmas.List.{length-map, get_or-map}
use Rattle.std.proofs.lemmas.List.Sums.{sum_by-cons}
use Rattle.rb_core.specs.Core.{Core, state_in}
use Rattle.rb_core_model.specs.Machine.{state_of}
use Rattle.rb_core_model.specs.Snapshot.{Log, from_nothing}
use Rattle.rb_core_model.specs.Standing.{Standing, opening_standing}
use Rattle.rb_script_types.specs.Config.{Config}
use Rattle.rb_script_types.specs.Script.{Script, turn_view, entry_count, IsReadTurn, IsReadScript}
use Rattle.rb_script_types.specs.declared.script.Turn.{Turn as CodeTurn}
use Rattle.rb_super_turn.specs.Judging.{Leads}
use Rattle.rb_super_turn.specs.Report.{TurnReport, Report}
use Rattle.rb_super_turn.specs.Script.{Turn}
use Rattle.rb_super_turn.specs.Turns.{IsTurnReport, AreTurnReports, after_turn}
use Rattle.rb_super_turn.specs.Phases.{standing_in, HasLogRoom}
use Rattle.rb_super_turn.specs.AsEvents.{turn_as_events, code_turn_as_events, IsTurnFor, most_events}

-- the turns, reported so, lead from the one standing to the other
abbrev pub Reach : Standing → List Turn → Report → Standing → Type 0
Reach s [] [] u = u ≡ s
Reach s [] (r ∷ rs) u = ⊥
Reach s (t ∷ ts) [] u = ⊥
Reach s (t ∷ ts) (r ∷ rs) u = IsTurnReport s t r × Reach (after_turn s t r) ts rs u

pub reach_more : (ts : List Turn) (rs : Report) (s u v : Standing) (t : Turn) (r : TurnReport) → Reach s ts rs u → IsTurnReport u t r → v ≡ after_turn u t r → Reach s (ts ++ t ∷ []) (rs ++ r ∷ []) v
reach_more [] [] s u v t r so_far is e =
    (subst (λ x. IsTurnReport x t r) so_far is, e ∙ ap (λ x. after_turn x t r) so_far)
reach_more [] (q ∷ rs) s u v t r so_far is e = absurd so_far
reach_more (w ∷ ts) [] s u v t r so_far is e = absurd so_far
reach_more (w ∷ ts) (q ∷ rs) s u v t r so_far is e = (so_far.0, reach_more ts rs (after_turn s w q) u v t r so_far.1 is e)

pub reach_reports : (ts : List Turn) (rs : Report) (s u : Standing) → Reach s ts rs u → AreTurnReports s ts rs
reach_reports [] [] s u so_far = tt
reach_reports [] (q ∷ rs) s u so_far = absurd so_far
reach_reports (w ∷ ts) [] s u so_far = absurd so_far
reach_reports (w ∷ ts) (q ∷ rs) s u so_far = (so_far.0, reach_reports ts rs (after_turn s w q) u so_far.1)

pub reach_leads : (ts : List Turn) (rs : Report) (s u : Standing) → Reach s ts rs u → Leads s ts u
reach_leads [] [] s u so_far = sym so_far
reach_leads [] (q ∷ rs) s u so_far = absurd so_far
reach_leads (w ∷ ts) [] s u so_far = absurd so_far
reach_leads (w ∷ ts) (q ∷ rs) s u so_far = (q, so_far.0, reach_leads ts rs (after_turn s w q) u so_far.1)

-- ---- room

-- all that a script's turns give has room
turns_give : {A : Type 0} (c : Config) → length c.clients ≤ 256 → length c.paths ≤ 256 → (ts : List (CodeTurn A)) → sum_by (most_events c) ts ≤ sum_by entry_count (map turn_view ts) + 1025 * length ts
turns_give c clients paths [] = omega arith
turns_give c clients paths (t ∷ ts) =
    let rest = turns_give c clients paths ts in
    omega (arith, rest, sum_by-cons (most_events c) t ts, sum_by-cons entry_count (turn_view t) (map turn_view ts), clients, paths)

pub opened_front : (core : Core) → core.log ≡ from_nothing [] → (state_in core).front ≡ 0
opened_front core log = ap (λ (l : Log). (state_of core.config l).front) log

pub opened_standing : (core : Core) (c : Config) → core.config ≡ c → core.log ≡ from_nothing [] → standing_in core ≡ opening_standing c
opened_standing core c config log = ap (λ (l : Log). (state_of core.config l).standing) log ∙ ap opening_standing config

pub turns_fit : {A : Type 0} (core : Core) (script : Script A) (ts : List (CodeTurn A)) → core.config ≡ script.config → core.log ≡ from_nothing [] → script.turns ≡ map turn_view ts → IsReadScript script
    → HasLogRoom core (sum_by (most_events core.config) ts)
turns_fit core script ts config log turns is =
    let clients : length core.config.clients ≤ 256 = subst (λ (c : Config). length c.clients ≤ 256) (sym config) is.config.few_clients in
    let paths : length core.config.paths ≤ 256 = subst (λ (c : Config). length c.paths ≤ 256) (sym config) is.config.few_paths in
    let all = turns_give core.config clients paths ts in
    let entries : sum_by entry_count (map turn_view ts) ≤ 200000 = subst (λ xs. sum_by entry_count xs ≤ 200000) turns is.few_entries in
    let few : length (map turn_view ts) ≤ 500 = subst (λ xs. length xs ≤ 500) turns is.few_turns in
    omega (arith, all, entries, few, length-map ts turn_view, opened_front core log)

-- each turn names what the configuration has
pub turns_for : {A : Type 0} (script : Script A) (core : Core) (ts : List (CodeTurn A)) → core.config ≡ script.config → script.turns ≡ map turn_view ts → IsReadScript script → All (IsTurnFor core.config) ts
turns_for script core ts config turns is = λ k d lt.
    let P = IsReadTurn (length script.config.chains) (length script.config.clients) (length script.config.paths) in
    let long : k < length (map turn_view ts) = subst (λ n. k < n) (sym (length-map ts turn_view)) lt in
    let one = subst (λ xs. All P xs) turns is.turns k (turn_view d) long in
    subst (λ (c : Config). IsTurnFor c (get_or ts k d)) (sym config) (subst P (get_or-map turn_view ts k d (turn_view d) lt) one)

pub turns_as_events : {A : Type 0} (ts : List (CodeTurn A)) → map turn_as_events (map turn_view ts) ≡ map code_turn_as_events ts
turns_as_events [] = refl
turns_as_events (t ∷ ts) = ap (λ us. code_turn_as_events t ∷ us) (turns_as_events ts)
