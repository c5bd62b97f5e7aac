-- What a script keeps as it was read, it keeps as turns tell it.
use Rattle.std.proofs.Common.{◌≡◌, ℕ, ◌+◌, ◌<◌, ◌≤◌, List, length, get_or, take, All, ap, subst, ◌∙◌, arith}
use Rattle.std.proofs.lemmas.List.Elements.{All-map, All-more}
use Rattle.std.proofs.Math.Seq.{take-length}
use Rattle.rb_script_types.specs.declared.observation.Observation.{Observation}
use Rattle.rb_script_types.specs.declared.observation.Observation.TheVariants.{SetSeen, HeaderSeen, StoredSeen, Sent, Received, AckWritten, Cleared, Closed}
use Rattle.rb_script_types.specs.declared.script.Script.{Script as CodeScript}
use Rattle.rb_script_types.specs.declared.script.Turn.{Turn as CodeTurn}
use Rattle.rb_script_types.specs.Config.{Config}
use Rattle.rb_script_types.specs.Script.{IsReadScript, IsReadObservation, IsReadTurn, script_view, turn_view}
use Rattle.rb_script_types.proofs.Turns.{its_turns}
use Rattle.rb_core_model.specs.Config.{IsSetUp}
use Rattle.rb_core_model.specs.Event.{IsEvent}
use Rattle.rb_core_model.specs.Seen.{observed}
use Rattle.rb_super_turn.specs.Script.{IsScript, IsSeen, IsTurn}
use Rattle.rb_super_turn.specs.AsEvents.{as_events, code_turn_as_events, turn_as_events}

-- one element more, and all
pub one_more : {X : Type 0} (P : X → Type 0) (xs : List X) (i : ℕ) (x : X) → i < length xs → x ≡ get_or xs i x → P x → All P (take i xs) → All P (take (i + 1) xs)
one_more P xs i x lt is p h = All-more P xs i x lt h (subst P is p)

pub all_taken : {X : Type 0} (P : X → Type 0) (xs : List X) (i : ℕ) → i ≤ length xs → length xs ≤ i → All P (take i xs) → All P xs
all_taken P xs i le ge h =
    let all : i ≡ length xs = omega (arith, le, ge) in
    subst (All P) (ap (λ (n : ℕ). take n xs) all ∙ take-length xs) h

module _ {A : Type 0} where
  seen : (c : Config) (o : Observation A) → IsReadObservation (length c.chains) (length c.clients) (length c.paths) o → IsSeen c (observed o)
  seen c (SetSeen chain set) is = is
  seen c (HeaderSeen chain header) is = is
  seen c (StoredSeen client height stored) is = is
  seen c (Sent path sequence block timeout_height timeout_time) is = is
  seen c (Received path sequence block) is = is
  seen c (AckWritten path sequence block) is = is
  seen c (Cleared path sequence) is = is
  seen c (Closed path) is = is

  turn : (c : Config) (t : CodeTurn A) → IsReadTurn (length c.chains) (length c.clients) (length c.paths) (turn_view t) → All (λ (o : Observation A). IsEvent (observed o)) t.events.items
      → IsTurn c (code_turn_as_events t)
  turn c t is right = record {
    window = is.window;
    windows = is.windows;
    goals = is.goals;
    once = is.once;
    events = All-map (IsSeen c) observed t.events.items (λ k d lt. seen c (get_or t.events.items k d) (is.events k d lt));
    right = All-map IsEvent observed t.events.items right;
    settlements = is.settlements;
  }

  pub script : (s : CodeScript A) (turns : List (CodeTurn A)) → turns ≡ s.turns.items → IsReadScript (script_view s) → IsSetUp (script_view s).config
      → All (λ (t : CodeTurn A). All (λ (o : Observation A). IsEvent (observed o)) t.events.items) turns → IsScript (as_events (script_view s))
  script s turns same is set_up right =
      let c = (script_view s).config in
      let all = its_turns s turns same is in
      let here : All (λ t. IsTurn c (code_turn_as_events t)) turns = λ k d lt. turn c (get_or turns k d) (all k d lt) (right k d lt) in
      record {
        config = set_up;
        turns = All-map (IsTurn c) turn_as_events (script_view s).turns (All-map (λ t. IsTurn c (turn_as_events t)) turn_view s.turns.items (subst (All (λ t. IsTurn c (code_turn_as_events t))) same here));
      }
