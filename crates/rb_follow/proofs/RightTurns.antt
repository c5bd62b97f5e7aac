-- What a turn keeps as it was read, it keeps as turns of a relayer tell it.
use Rattle.std.proofs.Common.{◌≡◌, List, length, get_or, All, subst}
use Rattle.std.specs.declared.alloc.Global.{Global}
use Rattle.std.proofs.lemmas.List.Elements.{All-map}
use Rattle.rb_script_types.specs.Config.{Config}
use Rattle.rb_script_types.specs.Script.{IsReadObservation}
use Rattle.rb_script_types.specs.declared.observation.Observation.{Observation}
use Rattle.rb_script_types.specs.declared.observation.Observation.TheVariants.{SetSeen, HeaderSeen, StoredSeen, Sent, Received, AckWritten, Cleared, Closed}
use Rattle.rb_script_types.specs.declared.script.Turn.{Turn as CodeTurn}
use Rattle.rb_core_model.specs.Event.{IsEvent}
use Rattle.rb_core_model.specs.Seen.{observed}
use Rattle.rb_super_turn.specs.Script.{IsSeen, IsTurn}
use Rattle.rb_super_turn.specs.AsEvents.{code_turn_as_events, IsTurnFor}

seen : (c : Config) (o : Observation Global) → IsReadObservation (length c.chains) (length c.clients) (length c.paths) o → IsSeen c (observed o)
seen c (SetSeen chain set) is = is
seen c (HeaderSeen chain header) is = is
seen c (StoredSeen client height stored) is = is
seen c (Sent path sequence block timeout_height timeout_time) is = is
seen c (Received path sequence block) is = is
seen c (AckWritten path sequence block) is = is
seen c (Cleared path sequence) is = is
seen c (Closed path) is = is

pub right_turn : (c : Config) (t : CodeTurn Global) (events : List (Observation Global)) → events ≡ t.events.items → IsTurnFor c t
    → All (λ (o : Observation Global). IsEvent (observed o)) events → IsTurn c (code_turn_as_events t)
right_turn c t events same is right = record {
  window = is.window;
  windows = is.windows;
  goals = is.goals;
  once = is.once;
  events = All-map (IsSeen c) observed t.events.items (λ k d lt. seen c (get_or t.events.items k d) (is.events k d lt));
  right = All-map IsEvent observed t.events.items (subst (All (λ (o : Observation Global). IsEvent (observed o))) same right);
  settlements = is.settlements;
}
