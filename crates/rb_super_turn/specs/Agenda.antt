-- In which order a supervisor goes through a turn.
use Rattle.std.specs.Prelude.{◌≡◌, ℕ, ◌+◌, false, List, [], ◌∷◌, ◌++◌, length, map, Some, is_some, slice_get, if◌then◌else◌}
use Rattle.std.specs.List.{flat_map, range_with_len}
use Rattle.std.specs.Option.{option_map, option_to_list}
use Rattle.rb_base.specs.Window.{Span}
use Rattle.rb_base.specs.declared.gate.Part.{Part}
use Rattle.rb_base.specs.declared.gate.Part.TheVariants.{Packets, Channel}
use Rattle.rb_script_types.specs.Config.{Config}
use Rattle.rb_core_model.specs.Event.{Event}
use Rattle.rb_core_model.specs.Standing.{ClientState, Standing, goes_back, judged, standing_after, with_client}
use Rattle.rb_super_turn.specs.Report.{ClientReport, TurnReport}
use Rattle.rb_script_types.specs.declared.script.Asked.{Asked as Question}
use Rattle.rb_script_types.specs.declared.script.HostWindow.{HostWindow as WindowOf}
use Rattle.rb_script_types.specs.declared.script.Settlement.{Settlement}
use Rattle.rb_super_turn.specs.Script.{Turn}
use Rattle.rb_super_turn.specs.Turns.{after_window, window_event, after_host_window, after_question, refusal_at, IsClientReport, after_outcome, settlement_report, after_settlement, taking, after_taking, IsTurnReport, after_turn}

-- what is next: to enter the window of a host, to enter the window, to ask a client, to take in an event by its number, to scan a part of a path, to plan
-- for a client, to settle, to take a client's open batch whole
pub data Item : Type 0 where
  enter_host : WindowOf → Item
  enter : Span → Item
  ask : Question → Item
  observe : ℕ → Event → Item
  scan : ℕ → Part → Item
  plan : ℕ → Item
  settle : Settlement → Item
  take_open : ℕ → Item

abbrev pub observations : ℕ → List Event → List Item
observations number [] = []
observations number (event ∷ events) = observe number event ∷ observations (number + 1) events

-- both parts of each path
abbrev pub both_parts : ℕ → List Item
both_parts path = scan path Packets ∷ scan path Channel ∷ []

-- where all is taken
abbrev pub takes : Config → Turn → List Item
takes c turn = if turn.taken then map take_open (range_with_len 0 (length c.clients)) else []

abbrev pub agenda : Config → Turn → List Item
agenda c turn =
    map enter_host turn.windows ++ (enter turn.window ∷ (map ask turn.goals ++ (observations 0 turn.events ++ (flat_map both_parts (range_with_len 0 (length c.paths))
    ++ (map plan (range_with_len 0 (length c.clients)) ++ (map settle turn.settlements ++ takes c turn))))))

abbrev pub empty_report : TurnReport
empty_report = record { window_back = false; hosts_back = []; refused = []; clients = []; settlements = [] }

-- what is left of a turn, whichever right plans are made, ends in the turn's report and in how things then stand
abbrev pub Finishes : Standing → Turn → Standing → TurnReport → List Item → Type 0
Finishes start turn s r [] = IsTurnReport start turn r × (s ≡ after_turn start turn r)
Finishes start turn s r (enter_host w ∷ items) =
    Finishes start turn (after_host_window s w) (record r { hosts_back = r.hosts_back ++ (if is_some (judged s (window_event w)) then w.host ∷ [] else []) }) items
Finishes start turn s r (enter window ∷ items) = Finishes start turn (after_window s window) (record r { window_back = goes_back s.window window }) items
Finishes start turn s r (ask q ∷ items) = Finishes start turn (after_question s q) r items
Finishes start turn s r (observe number event ∷ items) =
    Finishes start turn (standing_after s event) (record r { refused = r.refused ++ refusal_at number s event }) items
Finishes start turn s r (scan path part ∷ items) = Finishes start turn s r items
Finishes start turn s r (plan client ∷ items) =
    (c : ClientState) (report : ClientReport) → slice_get s.clients client ≡ Some c → IsClientReport s (client, c) report
    → Finishes start turn (with_client s client (after_outcome report.outcome)) (record r { clients = r.clients ++ report ∷ [] }) items
Finishes start turn s r (settle x ∷ items) =
    Finishes start turn (after_settlement s x) (record r { settlements = r.settlements ++ settlement_report s x ∷ [] }) items
Finishes start turn s r (take_open client ∷ items) =
    Finishes start turn (after_taking s client)
    (record r { settlements = r.settlements ++ option_to_list (option_map (settlement_report s) (taking s client)) }) items

-- the supervisor's order gives the report of a turn
abbrev pub OrderGivesReport : Type 0
OrderGivesReport =
    (c : Config) (turn : Turn) (s : Standing) → length s.clients ≡ length c.clients → Finishes s turn s empty_report (agenda c turn)
