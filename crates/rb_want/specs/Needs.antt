-- What a client of a setup needs in its last turn: first its state, its consensus states and what the node of its chain says of itself, then what a
-- search for accepted steps asks for.
use Rattle.std.specs.Prelude.{◌≡◌, ◌==◌, ℕ, ◌*◌, ◌-◌, ◌<◌, ◌≤◌, ◌^◌, nat_le, nat_lt, Bool, true, false, not, ◌&&◌, ◌||◌, if◌then◌else◌, List, [], ◌∷◌, ◌++◌, All, Any, Option, Some, None, is_some, length, map, slice_get, option_map}
use Rattle.std.specs.List.{filter_map, list_any}
use Rattle.std.specs.List.Sorted.{IsPermutation}
use Rattle.std.specs.Option.{option_or}
use Rattle.std.specs.Str.{bytes_eq}
use Rattle.rb_base.specs.Options.{ClientOptions}
use Rattle.rb_base.specs.Window.{Span}
use Rattle.rb_base.specs.declared.votes.CarriedVotes.TheVariants as carried
use Rattle.rb_base.specs.declared.ties.Ties.TheVariants as ties
use Rattle.rb_import_answers.specs.Revisions.{IsRevision}
use Rattle.rb_import_answers.specs.declared.client.TendermintClientState.{TendermintClientState}
use Rattle.rb_import_answers.specs.declared.client.ConsensusState.{ConsensusState}
use Rattle.rb_import_answers.specs.declared.client.TrustLevel.{TrustLevel}
use Rattle.rb_import_setup.specs.declared.setup.ClientSetup.{ClientSetup}
use Rattle.rb_import_setup.specs.declared.setup.ImportSetup.{ImportSetup}
use Rattle.rb_import_setup.specs.declared.setup.TrustSetup.{TrustSetup}
use Rattle.rb_import_setup.specs.declared.setup.TurnSetup.{TurnSetup}
use Rattle.rb_import_setup.specs.Windows.{window_of}
use Rattle.rb_script_types.specs.declared.goal.Goal.{Goal}
use Rattle.rb_script_types.specs.declared.goal.Goal.TheVariants as goals
use Rattle.rb_script_types.specs.declared.script.Asked.{Asked}
use Rattle.rb_step.specs.declared.verdict.Verdict.{Verdict}
use Rattle.rb_want_requests.specs.Answered.{has_all, next_part}
use Rattle.rb_want_requests.specs.Requests.{is_named}
use Rattle.rb_want_requests.specs.declared.answered.PartKind.TheVariants as kinds
use Rattle.rb_want_requests.specs.declared.content.Folder.{Folder}
use Rattle.rb_want_requests.specs.declared.content.Folders.{Folders}
use Rattle.rb_import_answers.specs.declared.status.NodeStatus.{NodeStatus}
use Rattle.rb_want_requests.specs.declared.reason.End.{End}
use Rattle.rb_want_requests.specs.declared.reason.End.TheVariants as endings
use Rattle.rb_want_requests.specs.declared.reason.Missing.{Missing}
use Rattle.rb_want_requests.specs.declared.reason.Missing.TheVariants.{State, Records, LatestHeight}
use Rattle.rb_want_requests.specs.declared.reason.SearchReason.{SearchReason}
use Rattle.rb_want_requests.specs.declared.request.Owner.TheVariants as owners
use Rattle.rb_want_requests.specs.declared.request.Query.{Query}
use Rattle.rb_want_requests.specs.declared.request.Query.TheVariants as queries
use Rattle.rb_want_requests.specs.declared.request.Request.{Request}
use Rattle.rb_want_requests.specs.Search.{IsFinding}
use Rattle.rb_want_requests.specs.declared.searching.Aim.{Aim}
use Rattle.rb_want_requests.specs.declared.searching.SearchOutcome.{SearchOutcome}
use Rattle.rb_want_requests.specs.declared.searching.SearchOutcome.TheVariants as findings
use Rattle.rb_want_requests.specs.declared.searching.Question.{Question}
use Rattle.rb_want.specs.Adding.{Outcome, ended, no_outcome}
use Rattle.rb_want.specs.Clients.{is_other_client, state_in, status_in, stored_in}
use Rattle.rb_want.specs.Judgements.{AreByRule, IsSaidIf, IsSaidOf}
use Rattle.rb_want.specs.Waiting.{WaitsFor}
use Rattle.rb_want.specs.declared.client.ClientCase.{ClientCase}
use Rattle.rb_want.specs.declared.judged.Steps.{Steps}

-- a client in its last turn, with what its folder holds, and the folder of the chain that it tracks
pub record Tracking : Type 0 where
  pub place : ℕ
  pub setup : ClientSetup
  pub host : List ℕ
  pub tracks : List ℕ
  pub goal : Option Goal
  pub window : Span
  pub own : Folder
  pub chain : Folder

-- ---- requests

-- a request to a gateway of the client's host
abbrev pub host_request : Tracking → Query → Request
host_request t query = record { chain = t.host; owner = owners.Client t.place t.setup.id; query = query }

-- a request to a node of the chain that it tracks
abbrev pub node_request : Tracking → Query → Request
node_request t query = record { chain = t.tracks; owner = owners.Chain t.setup.tracks; query = query }

-- ---- what is needed first

-- the setup says how the client judges headers
abbrev pub is_told : ClientSetup → Bool
is_told c = is_some c.period && is_some c.drift && is_some c.trust

-- the client's state isn't there, and the setup leaves out how it judges headers
abbrev pub lacks_state : Tracking → Bool
lacks_state t = not (is_told t.setup) && not (is_some (state_in t.own.contents.items))

-- not all pages of its consensus states are there
abbrev pub lacks_states : Tracking → Bool
lacks_states t = not (has_all kinds.ConsensusStates t.own.contents.items)

-- it isn't there what the node says of itself
abbrev pub lacks_status : Tracking → Bool
lacks_status t = not (is_some (status_in t.chain.contents.items))

abbrev pub lacks_first : Tracking → Bool
lacks_first t = lacks_state t || lacks_states t || lacks_status t

-- the number of the next page of its consensus states, which is the least that isn't there
abbrev pub next_states : Tracking → ℕ
next_states t = next_part kinds.ConsensusStates t.own.contents.items

unfoldable pub first_needs : Tracking → List Request
first_needs t =
    (if lacks_state t then host_request t queries.ClientState ∷ [] else [])
    ++ ((if lacks_states t then host_request t (queries.ConsensusStates (next_states t)) ∷ [] else [])
    ++ (if lacks_status t then node_request t queries.Status ∷ [] else []))

-- that no more is asked, since this isn't given
abbrev pub not_given : Tracking → Missing → End
not_given t missing = endings.NotGiven t.setup.id missing

-- where the query was refused, that it isn't given
abbrev pub if_refused : Folder → Query → End → List End
if_refused folder query end = if is_named folder.refused.items query then end ∷ [] else []

-- what of that isn't given
unfoldable pub first_ends : Tracking → List End
first_ends t =
    (if lacks_state t then if_refused t.own queries.ClientState (not_given t State) else [])
    ++ ((if lacks_states t then if_refused t.own (queries.ConsensusStates (next_states t)) (not_given t Records) else [])
    ++ (if lacks_status t then if_refused t.chain queries.Status (not_given t LatestHeight) else []))

-- ---- how the client judges headers

-- these options, where the trust level and the drift are in range (CometBFT light client: trust level)
abbrev pub options_with : Option ℕ → Option ℕ → Option TrustLevel → Option ClientOptions
options_with (Some period) (Some drift) (Some level) =
    if nat_lt 0 level.denominator && nat_le level.denominator (3 * level.numerator) && nat_le level.numerator level.denominator && nat_lt drift (2 ^ 63)
    then Some (record { period = period; drift = drift; trust = record { numerator = level.numerator; denominator = level.denominator }; votes = carried.Commit; ties = ties.Lower })
    else None
options_with _ _ _ = None

-- the trust level of these options
abbrev pub level_in : ClientOptions → TrustLevel
level_in o = record { numerator = o.trust.numerator; denominator = o.trust.denominator }

abbrev pub level_of : TrustSetup → TrustLevel
level_of level = record { numerator = level.numerator; denominator = level.denominator }

-- as the setup says, and where it says nothing as the client's state does
unfoldable pub options_of : ClientSetup → Option TendermintClientState → Option ClientOptions
options_of c state =
    options_with (option_or c.period (option_map (λ s. s.period) state)) (option_or c.drift (option_map (λ s. s.drift) state))
    (option_or (option_map level_of c.trust) (option_map (λ s. s.trust) state))

-- ---- where the client is to get

abbrev pub least_of : Option Goal → ℕ → ℕ
least_of (Some (goals.Exactly height)) latest = height
least_of (Some (goals.AtLeast height)) latest = height
least_of None latest = latest

abbrev pub most_of : Option Goal → ℕ → ℕ
most_of (Some (goals.Exactly height)) latest = height
most_of (Some (goals.AtLeast height)) latest = latest
most_of None latest = latest

-- to the goal, or the greatest height whose votes are final; nowhere where that is below the goal, and the goal isn't stored
abbrev pub aim_below : Option Goal → List ConsensusState → ℕ → Option Aim
aim_below goal stored latest =
    if nat_lt latest (least_of goal latest) && not (list_any (λ s. s.height == least_of goal latest) stored) then None
    else Some (record { least = least_of goal latest; most = most_of goal latest })

-- why it is nowhere: the votes of no height from the goal on are final
abbrev pub ends_below : Tracking → List ConsensusState → ℕ → List End
ends_below t stored latest =
    if nat_lt latest (least_of t.goal latest) && not (list_any (λ s. s.height == least_of t.goal latest) stored)
    then endings.GoalAhead t.setup.id (least_of t.goal latest) latest ∷ []
    else []

-- the node says that it is one of another chain
abbrev pub is_elsewhere : Option (List ℕ) → List ℕ → Bool
is_elsewhere (Some network) chain = not (bytes_eq network chain)
is_elsewhere None chain = false

-- a node's latest block has the votes that the node got itself: those of the one before are final (CometBFT: LastCommit)
abbrev pub aim_by : Tracking → List ConsensusState → Option NodeStatus → Option Aim
aim_by t stored (Some status) =
    if is_elsewhere status.network t.tracks then None
    else if nat_le status.latest 1 then None
    else aim_below t.goal stored (status.latest - 1)
aim_by t stored None = None

unfoldable pub aim_of : Tracking → List ConsensusState → Option Aim
aim_of t stored = aim_by t stored (status_in t.chain.contents.items)

abbrev pub aim_ends_by : Tracking → List ConsensusState → Option NodeStatus → List End
aim_ends_by t stored (Some status) =
    if is_elsewhere status.network t.tracks then endings.OtherNetwork t.setup.id t.tracks ∷ []
    else if nat_le status.latest 1 then []
    else ends_below t stored (status.latest - 1)
aim_ends_by t stored None = []

-- why the client is to get nowhere: its goal is ahead, or the node is one of another chain
unfoldable pub aim_ends : Tracking → List ConsensusState → List End
aim_ends t stored = aim_ends_by t stored (status_in t.chain.contents.items)

-- the greatest height of a record from which the client can be updated to a goal
abbrev pub highest_of : Option Goal → ℕ → ℕ
highest_of (Some (goals.Exactly height)) most = height
highest_of _ most = most

-- the height, where it is no greater than this, else the one before
abbrev pub start_with : ℕ → Option ℕ → ℕ → Option ℕ
start_with most before height = if nat_le height most then Some height else before

-- the greatest height of a record that is no higher than this
abbrev pub IsStart : List ConsensusState → ℕ → Option ℕ → Type 0
IsStart stored most (Some first) = Any (λ s. s.height ≡ first) stored × (first ≤ most) × All (λ s. s.height ≤ most → s.height ≤ first) stored
IsStart stored most None = All (λ s. most < s.height) stored

-- ---- what a client needs

-- the steps of the client, judged so, over what is there of it and of the chain that it tracks
abbrev pub AreStepsOf : Tracking → ClientOptions → List ConsensusState → Steps → Type 0
AreStepsOf t options stored s =
    (s.options ≡ options) × (s.window ≡ t.window) × (s.chain.now.folder.now ≡ t.chain) × (map (λ r. r.now) s.records.now ≡ stored)

-- why the step of a question is asked for: between which heights, with what the step rule says of the one that was refused
abbrev pub why_of : Tracking → ClientOptions → Question → Option Verdict → SearchReason
why_of t options q said =
    record { client = t.setup.id; trusted = q.trusted; accepted = q.accepted; refused = q.refused; verdict = said; trust = level_in options }

-- why no step goes on from a trusted height: what the step rule says of the one to another
abbrev pub why_stuck : Tracking → ClientOptions → ℕ → ℕ → Option Verdict → SearchReason
why_stuck t options trusted height said =
    record { client = t.setup.id; trusted = trusted; accepted = None; refused = Some height; verdict = said; trust = level_in options }

-- what the step of a question waits for, and why
abbrev pub IsAskedBy : Tracking → ClientOptions → Steps → Question → Outcome → Type 0
IsAskedBy t options s q o =
    (asked : List Query) × (said : Option Verdict) × WaitsFor s q.trusted q.height asked × IsSaidIf s q.trusted q.refused said
    × (o ≡ record { needed = map (node_request t) asked; reasons = why_of t options q said ∷ []; ends = [] })

-- the step that a search asks for; nothing where the search has reached its aim; and else why no step goes on
abbrev pub IsOutcomeOf : Tracking → ClientOptions → Steps → SearchOutcome → Outcome → Type 0
IsOutcomeOf t options s (findings.Asks q) o = IsAskedBy t options s q o
IsOutcomeOf t options s (findings.Reached height) o = o ≡ no_outcome
IsOutcomeOf t options s (findings.Stuck trusted height) o =
    (said : Option Verdict) × IsSaidOf s trusted height said × (o ≡ ended (endings.Stuck (why_stuck t options trusted height said)))

-- what the search comes to from a stored height, with these options and this aim; without one, that no record is stored
abbrev pub IsSoughtFrom : Tracking → ClientOptions → Aim → List ConsensusState → Option ℕ → Outcome → Type 0
IsSoughtFrom t options aim stored None o = o ≡ ended (endings.NoRecord t.setup.id)
IsSoughtFrom t options aim stored (Some first) o =
    (s : Steps) × (finding : SearchOutcome) × AreStepsOf t options stored s × IsFinding (AreByRule s) first aim finding × IsOutcomeOf t options s finding o

-- with options that are out of range, that these are; without an aim, why there is none
abbrev pub IsSoughtWith : Tracking → List ConsensusState → Option ClientOptions → Option Aim → Outcome → Type 0
IsSoughtWith t stored None aim o = o ≡ ended (endings.BadOptions t.setup.id)
IsSoughtWith t stored (Some options) None o = o ≡ record { needed = []; reasons = []; ends = aim_ends t stored }
IsSoughtWith t stored (Some options) (Some aim) o =
    (first : Option ℕ) × IsStart stored (highest_of t.goal (2 ^ 63 - 1)) first × IsSoughtFrom t options aim stored first o

abbrev pub IsSought : Tracking → List ConsensusState → Outcome → Type 0
IsSought t stored o = IsSoughtWith t stored (options_of t.setup (state_in t.own.contents.items)) (aim_of t stored) o

-- that a client is frozen or isn't Tendermint's; else what is needed first; and once that is there, what the search comes to
abbrev pub IsOutcomeIf : Bool → Bool → Tracking → List ConsensusState → Outcome → Type 0
IsOutcomeIf true lacks t stored o = o ≡ ended (endings.OtherClient t.setup.id)
IsOutcomeIf false true t stored o = o ≡ record { needed = first_needs t; reasons = []; ends = first_ends t }
IsOutcomeIf false false t stored o = IsSought t stored o

abbrev pub IsOutcome : Tracking → List ConsensusState → Outcome → Type 0
IsOutcome t stored o = IsOutcomeIf (list_any is_other_client t.own.contents.items) (lacks_first t) t stored o

-- ---- the clients of a setup

-- what is asked of the client at a place
abbrev pub goal_if : ℕ → Asked → Option Goal
goal_if place a = if a.client == place then Some a.goal else None

-- the goal of the client at a place, of several the first
unfoldable pub goal_at : ℕ → List Asked → Option Goal
goal_at place goals = slice_get (filter_map (goal_if place) goals) 0

abbrev pub tracking_of : ClientCase → Tracking
tracking_of c =
    record { place = c.place; setup = c.setup.now; host = c.host; tracks = c.tracks; goal = c.goal; window = c.window; own = c.answers.folder.now; chain = c.chain.now.folder.now }

-- these are, in some order, the consensus states that the client's folder tells of, of the revision of the chain that it tracks (ICS 2)
abbrev pub AreStoredBy : Tracking → List ConsensusState → Type 0
AreStoredBy t stored = (revision : ℕ) × IsRevision t.tracks revision × IsPermutation (stored_in revision t.own.contents.items) stored

abbrev pub tracking_with : ImportSetup → ℕ → ClientSetup → Option TurnSetup → Option (List ℕ) → Option (List ℕ) → Option Folder → Option Folder → Option Tracking
tracking_with setup place c (Some turn) (Some host) (Some tracks) (Some own) (Some chain) =
    Some (record {
      place = place;
      setup = c;
      host = host;
      tracks = tracks;
      goal = goal_at place turn.goals.items;
      window = window_of setup place turn.window;
      own = own;
      chain = chain;
    })
tracking_with setup place c _ _ _ _ _ = None

-- the client at a place, in the last turn of the setup and in its window there, with its folder and that of the chain that it tracks, where they are there
unfoldable pub tracking_at : ImportSetup → List Folder → List Folder → ℕ × ClientSetup → Option Tracking
tracking_at setup own chains c =
    tracking_with setup c.0 c.1 (slice_get setup.turns.items (length setup.turns.items - 1)) (slice_get setup.chains.items c.1.host)
    (slice_get setup.chains.items c.1.tracks) (slice_get own c.0) (slice_get chains c.1.tracks)

-- the case is that of the client at a place, over these folders; there is none where one of these isn't there
abbrev pub IsCaseOf : ImportSetup → List Folder → List Folder → ℕ × ClientSetup → Option ClientCase → Type 0
IsCaseOf setup own chains c None = tracking_at setup own chains c ≡ None
IsCaseOf setup own chains c (Some case) =
    (tracking_at setup own chains c ≡ Some (tracking_of case)) × AreStoredBy (tracking_of case) (map (λ r. r.now) case.answers.records.items)

abbrev pub IsOutcomeIn : Option Tracking → Outcome → Type 0
IsOutcomeIn None o = o ≡ no_outcome
IsOutcomeIn (Some t) o = (stored : List ConsensusState) × AreStoredBy t stored × IsOutcome t stored o

-- what the client at a place needs, and why, or why no more is asked
abbrev pub IsOutcomeAt : ImportSetup → Folders → ℕ × ClientSetup → Outcome → Type 0
IsOutcomeAt setup folders c o = IsOutcomeIn (tracking_at setup folders.clients.items folders.chains.items c) o
