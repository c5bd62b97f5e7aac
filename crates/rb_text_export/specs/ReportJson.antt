-- The report as JSON (own choice): the members of each object, in order.
use Rattle.std.specs.Prelude.{ℕ, ◌/◌, ◌%◌, true, List, [], ◌∷◌, ◌++◌, codes, map, Option, Some, None, slice_index_or}
use Rattle.std.specs.Fmt.{digit_glyph}
use Rattle.std.specs.List.{flat_map}
use Rattle.rb_batch.specs.declared.transaction.Transaction.{Transaction}
use Rattle.rb_script_text.specs.Json.{Json, number, boolean, string, array, object, ◌is◌, json_text}
use Rattle.rb_script_text.specs.Members.{Member, format_of, goal_json, kind_name, next_members, refusal_members}
use Rattle.rb_plan_types.specs.declared.cost.Cost.{Cost}
use Rattle.rb_plan_types.specs.declared.labelling.Label.{Label}
use Rattle.rb_plan_client.specs.Task.{Message}
use Rattle.rb_script_types.specs.declared.goal.Goal.{Goal}
use Rattle.rb_script_types.specs.declared.refusal.Refusal.{Refusal}
use Rattle.rb_script_types.specs.declared.version.Version.{Version}
use Rattle.rb_script_types.specs.declared.version.Version.TheVariants.{One, Two, Three, Four}
use Rattle.rb_step.specs.Sent.{SentVotes}
use Rattle.rb_super_turn.specs.Report.{RefusedEvent, PricedUpdate, SendingReport, nothing, too_big, batched, PlanReport, PlannedReport, Outcome, held, idle, planned, ClientReport, SettlementReport, TurnReport, Report}

-- ---- refusals and settlements

abbrev pub refused_json : RefusedEvent → Json
refused_json r = object (codes "event" is number r.event ∷ refusal_members r.refusal)

abbrev pub if_refused : Option Refusal → List Member
if_refused None = []
if_refused (Some refusal) = refusal_members refusal

abbrev pub settled_members : SettlementReport → List Member
settled_members x = codes "batch" is number x.batch ∷ codes "done" is number x.done ∷ if_refused x.refusal

abbrev pub settlement_json : SettlementReport → Json
settlement_json x = object (codes "client" is string x.id ∷ settled_members x)

-- ---- plans

abbrev pub label_json : Label → Json
label_json l = object (codes "height" is number l.height ∷ codes "fee" is number l.cost.fee ∷ codes "count" is number l.cost.count ∷ [])

-- a byte in two hexadecimal digits, with capital letters (RFC 4648, section 8)
abbrev pub byte_digits : ℕ → List ℕ
byte_digits byte = digit_glyph true (byte / 16) ∷ digit_glyph true (byte % 16) ∷ []

-- an address as nodes write it
abbrev pub address_json : List ℕ → Json
address_json address = string (flat_map byte_digits address)

-- the votes that an update carries, where it carries only those that it needs
abbrev pub votes_members : Option SentVotes → List Member
votes_members None = []
votes_members (Some s) = codes "commits" is number s.commits ∷ codes "votes" is array (map address_json s.senders) ∷ []

abbrev pub update_json : PricedUpdate → Json
update_json u =
    object (codes "height" is number u.update.height ∷ codes "trusted" is number u.update.trusted ∷ codes "fee" is number u.fee ∷ votes_members u.votes)

abbrev pub total_json : Cost → Json
total_json total = object (codes "fee" is number total.fee ∷ codes "updates" is number total.count ∷ [])

-- a packet message, its path by its identifier
abbrev pub message_json : List (List ℕ) → Message → Json
message_json paths m =
    object (codes "kind" is string (kind_name m.packet.kind) ∷ codes "path" is string (slice_index_or paths m.path [])
    ∷ codes "sequence" is number m.packet.sequence ∷ [])

abbrev pub transaction_json : Transaction → Json
transaction_json t = object (codes "first" is number t.first ∷ codes "count" is number t.count ∷ codes "gas" is number t.gas ∷ [])

abbrev pub sending_members : SendingReport → List Member
sending_members nothing = []
sending_members (too_big index) = codes "too_big" is number index ∷ []
sending_members (batched b) =
    codes "batch" is number b.number ∷ codes "proof" is number b.proof ∷ codes "transactions" is array (map transaction_json b.transactions) ∷ []

abbrev pub plan_members : List (List ℕ) → PlanReport → List Member
plan_members paths p =
    codes "updates" is array (map update_json p.updates) ∷ codes "total" is total_json p.total
    ∷ codes "messages" is array (map (message_json paths) p.messages) ∷ sending_members p.sending

-- ---- clients

-- what there is from version 4 on
abbrev pub if_four : Version → List Member → List Member
if_four One ms = []
if_four Two ms = []
if_four Three ms = []
if_four Four ms = ms

-- what stands behind the labels: the plan, if there is one
abbrev pub reached_members : Version → List (List ℕ) → Option ℕ → Option PlanReport → List Member
reached_members version paths next None = []
reached_members version paths next (Some p) = next_members version next ++ plan_members paths p

-- what was asked for and is out of reach
abbrev pub beyond_members : Option Goal → List Member
beyond_members None = []
beyond_members (Some goal) = codes "beyond" is goal_json goal ∷ []

-- what stands behind the goal
unfoldable pub labelled_members : Version → List (List ℕ) → PlannedReport → List Member
labelled_members version paths p =
    beyond_members p.beyond ++ codes "labels" is array (map label_json p.labels) ∷ reached_members version paths p.next p.plan

abbrev pub planned_word : Option PlanReport → List ℕ
planned_word None = codes "unreachable"
planned_word (Some p) = codes "plan"

abbrev pub outcome_members : Version → List (List ℕ) → Outcome → List Member
outcome_members version paths (held batch) = codes "outcome" is string (codes "held") ∷ codes "batch" is number batch ∷ []
outcome_members version paths (idle next) = codes "outcome" is string (codes "idle") ∷ next_members version next
outcome_members version paths (planned p) =
    codes "outcome" is string (planned_word p.plan) ∷ codes "goal" is goal_json p.goal ∷ labelled_members version paths p

-- the messages that are left out since they are over the gas limit alone; of a client that is held nothing is planned
abbrev pub left_members : Version → List (List ℕ) → Outcome → List Message → List Member
left_members version paths (held batch) left = []
left_members version paths (idle next) left = if_four version (codes "left_out" is array (map (message_json paths) left) ∷ [])
left_members version paths (planned p) left = if_four version (codes "left_out" is array (map (message_json paths) left) ∷ [])

-- what came of a client, and what of its messages is left out
unfoldable pub client_members : Version → List (List ℕ) → ClientReport → List Member
client_members version paths c = outcome_members version paths c.outcome ++ left_members version paths c.outcome c.too_big

abbrev pub client_json : Version → List (List ℕ) → ClientReport → Json
client_json version paths c = object (codes "id" is string c.id ∷ client_members version paths c)

-- ---- turns

-- the hosts whose own windows go back, by their identifiers
abbrev pub host_json : List (List ℕ) → ℕ → Json
host_json chains host = string (slice_index_or chains host [])

abbrev pub windows_members : Version → List (List ℕ) → List ℕ → List Member
windows_members version chains hosts = if_four version (codes "windows_back" is array (map (host_json chains) hosts) ∷ [])

-- what came of events, clients and settlements
unfoldable pub came_members : Version → List (List ℕ) → TurnReport → List Member
came_members version paths t =
    codes "refused" is array (map refused_json t.refused) ∷ codes "clients" is array (map (client_json version paths) t.clients)
    ∷ codes "settlements" is array (map settlement_json t.settlements) ∷ []

unfoldable pub turn_members : Version → List (List ℕ) → List (List ℕ) → TurnReport → List Member
turn_members version chains paths t = windows_members version chains t.hosts_back ++ came_members version paths t

-- with the identifiers of the chains and of the paths by their places
abbrev pub turn_json : Version → List (List ℕ) → List (List ℕ) → TurnReport → Json
turn_json version chains paths t = object (codes "window_back" is boolean t.window_back ∷ turn_members version chains paths t)

-- the first members of a report's object
abbrev pub report_members : Version → List (List ℕ) → List (List ℕ) → Report → List Member
report_members version chains paths turns =
    codes "ibcplan" is number (format_of version) ∷ codes "turns" is array (map (turn_json version chains paths) turns) ∷ []

-- a turn as follow answers it, with its number from 1
abbrev pub numbered_turn_json : ℕ → Version → List (List ℕ) → List (List ℕ) → TurnReport → Json
numbered_turn_json n version chains paths t =
    object (codes "turn" is number n ∷ codes "window_back" is boolean t.window_back ∷ turn_members version chains paths t)

abbrev pub numbered_turn_line : ℕ → Version → List (List ℕ) → List (List ℕ) → TurnReport → List ℕ
numbered_turn_line n version chains paths t = json_text (numbered_turn_json n version chains paths t) ++ codes "\n"
