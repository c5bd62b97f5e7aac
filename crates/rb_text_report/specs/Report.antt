-- The text of a report (own choice): lines that end with one LF, numbers as plain decimals.
use Rattle.std.specs.Prelude.{ℕ, ◌+◌, Bool, if◌then◌else◌, List, [], ◌∷◌, ◌++◌, codes, length, Option, Some, None, slice_index_or}
use Rattle.std.specs.Fmt.{decimal}
use Rattle.std.specs.List.{flat_map}
use Rattle.rb_batch.specs.declared.transaction.Transaction.{Transaction}
use Rattle.rb_script_types.specs.Refusal.{number_of, name_of}
use Rattle.rb_plan_types.specs.declared.cost.Cost.{Cost}
use Rattle.rb_script_types.specs.declared.goal.Goal.{Goal}
use Rattle.rb_script_types.specs.declared.goal.Goal.TheVariants.{Exactly, AtLeast}
use Rattle.rb_plan_types.specs.declared.labelling.Label.{Label}
use Rattle.rb_script_types.specs.declared.refusal.Refusal.{Refusal}
use Rattle.rb_plan_client.specs.Task.{Message}
use Rattle.rb_step.specs.Sent.{SentVotes}
use Rattle.rb_script_types.specs.declared.version.Version.{Version}
use Rattle.rb_script_types.specs.declared.version.Version.TheVariants.{One, Two, Three, Four}
use Rattle.rb_script_text.specs.Moments.{moment_text}
use Rattle.rb_script_text.specs.Members.{kind_name}
use Rattle.rb_super_turn.specs.Report.{RefusedEvent, PricedUpdate, SendingReport, nothing, too_big, batched, PlanReport, Outcome, held, idle, planned, ClientReport, SettlementReport, TurnReport, Report}

-- ---- lines

abbrev pub window_line : List ℕ
window_line = codes "refused window 806 WindowBack\n"

-- the window of a host goes back, the host by its identifier
unfoldable pub host_line : List (List ℕ) → ℕ → List ℕ
host_line chains host = codes "refused window " ++ slice_index_or chains host [] ++ codes " 806 WindowBack\n"

abbrev pub refused_line : RefusedEvent → List ℕ
refused_line r =
    codes "refused event " ++ decimal r.event ++ codes " " ++ decimal (number_of r.refusal) ++ codes " " ++ name_of r.refusal ++ codes "\n"

abbrev pub held_line : List ℕ → ℕ → List ℕ
held_line id batch = codes "client " ++ id ++ codes " held " ++ decimal batch ++ codes "\n"

abbrev pub idle_line : List ℕ → List ℕ
idle_line id = codes "client " ++ id ++ codes " idle\n"

abbrev pub goal_line : List ℕ → Goal → List ℕ
goal_line id (AtLeast height) = codes "client " ++ id ++ codes " goal at_least " ++ decimal height ++ codes "\n"
goal_line id (Exactly height) = codes "client " ++ id ++ codes " goal exactly " ++ decimal height ++ codes "\n"

-- what was asked for and is out of reach
abbrev pub beyond_line : Goal → List ℕ
beyond_line (AtLeast height) = codes "beyond at_least " ++ decimal height ++ codes "\n"
beyond_line (Exactly height) = codes "beyond exactly " ++ decimal height ++ codes "\n"

abbrev pub beyond_text : Option Goal → List ℕ
beyond_text None = []
beyond_text (Some goal) = beyond_line goal

abbrev pub label_line : Label → List ℕ
label_line l = codes "label " ++ decimal l.height ++ codes " " ++ decimal l.cost.fee ++ codes " " ++ decimal l.cost.count ++ codes "\n"

abbrev pub unreachable_line : List ℕ
unreachable_line = codes "unreachable\n"

-- how many of the header's commit votes an update carries, where it carries only those that it needs
abbrev pub votes_text : Option SentVotes → List ℕ
votes_text None = []
votes_text (Some s) = codes " votes " ++ decimal (length s.senders) ++ codes " of " ++ decimal s.commits

abbrev pub update_line : PricedUpdate → List ℕ
update_line u =
    codes "update " ++ decimal u.update.height ++ codes " from " ++ decimal u.update.trusted ++ codes " fee " ++ decimal u.fee
    ++ votes_text u.votes ++ codes "\n"

abbrev pub total_line : Cost → List ℕ
total_line total = codes "total " ++ decimal total.fee ++ codes " updates " ++ decimal total.count ++ codes "\n"

-- a packet message, its path by its identifier
abbrev pub message_line : List (List ℕ) → Message → List ℕ
message_line paths m =
    kind_name m.packet.kind ++ codes " " ++ slice_index_or paths m.path [] ++ codes " " ++ decimal m.packet.sequence ++ codes "\n"

-- a packet message that is left out since it is over the gas limit alone
abbrev pub left_line : List (List ℕ) → Message → List ℕ
left_line paths m = codes "toobig " ++ message_line paths m

abbrev pub too_big_line : ℕ → List ℕ
too_big_line index = codes "toobig " ++ decimal index ++ codes "\n"

abbrev pub batch_line : ℕ → ℕ → List ℕ
batch_line number proof = codes "batch " ++ decimal number ++ codes " proof " ++ decimal proof ++ codes "\n"

abbrev pub transaction_line : ℕ → Transaction → List ℕ
transaction_line number t =
    codes "tx " ++ decimal number ++ codes " first " ++ decimal t.first ++ codes " count " ++ decimal t.count ++ codes " gas " ++ decimal t.gas
    ++ codes "\n"

-- when a client has a goal next, from version 3 on
abbrev pub next_text : Version → Option ℕ → List ℕ
next_text One next = []
next_text Two next = []
next_text Three None = []
next_text Three (Some moment) = codes "next " ++ moment_text moment ++ codes "\n"
next_text Four None = []
next_text Four (Some moment) = codes "next " ++ moment_text moment ++ codes "\n"

abbrev pub settled_line : List ℕ → ℕ → ℕ → List ℕ
settled_line id batch done = codes "settled " ++ id ++ codes " " ++ decimal batch ++ codes " " ++ decimal done ++ codes "\n"

-- why something was refused, at the end of its line
abbrev pub refusal_text : Refusal → List ℕ
refusal_text refusal = decimal (number_of refusal) ++ codes " " ++ name_of refusal ++ codes "\n"

abbrev pub refused_settle_line : ℕ → Refusal → List ℕ
refused_settle_line number refusal = codes "refused settle " ++ decimal number ++ codes " " ++ refusal_text refusal

-- ---- parts

-- a line, or several, for each element, with its number from here on
abbrev pub numbered_lines : {X : Type 0} → (ℕ → X → List ℕ) → ℕ → List X → List ℕ
numbered_lines lines number [] = []
numbered_lines lines number (x ∷ xs) = lines number x ++ numbered_lines lines (number + 1) xs

abbrev pub sending_text : SendingReport → List ℕ
sending_text nothing = []
sending_text (too_big index) = too_big_line index
sending_text (batched b) = batch_line b.number b.proof ++ numbered_lines transaction_line 1 b.transactions

-- with the identifiers of the paths by their places, and when the client has a goal next
abbrev pub plan_text : Version → List (List ℕ) → Option ℕ → Option PlanReport → List ℕ
plan_text version paths next None = unreachable_line
plan_text version paths next (Some p) =
    flat_map update_line p.updates ++ total_line p.total ++ flat_map (message_line paths) p.messages ++ sending_text p.sending ++ next_text version next

abbrev pub outcome_text : Version → List (List ℕ) → List ℕ → Outcome → List ℕ
outcome_text version paths id (held batch) = held_line id batch
outcome_text version paths id (idle next) = idle_line id ++ next_text version next
outcome_text version paths id (planned p) = goal_line id p.goal ++ beyond_text p.beyond ++ flat_map label_line p.labels ++ plan_text version paths p.next p.plan

abbrev pub client_text : Version → List (List ℕ) → ClientReport → List ℕ
client_text version paths c = outcome_text version paths c.id c.outcome ++ flat_map (left_line paths) c.too_big

-- a settlement by its number in its turn, from 0
abbrev pub settlement_text_by : ℕ → SettlementReport → Option Refusal → List ℕ
settlement_text_by number x None = settled_line x.id x.batch x.done
settlement_text_by number x (Some refusal) = refused_settle_line number refusal

abbrev pub settlement_text : ℕ → SettlementReport → List ℕ
settlement_text number x = settlement_text_by number x x.refusal

-- which windows go back: those of hosts, then the turn's
abbrev pub windows_text : List (List ℕ) → List ℕ → Bool → List ℕ
windows_text chains hosts_back window_back = flat_map (host_line chains) hosts_back ++ (if window_back then window_line else [])

-- a turn and what became of its windows
abbrev pub head_text : List (List ℕ) → ℕ → List ℕ → Bool → List ℕ
head_text chains number hosts_back window_back = codes "turn " ++ decimal number ++ codes "\n" ++ windows_text chains hosts_back window_back

-- with the identifiers of the chains and of the paths by their places
abbrev pub turn_text : Version → List (List ℕ) → List (List ℕ) → ℕ → TurnReport → List ℕ
turn_text version chains paths number t =
    head_text chains number t.hosts_back t.window_back ++ flat_map refused_line t.refused ++ flat_map (client_text version paths) t.clients
    ++ numbered_lines settlement_text 0 t.settlements

-- the first line: the format of versions 1 and 2 is one
abbrev pub first_line : Version → List ℕ
first_line One = codes "ibcplan 1\n"
first_line Two = codes "ibcplan 1\n"
first_line Three = codes "ibcplan 3\n"
first_line Four = codes "ibcplan 4\n"

-- the text of a report, its turns numbered from 1
abbrev pub text : Version → List (List ℕ) → List (List ℕ) → Report → List ℕ
text version chains paths turns = first_line version ++ numbered_lines (turn_text version chains paths) 1 turns ++ codes "end\n"
