-- The commands that a relayer (Hermes 1.x) runs for a report (own choice): comments, and lines of a shell (POSIX.1, Shell Command Language).
use Rattle.std.specs.Prelude.{ℕ, ◌+◌, ◌-◌, ◌==◌, ◌&&◌, Bool, true, false, if◌then◌else◌, List, [], ◌∷◌, ◌++◌, codes, length, Option, Some, None, option_and_then, slice_get, slice_index_or}
use Rattle.std.specs.Fmt.{decimal}
use Rattle.std.specs.List.{enumerate_from, flat_map, list_any}
use Rattle.std.specs.Option.{option_map_or}
use Rattle.rb_base.specs.Window.{Span}
use Rattle.rb_script_text.specs.Moments.{moment_text}
use Rattle.rb_plan_client.specs.Task.{Message}
use Rattle.rb_scan.specs.Owed.{same_kind}
use Rattle.rb_scan.specs.declared.message.Kind.{Kind}
use Rattle.rb_scan.specs.declared.message.Kind.TheVariants.{Receive, Acknowledge, Timeout}
use Rattle.rb_script_types.specs.Config.{Config}
use Rattle.rb_script_types.specs.Refusal.{number_of, name_of}
use Rattle.rb_script_types.specs.declared.channel.Channel.{Channel}
use Rattle.rb_script_types.specs.declared.channel.ChannelEnd.{ChannelEnd}
use Rattle.rb_script_types.specs.declared.config.ClientConfig.{ClientConfig}
use Rattle.rb_script_types.specs.declared.config.PathConfig.{PathConfig}
use Rattle.rb_super_turn.specs.Report.{RefusedEvent, PricedUpdate, SendingReport, nothing, too_big, batched, PlanReport, Outcome, held, idle, planned, ClientReport, TurnReport, Report}
use Rattle.rb_script_text.specs.Members.{kind_name}
use Rattle.rb_text_export.specs.Windows.{InForce, Setting, before_all, in_turn}
use Rattle.rb_want_requests.specs.Lines.{own_id}

-- ---- words

-- a character of identifiers that a shell gives a meaning: of a comment, a pattern or a redirection
abbrev pub has_meaning : ℕ → Bool
has_meaning c = list_any (λ b. b == c) (codes "#[]<>")

-- in single quotes where it has such a character; identifiers have no single quote
abbrev pub word : List ℕ → List ℕ
word id = if list_any has_meaning id then codes "'" ++ id ++ codes "'" else id

unfoldable pub option_text : List ℕ → List ℕ → List ℕ
option_text option id = option ++ word id

-- ---- packet messages: a line for those of a path and kind in a row, each run of sequences as FIRST..LAST

-- whether a message stands in the line of the one before it, and whether in its run
abbrev pub is_alike : Message → Message → Bool
is_alike m n = (m.path == n.path) && same_kind m.packet.kind n.packet.kind

abbrev pub is_next : Message → Message → Bool
is_next m n = is_alike m n && (m.packet.sequence + 1 == n.packet.sequence)

unfoldable pub end_text : List ℕ → List ℕ → List ℕ
end_text port channel = option_text (codes " --src-port ") port ++ option_text (codes " --src-channel ") channel ++ codes " --packet-sequences "

-- a command: the chain that messages go to, the one that they come from, and the end of the channel there
unfoldable pub command_text : List ℕ → List ℕ → List ℕ → List ℕ → List ℕ → List ℕ
command_text command to from port channel = option_text command to ++ option_text (codes " --src-chain ") from ++ end_text port channel

-- a comment where the end isn't named
unfoldable pub unnamed_text : List ℕ → List ℕ → List ℕ
unnamed_text path kind = codes "# path " ++ path ++ codes ": no command, its channel isn't named: " ++ kind ++ codes " "

-- the beginning of a line for a path and kind. The command for receives sends a timeout of each packet that has expired
abbrev pub receive_begin : List (List ℕ) → PathConfig → Kind → List ℕ
receive_begin chains p kind =
    option_map_or
    (λ (x : Channel). command_text (codes "hermes tx packet-recv --dst-chain ") (slice_index_or chains p.destination []) (slice_index_or chains p.source []) x.source.port x.source.channel)
    p.channel (unnamed_text p.id (kind_name kind))

abbrev pub named_counterparty : PathConfig → Option ChannelEnd
named_counterparty p = option_and_then (λ (x : Channel). x.counterparty) p.channel

abbrev pub acknowledge_begin : List (List ℕ) → PathConfig → List ℕ
acknowledge_begin chains p =
    option_map_or
    (λ (end : ChannelEnd). command_text (codes "hermes tx packet-ack --dst-chain ") (slice_index_or chains p.source []) (slice_index_or chains p.destination []) end.port end.channel)
    (named_counterparty p) (unnamed_text p.id (kind_name Acknowledge))

abbrev pub begin_text : Config → PathConfig → Kind → List ℕ
begin_text c p Receive = receive_begin c.chains p Receive
begin_text c p Acknowledge = acknowledge_begin c.chains p
begin_text c p Timeout = receive_begin c.chains p Timeout

abbrev pub line_begin : Config → Message → List ℕ
line_begin c m = option_map_or (λ (p : PathConfig). begin_text c p m.packet.kind) (slice_get c.paths m.path) (unnamed_text [] (kind_name m.packet.kind))

-- the message before the one at a place
abbrev pub before : List Message → ℕ → Option Message
before messages place = if place == 0 then None else slice_get messages (place - 1)

-- whether it is so, and whether the next one is
abbrev pub before_is : (Message → Bool) → List Message → ℕ → Bool
before_is test messages place = option_map_or test (before messages place) false

abbrev pub next_is : (Message → Bool) → List Message → ℕ → Bool
next_is test messages place = option_map_or test (slice_get messages (place + 1)) false

-- what stands before the sequence that begins a run
abbrev pub run_begin : Config → List Message → ℕ → Message → List ℕ
run_begin c messages place m = if before_is (λ b. is_alike b m) messages place then codes "," else line_begin c m

-- the sequence of the message at a place, where it begins a run, or ends one of several
abbrev pub sequence_text : Config → List Message → ℕ × Message → List ℕ
sequence_text c messages (place, m) =
    if before_is (λ b. is_next b m) messages place
    then (if next_is (λ n. is_next m n) messages place then [] else codes ".." ++ decimal m.packet.sequence)
    else run_begin c messages place m ++ decimal m.packet.sequence

abbrev pub line_end : List Message → ℕ × Message → List ℕ
line_end messages (place, m) = if next_is (λ n. is_alike m n) messages place then [] else codes "\n"

unfoldable pub message_text : Config → List Message → ℕ × Message → List ℕ
message_text c messages message = sequence_text c messages message ++ line_end messages message

abbrev pub packets_text : Config → List Message → List ℕ
packets_text c messages = flat_map (message_text c messages) (enumerate_from 0 messages)

-- ---- clients

unfoldable pub heights_text : PricedUpdate → List ℕ
heights_text u = codes " --height " ++ decimal u.update.height ++ codes " --trusted-height " ++ decimal u.update.trusted ++ codes "\n"

unfoldable pub update_line : List ℕ → List ℕ → PricedUpdate → List ℕ
update_line host own u = option_text (codes "hermes update client --host-chain ") host ++ option_text (codes " --client ") own ++ heights_text u

-- what a plan costs, and how many packet messages it has, if it has some
unfoldable pub total_text : PlanReport → List ℕ
total_text p =
    codes "total fee " ++ decimal p.total.fee ++ codes ", updates " ++ decimal p.total.count
    ++ (if length p.messages == 0 then [] else codes ", packet messages " ++ decimal (length p.messages))

unfoldable pub lines_text : Config → List ℕ → List ℕ → PlanReport → List ℕ
lines_text c host own p = codes "\n" ++ flat_map (update_line host own) p.updates ++ packets_text c p.messages

-- no lines where a message is over the gas limit alone
abbrev pub sent_text : Config → List ℕ → List ℕ → PlanReport → SendingReport → List ℕ
sent_text c host own p nothing = lines_text c host own p
sent_text c host own p (too_big message) = codes ", message " ++ decimal message ++ codes " over the gas limit: no batch\n"
sent_text c host own p (batched b) = lines_text c host own p

unfoldable pub plan_text : Config → List ℕ → List ℕ → PlanReport → List ℕ
plan_text c host id p = total_text p ++ sent_text c host (own_id host id) p p.sending

abbrev pub planned_text : Config → List ℕ → List ℕ → Option PlanReport → List ℕ
planned_text c host id p = option_map_or (plan_text c host id) p (codes "unreachable\n")

abbrev pub outcome_text : Config → List ℕ → List ℕ → Outcome → List ℕ
outcome_text c host id (held batch) = codes "held by batch " ++ decimal batch ++ codes "\n"
outcome_text c host id (idle next) = codes "idle\n"
outcome_text c host id (planned p) = planned_text c host id p.plan

abbrev pub host_of : Config → ℕ → List ℕ
host_of c client = option_map_or (λ (x : ClientConfig). slice_index_or c.chains x.host []) (slice_get c.clients client) []

unfoldable pub client_head : ℕ → List ℕ → List ℕ
client_head turn id = codes "# turn " ++ decimal turn ++ codes " client " ++ id ++ codes ": "

-- the client at a place
unfoldable pub client_text : Config → ℕ → ℕ × ClientReport → List ℕ
client_text c turn (place, r) = client_head turn r.id ++ outcome_text c (host_of c place) r.id r.outcome

-- ---- turns

unfoldable pub until_text : ℕ → List ℕ
until_text until = codes " until " ++ moment_text until ++ codes "\n"

unfoldable pub span_text : Span → List ℕ
span_text w = moment_text w.from ++ until_text w.until

-- the beginning of a turn's comment
unfoldable pub turn_name : ℕ → List ℕ
turn_name turn = codes "# turn " ++ decimal turn

unfoldable pub own_window_line : ℕ → Span → List ℕ
own_window_line turn w = turn_name turn ++ codes ": valid from " ++ span_text w

abbrev pub window_text : ℕ → Option Span → List ℕ
window_text turn None = []
window_text turn (Some w) = own_window_line turn w

unfoldable pub host_window_line : ℕ → List ℕ → Span → List ℕ
host_window_line turn host w = codes "# turn " ++ decimal turn ++ codes " host " ++ host ++ codes ": valid from " ++ span_text w

abbrev pub hosts_window_text : ℕ → List ℕ → Option Span → List ℕ
hosts_window_text turn host None = []
hosts_window_text turn host (Some w) = host_window_line turn host w

-- of the host at a place
abbrev pub host_window_text : List (List ℕ) → ℕ → ℕ × Option Span → List ℕ
host_window_text chains turn (host, w) = hosts_window_text turn (slice_index_or chains host []) w

unfoldable pub windows_text : List (List ℕ) → ℕ → InForce → List ℕ
windows_text chains turn f = window_text turn f.window ++ flat_map (host_window_text chains turn) (enumerate_from 0 f.hosts)

unfoldable pub back_text : List ℕ → List ℕ
back_text host = codes ": refused window " ++ host ++ codes " 806 WindowBack\n"

unfoldable pub refused_host_line : ℕ → List ℕ → List ℕ
refused_host_line turn host = turn_name turn ++ back_text host

abbrev pub refused_host_text : List (List ℕ) → ℕ → ℕ → List ℕ
refused_host_text chains turn host = refused_host_line turn (slice_index_or chains host [])

abbrev pub refused_window_text : ℕ → Bool → List ℕ
refused_window_text turn back = if back then codes "# turn " ++ decimal turn ++ codes ": refused window 806 WindowBack\n" else []

unfoldable pub refusal_text : ℕ → List ℕ → List ℕ
refusal_text number name = decimal number ++ codes " " ++ name ++ codes "\n"

unfoldable pub refused_line : ℕ → RefusedEvent → List ℕ
refused_line turn r =
    codes "# turn " ++ decimal turn ++ codes ": refused event " ++ decimal r.event ++ codes " " ++ refusal_text (number_of r.refusal) (name_of r.refusal)

-- windows of hosts, the turn's own, and events
unfoldable pub all_refused_text : List (List ℕ) → ℕ → TurnReport → List ℕ
all_refused_text chains turn t =
    flat_map (refused_host_text chains turn) t.hosts_back ++ refused_window_text turn t.window_back ++ flat_map (refused_line turn) t.refused

-- with the windows in force
unfoldable pub turn_text : Config → ℕ → InForce → TurnReport → List ℕ
turn_text c turn f t = windows_text c.chains turn f ++ all_refused_text c.chains turn t ++ flat_map (client_text c turn) (enumerate_from 0 t.clients)

abbrev pub is_wanted : Option ℕ → ℕ → Bool
is_wanted None turn = true
is_wanted (Some number) turn = number == turn

-- the turn at a place, if its commands are wanted
abbrev pub wanted_text : Config → Option ℕ → ℕ → InForce → TurnReport → List ℕ
wanted_text c wanted place f t = if is_wanted wanted (place + 1) then turn_text c (place + 1) f t else []

-- the turns from a place on, with the windows that are in force before it
abbrev pub turns_text : Setting → Option ℕ → ℕ → InForce → Report → List ℕ
turns_text s wanted place before [] = []
turns_text s wanted place before (t ∷ ts) =
    wanted_text s.config wanted place (in_turn s place t before) t ++ turns_text s wanted (place + 1) (in_turn s place t before) ts

-- those of all turns, or of the one with this number
abbrev pub commands_text : Setting → Option ℕ → Report → List ℕ
commands_text s wanted report = turns_text s wanted 0 (before_all s.config.chains) report
