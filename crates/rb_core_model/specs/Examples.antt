-- Worked cases of what a relayer refuses and replies, found by computing.
use Rattle.std.specs.Prelude.{◌≡◌, ℕ, true, false, List, [], ◌∷◌, ◌++◌, map, Option, Some, None, unwrap_or, slice_get}
use Rattle.std.specs.Option.{option_map, option_and_then}
use Rattle.rb_base.specs.declared.votes.CarriedVotes.TheVariants.{Commit}
use Rattle.rb_base.specs.declared.ties.Ties.TheVariants.{Lower}
use Rattle.rb_base.specs.Fee.{Fees}
use Rattle.rb_base.specs.Fraction.{one_third}
use Rattle.rb_book.specs.Header.{Record}
use Rattle.rb_script_types.specs.declared.goal.Goal.TheVariants.{AtLeast}
use Rattle.rb_scan.specs.Path.{Path}
use Rattle.rb_scan.specs.declared.message.Kind.TheVariants.{Receive, Timeout}
use Rattle.rb_scan.specs.declared.message.PacketMsg.{PacketMsg}
use Rattle.rb_scan.specs.declared.path.Order.{Order}
use Rattle.rb_scan.specs.declared.path.Order.TheVariants.{Ordered, Unordered}
use Rattle.rb_base.specs.declared.gate.Part.TheVariants.{Packets, Channel}
use Rattle.rb_script_types.specs.Config.{Config}
use Rattle.rb_script_types.specs.declared.config.ClientConfig.{ClientConfig}
use Rattle.rb_script_types.specs.declared.config.RefreshTo.TheVariants.{Lowest}
use Rattle.rb_script_types.specs.declared.version.Version.TheVariants.{One}
use Rattle.rb_plan_client.specs.Draft.{batched, Planned as Answer, Job, Draft}
use Rattle.rb_script_types.specs.declared.block.Block.{Block}
use Rattle.rb_core_model.specs.Event.{Event, Window, Asked, StoredSeen, Sent, Received, AckWritten, Cleared, Closed, Scanned, Planned, Settled}
use Rattle.rb_core_model.specs.Machine.{State, Opened, client_view, client_view_refusal, path_view_refusal, refusal_of, reply_of, state_of}
use Rattle.rb_core_model.specs.Limits.{max_events}
use Rattle.rb_core_model.specs.Snapshot.{from_nothing}
use Rattle.rb_script_types.specs.declared.refusal.Refusal.{Refusal}
use Rattle.rb_script_types.specs.declared.refusal.Refusal.TheVariants.{Conflict, UnknownObject, Stale, Busy, Repeat, OutOfOrder, WindowBack, NotOwed, LogFull}
use Rattle.rb_core_model.specs.Standing.{ClientState, path_view, view_of_path, after_message}
use Rattle.rb_plan_client.specs.Task.{PathTask, Message}

-- two chains, a client on each, and a path from the first chain to the second
abbrev pub no_fees : Fees
no_fees = record { base = 0; signature = 0; validator = 0 }

abbrev pub a_client : List ℕ → ℕ → ℕ → ClientConfig
a_client id host tracks = record {
  id = id;
  host = host;
  tracks = tracks;
  options = record { period = 1000; drift = 10; trust = one_third; votes = Commit; ties = Lower };
  refresh = 0;
  refresh_to = Lowest;
  fees = no_fees;
  gas = no_fees;
  limits = record { gas = 100; count = 100; transaction_gas = 0 };
}

abbrev pub a_config : Order → Config
a_config order = record {
  version = One;
  limit = 1024;
  chains = (1 ∷ []) ∷ (2 ∷ []) ∷ [];
  clients = a_client (1 ∷ []) 1 0 ∷ a_client (2 ∷ []) 0 1 ∷ [];
  paths = record {
    id = 1 ∷ [];
    source = 0;
    destination = 1;
    order = order;
    first = 4;
    forward = 0;
    back = 1;
    gas = record { receive = 5; acknowledge = 6; timeout = 7 };
    waits = record { receive = 0; acknowledge = 0; timeout = 0 };
    channel = None;
  } ∷ [];
}

abbrev pub a_window : Event
a_window = Window (record { from = 100; until = 200 })

abbrev pub a_record : ℕ → Record
a_record time = record { time = time; root = []; next = [] }

-- a block whose time isn't told
abbrev pub in_block : ℕ → Block
in_block height = record { height = height; time = None }

-- what was seen first: a record that each client has stored, and a packet
abbrev pub beginning : List Event
beginning = a_window ∷ StoredSeen 0 9 (a_record 90) ∷ StoredSeen 1 5 (a_record 50) ∷ Sent 0 4 (in_block 8) None None ∷ []

abbrev pub at : Order → List Event → State
at order events = state_of (a_config order) (from_nothing events)

-- the path as it is after these events, and scans of it
abbrev pub path_after : Order → List Event → Path
path_after order events = unwrap_or (path_view (at order events).standing 0) (record { order = order; first = 0; packets = []; closed = false; destination = [] })

abbrev pub both_scans : Order → List Event → List Event
both_scans order events =
    Scanned 0 (record { view = path_after order events; part = Packets }) ∷ Scanned 0 (record { view = path_after order events; part = Channel }) ∷ []

abbrev pub scanned : Order → List Event → List Event
scanned order events = events ++ both_scans order events

-- a draft for the job that a client is after these events
abbrev pub draft_of : Order → List Event → ℕ → Option Answer → Option Draft
draft_of order events client answer = option_map (λ job. record { job = job; answer = answer; next = None }) (client_view (at order events) client)

abbrev pub refused : State → Option Draft → Option Refusal
refused s d = option_and_then (λ x. refusal_of s (Planned x)) d

-- a plan that sends the packet's receive alone
abbrev pub one_receive : Message
one_receive = record { path = 0; packet = record { kind = Receive; sequence = 4; floor = 9; expires = None; since = None; timeout = None }; gas = 5 }

abbrev pub an_answer : Answer
an_answer = record {
  goal = AtLeast 9;
  labels = [];
  plan = Some (record {
    updates = [];
    messages = one_receive ∷ [];
    sending = batched (record { proof = 9; transactions = record { first = 0; count = 1; gas = 5 } ∷ [] });
  });
}

-- a plan that sends an update in a first transaction and the receive in a second
abbrev pub two_transactions : Answer
two_transactions = record {
  goal = AtLeast 10;
  labels = [];
  plan = Some (record {
    updates = record { height = 10; trusted = 9 } ∷ [];
    messages = one_receive ∷ [];
    sending = batched (record { proof = 10; transactions = record { first = 0; count = 1; gas = 0 } ∷ record { first = 1; count = 1; gas = 5 } ∷ [] });
  });
}

abbrev pub plan_with : Option Draft → List Event
plan_with None = []
plan_with (Some d) = Planned d ∷ []

-- after the batch was opened
abbrev pub opened : Order → List Event
opened order = scanned order beginning ++ plan_with (draft_of order (scanned order beginning) 0 (Some an_answer))

abbrev pub opened_two : List Event
opened_two = scanned Ordered beginning ++ plan_with (draft_of Ordered (scanned Ordered beginning) 0 (Some two_transactions))

abbrev pub stored_by : List Event → ℕ → Option (List ℕ)
stored_by events client = option_map (λ (c : ClientState). c.stored) (slice_get (at Ordered events).standing.clients client)

abbrev pub owed_to : Order → List Event → ℕ → Option (List PathTask)
owed_to order events client = option_map (λ (j : Job). j.task.paths) (client_view (at order events) client)

abbrev pub receives : List PathTask → List (List ℕ)
receives ts = map (λ (t : PathTask). map (λ (m : PacketMsg). m.sequence) t.owed) ts

pub record Examples : Type 0 where
  -- an object that isn't there
  pub unknown : refusal_of (at Unordered []) (Asked 2 (AtLeast 1)) ≡ Some UnknownObject
  -- a full log refuses the objects that are there, after those that aren't
  pub log_full : refusal_of (record (at Unordered beginning) { front = max_events }) (Closed 0) ≡ Some LogFull
  pub unknown_first : refusal_of (record (at Unordered beginning) { front = max_events }) (Closed 1) ≡ Some UnknownObject
  -- a client has no view before the first window
  pub no_view : client_view (at Unordered []) 0 ≡ None
  pub no_window : client_view_refusal (at Unordered []) 0 ≡ Some OutOfOrder
  pub no_client : client_view_refusal (at Unordered []) 2 ≡ Some UnknownObject
  pub no_path : path_view_refusal (at Unordered []) 1 ≡ Some UnknownObject
  -- another record at a known height is the book's refusal
  pub conflict : refusal_of (at Unordered beginning) (StoredSeen 0 9 (a_record 91)) ≡ Some (Conflict 9)
  pub window_back : refusal_of (at Unordered beginning) (Window (record { from = 99; until = 300 })) ≡ Some WindowBack
  -- packets: below the first sequence, known already, not sent
  pub below : refusal_of (at Unordered beginning) (Sent 0 3 (in_block 8) None None) ≡ Some OutOfOrder
  pub sent_again : refusal_of (at Unordered beginning) (Sent 0 4 (in_block 8) None None) ≡ Some Repeat
  pub not_sent : refusal_of (at Unordered beginning) (Received 0 5 8) ≡ Some OutOfOrder
  -- an ORDERED path receives in turn, an UNORDERED one doesn't
  pub in_turn : refusal_of (at Ordered (beginning ++ Sent 0 5 (in_block 8) None None ∷ [])) (Received 0 5 9) ≡ Some OutOfOrder
  pub any_turn : refusal_of (at Unordered (beginning ++ Sent 0 5 (in_block 8) None None ∷ [])) (Received 0 5 9) ≡ None
  pub received_again : refusal_of (at Ordered (beginning ++ Received 0 4 9 ∷ [])) (Received 0 4 9) ≡ Some Repeat
  -- an acknowledgement before its packet was received, in a lower block, and twice
  pub not_received : refusal_of (at Ordered beginning) (AckWritten 0 4 (in_block 9)) ≡ Some OutOfOrder
  pub written_below : refusal_of (at Ordered (beginning ++ Received 0 4 9 ∷ [])) (AckWritten 0 4 (in_block 8)) ≡ Some OutOfOrder
  pub written_again : refusal_of (at Ordered (beginning ++ Received 0 4 9 ∷ AckWritten 0 4 (in_block 9) ∷ [])) (AckWritten 0 4 (in_block 9)) ≡ Some Repeat
  pub cleared_again : refusal_of (at Ordered (beginning ++ Cleared 0 4 ∷ [])) (Cleared 0 4) ≡ Some Repeat
  pub closed_again : refusal_of (at Ordered (beginning ++ Closed 0 ∷ [])) (Closed 0) ≡ Some Repeat
  -- a scan of the path as it was before a packet was sent, and the same scan twice
  pub older_scan : refusal_of (at Ordered (beginning ++ Sent 0 5 (in_block 8) None None ∷ [])) (Scanned 0 (record { view = path_after Ordered beginning; part = Packets })) ≡ Some (Stale 5)
  pub scan_again : refusal_of (at Ordered (scanned Ordered beginning)) (Scanned 0 (record { view = path_after Ordered beginning; part = Packets })) ≡ Some Repeat
  -- a part that isn't scanned owes a client nothing, one that is scanned gives each client what is for it, and a scan is
  -- valid until the path changes
  pub not_scanned : option_map receives (owed_to Ordered beginning 0) ≡ Some ([] ∷ [])
  pub forward : option_map receives (owed_to Ordered (scanned Ordered beginning) 0) ≡ Some ((4 ∷ []) ∷ [])
  pub back : option_map receives (owed_to Ordered (scanned Ordered beginning) 1) ≡ Some ([] ∷ [])
  pub no_longer : option_map receives (owed_to Ordered (scanned Ordered beginning ++ Sent 0 5 (in_block 8) None None ∷ []) 0) ≡ Some ([] ∷ [])
  -- a plan before all parts are scanned, one of another number, one for an older view, and the same plan twice
  pub unscanned : refused (at Ordered beginning) (draft_of Ordered beginning 0 None) ≡ Some NotOwed
  pub number_above : refused (at Ordered (scanned Ordered beginning)) (draft_of Ordered (scanned Ordered beginning ++ plan_with (draft_of Ordered (scanned Ordered beginning) 0 None)) 0 None) ≡ Some OutOfOrder
  pub older_view : refused (at Ordered (scanned Ordered beginning ++ Asked 0 (AtLeast 3) ∷ [])) (draft_of Ordered (scanned Ordered beginning) 0 None) ≡ Some (Stale 7)
  pub plan_accepted : refused (at Ordered (scanned Ordered beginning)) (draft_of Ordered (scanned Ordered beginning) 0 (Some an_answer)) ≡ None
  pub plan_opens : option_map (λ d. reply_of (at Ordered (scanned Ordered beginning)) (Planned d)) (draft_of Ordered (scanned Ordered beginning) 0 (Some an_answer)) ≡ Some (Opened 1)
  pub plan_again : refused (at Ordered (opened Ordered)) (draft_of Ordered (scanned Ordered beginning) 0 (Some an_answer)) ≡ Some Repeat
  pub held : refused (at Ordered (opened Ordered)) (draft_of Ordered (opened Ordered) 0 None) ≡ Some Busy
  -- settling too much, another batch, and twice
  pub too_many : refusal_of (at Ordered (opened Ordered)) (Settled 0 1 2) ≡ Some OutOfOrder
  pub other_batch : refusal_of (at Ordered (opened Ordered)) (Settled 0 2 0) ≡ Some OutOfOrder
  pub settled_again : refusal_of (at Ordered (opened Ordered ++ Settled 0 1 1 ∷ [])) (Settled 0 1 1) ≡ Some Repeat
  -- what was settled is owed no more, and what wasn't is owed again
  pub all_settled : option_map receives (owed_to Ordered (scanned Ordered (opened Ordered ++ Settled 0 1 1 ∷ [])) 0) ≡ Some ([] ∷ [])
  -- the first transaction carries the update, the second the receive
  pub first_only : stored_by (opened_two ++ Settled 0 1 1 ∷ []) 0 ≡ Some (9 ∷ 10 ∷ [])
  pub receive_left : option_map receives (owed_to Ordered (scanned Ordered (opened_two ++ Settled 0 1 1 ∷ [])) 0) ≡ Some ((4 ∷ []) ∷ [])
  pub both_done : option_map receives (owed_to Ordered (scanned Ordered (opened_two ++ Settled 0 1 2 ∷ [])) 0) ≡ Some ([] ∷ [])
  pub no_update : stored_by (opened_two ++ Settled 0 1 0 ∷ []) 0 ≡ Some (9 ∷ [])
  -- a settled timeout closes an ORDERED path
  pub timeout_closes : option_map (λ (v : Path). v.closed) (option_map (λ p. view_of_path [] (after_message (record { kind = Timeout; sequence = 4; floor = 9; expires = None; since = None; timeout = None }) p)) (slice_get (at Ordered beginning).standing.paths 0)) ≡ Some true
  pub timeout_leaves : option_map (λ (v : Path). v.closed) (option_map (λ p. view_of_path [] (after_message (record { kind = Timeout; sequence = 4; floor = 9; expires = None; since = None; timeout = None }) p)) (slice_get (at Unordered beginning).standing.paths 0)) ≡ Some false
  pub none_settled : option_map receives (owed_to Ordered (scanned Ordered (opened Ordered ++ Settled 0 1 0 ∷ [])) 0) ≡ Some ((4 ∷ []) ∷ [])
