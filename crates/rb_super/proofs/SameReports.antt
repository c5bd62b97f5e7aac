-- In a script, forgetting changes no report.
use Rattle.std.proofs.Common.{◌≡◌, ℕ, zero, suc, ◌+◌, ◌<◌, ◌≤◌, ◌==◌, ◌⊎◌, Bool, true, false, cond, List, [], ◌∷◌, length, map, set, Option, Some, None, is_some, inl, inr, refl, sym, ap, ◌∙◌, subst, arith}
use Rattle.std.specs.List.{All, AllByRecursion, AllZip, fold, slice_get}
use Rattle.std.proofs.lemmas.List.{length-map}
use Rattle.std.specs.List.Sorted.{IsStrictlyIncreasing}
use Rattle.std.specs.Option.{IfSome, IsSomeAnd, option_map, option_map_or, option_and_then}
use Rattle.std.proofs.lemmas.Bool.{eqb-true}
use Rattle.std.proofs.lemmas.List.Elements.{All-from_recursion, All-nil, recursion_from_All}
use Rattle.std.proofs.lemmas.Option.{none-some, same_Some, slice_get-map}
use Rattle.rb_base.specs.Window.{Span}
use Rattle.rb_base.specs.declared.gate.Part.{Part}
use Rattle.rb_base.specs.declared.gate.Part.TheVariants.{Packets, Channel}
use Rattle.rb_book.specs.Book.{Book, RecordAt, height_of, header_height, set_of}
use Rattle.rb_book.specs.Invariant.{IsBook}
use Rattle.rb_book.specs.Laws.{FindsWhatWasAdded, StaysABook}
use Rattle.rb_book.proofs.Kept.{empty_is_book}
use Rattle.rb_scan.specs.Packet.{Packet}
use Rattle.rb_scan.specs.declared.path.Order.{Order}
use Rattle.rb_script_types.specs.Config.{Config, IsPathConfig}
use Rattle.rb_script_types.specs.declared.config.ClientConfig.{ClientConfig}
use Rattle.rb_script_types.specs.declared.config.PathConfig.{PathConfig}
use Rattle.rb_script_types.specs.declared.script.Asked.{Asked as Question}
use Rattle.rb_script_types.specs.declared.script.HostWindow.{HostWindow as WindowOf}
use Rattle.rb_script_types.specs.declared.script.Settlement.{Settlement}
use Rattle.rb_step.specs.Laws.{ViewsAreOrderly}
use Rattle.rb_step.specs.LightClient.{Update}
use Rattle.rb_core_model.specs.Config.{part_for, IsSetUp}
use Rattle.rb_core_model.specs.Event.{Event, Window, HostWindow, Asked, SetSeen, HeaderSeen, StoredSeen, Sent, Received, AckWritten, Cleared, Closed, Scanned, Planned, Settled}
use Rattle.rb_core_model.specs.Standing.{OpenBatch, ClientState, PathState, Standing, opening_standing, new_client, new_path, book_at, window_for, open_batch, with_batch, judged, changed, changed_at, standing_after, after_batch, after_settled, settled_messages, in_host_window}
use Rattle.rb_core_model.specs.Steps.{IsFromOutside, JudgedByStanding}
use Rattle.rb_core_model.proofs.Accepted.{window_stays, window_entered}
use Rattle.rb_core_model.proofs.HostWindows.{config_in_host, same_mapped}
use Rattle.rb_core_model.proofs.Marks.{all_at, configs_changed, configs_messages}
use Rattle.rb_core_model.proofs.Sound.{IsSoundClient, IsSound, client_view_sound, opening_sound}
use Rattle.rb_super_turn.specs.Report.{Outcome, held, idle, planned, ClientReport, TurnReport, Report}
use Rattle.rb_super_turn.specs.Script.{Turn, Script, IsSeen, IsTurn, IsScript}
use Rattle.rb_super_turn.specs.Turns.{after_window, window_event, after_host_window, after_question, before_events, before_plans, opened, after_outcome, after_reports, after_plans, settlement_event, after_settlement, taking, after_taking, takers, after_turn}
use Rattle.rb_super.specs.Free.{after_freely, turn_freely, AreFreeReports}
use Rattle.rb_super.specs.Forgetful.{forgotten, AreForgetful, floors_if, floors_after}
use Rattle.rb_super.specs.Forgetting.{HasRoom, AreSpared, raised, AreSparedTurns, ForgettingByFloorsIsUnseen}
use Rattle.rb_super.specs.Left.{IsLeft, IsBookLeft, AreStoredLeft}
use Rattle.rb_core_model.specs.Forgetting.{floor, rest, rest_of_client}
use Rattle.rb_super.specs.Rest.{NeedsNoLower, AreFloors}
use Rattle.rb_super.specs.Remains.{IsAfterGone, PacketFits, IsClientLeft, IsLeftOf, AreRouted}
use Rattle.rb_super.proofs.Fit.{IsFit, opening_fit, before_fit, turn_fit, seen_outside}
use Rattle.rb_super.proofs.Again.{left_of_left}
use Rattle.rb_core_model.specs.Over.{rest_of_path}
use Rattle.rb_core_model.proofs.Left.{NeedNoLower, length-rest, path_configs_same, rest_sound as left_sound_from}
use Rattle.rb_super.proofs.Forgotten.{rest_is_left}
use Rattle.rb_super.proofs.Needed.{floors_are_floors}
use Rattle.rb_super.proofs.Paths.{all_there}
use Rattle.rb_super.proofs.Plannable.{IsPlannable}
use Rattle.rb_super.proofs.Roomy.{same_after, turn_same, with_limits}
use Rattle.rb_super.proofs.Turns.{turn_reported, turn_left}

-- ---- a window is in force from the first turn on

questions_window : (qs : List Question) (s : Standing) → is_some s.window ≡ true → is_some (fold after_question s qs).window ≡ true
questions_window [] s is = is
questions_window (q ∷ qs) s is = questions_window qs (after_question s q) (window_stays s (Asked q.client q.goal) is)

events_window : (es : List Event) (s : Standing) → is_some s.window ≡ true → is_some (fold standing_after s es).window ≡ true
events_window [] s is = is
events_window (e ∷ es) s is = events_window es (standing_after s e) (window_stays s e is)

settlements_window : (xs : List Settlement) (s : Standing) → is_some s.window ≡ true → is_some (fold after_settlement s xs).window ≡ true
settlements_window [] s is = is
settlements_window (x ∷ xs) s is = settlements_window xs (after_settlement s x) (window_stays s (settlement_event x) is)

taking_window : (s : Standing) (client : ℕ) → is_some s.window ≡ true → is_some (after_taking s client).window ≡ true
taking_window s client is = go (taking s client)
  where
    go : (o : Option Settlement) → is_some (option_map_or (after_settlement s) o s).window ≡ true
    go None = is
    go (Some x) = window_stays s (settlement_event x) is

takings_window : (clients : List ℕ) (s : Standing) → is_some s.window ≡ true → is_some (fold after_taking s clients).window ≡ true
takings_window [] s is = is
takings_window (client ∷ clients) s is = takings_window clients (after_taking s client) (taking_window s client is)

turn_window : (s : Standing) (turn : Turn) (r : TurnReport) → is_some (after_turn s turn r).window ≡ true
turn_window s turn r =
    takings_window (takers (after_plans s turn r) turn.taken) (fold after_settlement (after_plans s turn r) turn.settlements)
    (settlements_window turn.settlements (after_plans s turn r)
    (events_window turn.events (before_events s turn)
    (questions_window turn.goals (after_window (fold after_host_window s turn.windows) turn.window) (window_entered (fold after_host_window s turn.windows) turn.window))))

-- ---- clients and paths are configured as they were

pub record HasConfigs (config : Config) (s : Standing) : Type 0 where
  pub clients : map (λ (c : ClientState). c.config) s.clients ≡ config.clients
  pub paths : map (λ (p : PathState). p.config) s.paths ≡ config.paths

clients_set : (f : ClientState → ClientState) (cs : List ClientState) (i : ℕ) (c : ClientState) → slice_get cs i ≡ Some c → (f c).config ≡ c.config
    → map (λ (c : ClientState). c.config) (set cs i (f c)) ≡ map (λ (c : ClientState). c.config) cs
clients_set f [] i c e same = refl
clients_set f (d ∷ cs) zero c e same = ap (λ x. x ∷ map (λ (c : ClientState). c.config) cs) (same ∙ ap (λ (x : ClientState). x.config) (sym (same_Some d c e)))
clients_set f (d ∷ cs) (suc i) c e same = ap (λ xs. d.config ∷ xs) (clients_set f cs i c e same)

clients_changed : (f : ClientState → ClientState) → ((c : ClientState) → (f c).config ≡ c.config) → (cs : List ClientState) (i : ℕ)
    → map (λ (c : ClientState). c.config) (changed_at f cs i) ≡ map (λ (c : ClientState). c.config) cs
clients_changed f same cs i = go (slice_get cs i) refl
  where
    go : (o : Option ClientState) → slice_get cs i ≡ o → map (λ (c : ClientState). c.config) (option_map_or (λ x. set cs i (f x)) o cs) ≡ map (λ (c : ClientState). c.config) cs
    go None e = refl
    go (Some c) e = clients_set f cs i c e (same c)

by_clients : (config : Config) (s : Standing) (f : ClientState → ClientState) (i : ℕ) → ((c : ClientState) → (f c).config ≡ c.config) → HasConfigs config s
    → map (λ (c : ClientState). c.config) (changed_at f s.clients i) ≡ config.clients
by_clients config s f i same has = clients_changed f same s.clients i ∙ has.clients

by_paths : (config : Config) (s : Standing) (f : PathState → PathState) (i : ℕ) → ((p : PathState) → (f p).config ≡ p.config) → HasConfigs config s
    → map (λ (p : PathState). p.config) (changed_at f s.paths i) ≡ config.paths
by_paths config s f i same has = configs_changed f same s.paths i ∙ has.paths

changed_configs : (config : Config) (s : Standing) (e : Event) → IsFromOutside e → HasConfigs config s → HasConfigs config (changed s e)
changed_configs config s (Window window) from has = record { clients = has.clients; paths = has.paths }
changed_configs config s (HostWindow host window) from has =
    record { clients = same_mapped (λ (c : ClientState). c.config) (in_host_window host window) (config_in_host host window) s.clients ∙ has.clients; paths = has.paths }
changed_configs config s (Asked client goal) from has = record { clients = by_clients config s (λ c. record c { asked = Some goal }) client (λ c. refl) has; paths = has.paths }
changed_configs config s (SetSeen chain x) from has = record { clients = has.clients; paths = has.paths }
changed_configs config s (HeaderSeen chain header) from has = record { clients = has.clients; paths = has.paths }
changed_configs config s (StoredSeen client height r) from has = record { clients = by_clients config s _ client (λ c. refl) has; paths = has.paths }
changed_configs config s (Sent path sequence block timeout_height timeout_time) from has = record { clients = has.clients; paths = by_paths config s _ path (λ p. refl) has }
changed_configs config s (Received path sequence block) from has = record { clients = has.clients; paths = by_paths config s _ path (λ p. refl) has }
changed_configs config s (AckWritten path sequence block) from has = record { clients = has.clients; paths = by_paths config s _ path (λ p. refl) has }
changed_configs config s (Cleared path sequence) from has = record { clients = has.clients; paths = by_paths config s _ path (λ p. refl) has }
changed_configs config s (Closed path) from has = record { clients = has.clients; paths = by_paths config s _ path (λ p. refl) has }
changed_configs config s (Scanned path scan) from has = absurd from
changed_configs config s (Planned d) from has = absurd from
changed_configs config s (Settled client number done) from has = go (option_and_then (λ (c : ClientState). open_batch c number) (slice_get s.clients client))
  where
    go : (o : Option OpenBatch) → HasConfigs config (after_settled s client done o)
    go None = has
    go (Some b) = record { clients = by_clients config s (after_batch b done) client (λ c. refl) has; paths = configs_messages (settled_messages b done) s.paths ∙ has.paths }

event_configs : (config : Config) (s : Standing) (e : Event) → IsFromOutside e → HasConfigs config s → HasConfigs config (standing_after s e)
event_configs config s e from has = go (is_some (judged s e))
  where
    go : (b : Bool) → HasConfigs config (cond b s (changed s e))
    go true = has
    go false = changed_configs config s e from has

hosts_configs : (config : Config) (ws : List WindowOf) (s : Standing) → HasConfigs config s → HasConfigs config (fold after_host_window s ws)
hosts_configs config [] s has = has
hosts_configs config (w ∷ ws) s has = hosts_configs config ws (after_host_window s w) (event_configs config s (window_event w) tt has)

questions_configs : (config : Config) (qs : List Question) (s : Standing) → HasConfigs config s → HasConfigs config (fold after_question s qs)
questions_configs config [] s has = has
questions_configs config (q ∷ qs) s has = questions_configs config qs (after_question s q) (event_configs config s (Asked q.client q.goal) tt has)

events_configs : (config : Config) (es : List Event) → AllByRecursion (IsSeen config) es → (s : Standing) → HasConfigs config s → HasConfigs config (fold standing_after s es)
events_configs config [] are s has = has
events_configs config (e ∷ es) are s has = events_configs config es are.1 (standing_after s e) (event_configs config s e (seen_outside config e are.0) has)

before_configs : (config : Config) (s : Standing) (turn : Turn) → IsTurn config turn → HasConfigs config s → HasConfigs config (before_plans s turn)
before_configs config s turn is has =
    events_configs config turn.events (recursion_from_All (IsSeen config) turn.events is.events) (before_events s turn)
    (questions_configs config turn.goals (after_window (fold after_host_window s turn.windows) turn.window)
    (event_configs config (fold after_host_window s turn.windows) (Window turn.window) tt (hosts_configs config turn.windows s has)))

outcome_config : (o : Outcome) (c : ClientState) → (after_outcome o c).config ≡ c.config
outcome_config (held number) c = refl
outcome_config (idle next) c = refl
outcome_config (planned p) c = go (opened p)
  where
    go : (o : Option OpenBatch) → (with_batch c o).config ≡ c.config
    go None = refl
    go (Some b) = refl

reports_configs : (cs : List ClientState) (rs : List ClientReport) → map (λ (c : ClientState). c.config) (after_reports cs rs) ≡ map (λ (c : ClientState). c.config) cs
reports_configs [] rs = refl
reports_configs (c ∷ cs) [] = refl
reports_configs (c ∷ cs) (r ∷ rs) = λ i. outcome_config r.outcome c i ∷ reports_configs cs rs i

settlements_configs : (config : Config) (xs : List Settlement) (s : Standing) → HasConfigs config s → HasConfigs config (fold after_settlement s xs)
settlements_configs config [] s has = has
settlements_configs config (x ∷ xs) s has = settlements_configs config xs (after_settlement s x) (event_configs config s (settlement_event x) tt has)

taking_configs : (config : Config) (s : Standing) (client : ℕ) → HasConfigs config s → HasConfigs config (after_taking s client)
taking_configs config s client has = go (taking s client)
  where
    go : (o : Option Settlement) → HasConfigs config (option_map_or (after_settlement s) o s)
    go None = has
    go (Some x) = event_configs config s (settlement_event x) tt has

takings_configs : (config : Config) (clients : List ℕ) (s : Standing) → HasConfigs config s → HasConfigs config (fold after_taking s clients)
takings_configs config [] s has = has
takings_configs config (client ∷ clients) s has = takings_configs config clients (after_taking s client) (taking_configs config s client has)

turn_configs : (config : Config) (s : Standing) (turn : Turn) (r : TurnReport) → IsTurn config turn → HasConfigs config s → HasConfigs config (after_turn s turn r)
turn_configs config s turn r is has =
    let before = before_configs config s turn is has in
    let sent : HasConfigs config (after_plans s turn r) = record { clients = reports_configs (before_plans s turn).clients r.clients ∙ before.clients; paths = before.paths } in
    takings_configs config (takers (after_plans s turn r) turn.taken) (fold after_settlement (after_plans s turn r) turn.settlements)
    (settlements_configs config turn.settlements (after_plans s turn r) sent)

new_configs : (cs : List ClientConfig) → map (λ (c : ClientState). c.config) (map new_client cs) ≡ cs
new_configs [] = refl
new_configs (c ∷ cs) = ap (λ xs. c ∷ xs) (new_configs cs)

new_paths : (ps : List PathConfig) → map (λ (p : PathState). p.config) (map new_path ps) ≡ ps
new_paths [] = refl
new_paths (p ∷ ps) = ap (λ xs. p ∷ xs) (new_paths ps)

-- ---- a client tracks the chain of its paths

for_packets : (p : PathConfig) (client : ℕ) → part_for p client ≡ Some Packets → p.forward ≡ client
for_packets p client e = go (p.forward == client) refl e
  where
    other : (b : Bool) → ◌≡◌ {A = Option Part} (cond b (Some Channel) None) (Some Packets) → ⊥
    other true f = cc
    other false f = cc

    go : (b : Bool) → (p.forward == client) ≡ b → cond b (Some Packets) (cond (p.back == client) (Some Channel) None) ≡ Some Packets → p.forward ≡ client
    go true is f = eqb-true p.forward client is
    go false is f = absurd (other (p.back == client) f)

for_channel : (p : PathConfig) (client : ℕ) → part_for p client ≡ Some Channel → p.back ≡ client
for_channel p client e = go (p.forward == client) e (p.back == client) refl
  where
    wrong : ◌≡◌ {A = Option Part} (Some Packets) (Some Channel) → ⊥
    wrong f = cc

    go : (a : Bool) → cond a (Some Packets) (cond (p.back == client) (Some Channel) None) ≡ Some Channel → (b : Bool) → (p.back == client) ≡ b → p.back ≡ client
    go true f b is = absurd (wrong f)
    go false f true is = eqb-true p.back client is
    go false f false is = absurd (none-some Channel (sym (ap (λ b. cond b (Some Channel) None) is) ∙ f))

module _ (config : Config) (set_up : IsSetUp config) (s : Standing) (has : HasConfigs config s) where
  client_is : (client : ℕ) (c : ClientState) → slice_get s.clients client ≡ Some c → slice_get config.clients client ≡ Some c.config
  client_is client c e =
      ap (λ cs. slice_get cs client) (sym has.clients) ∙ slice_get-map (λ (c : ClientState). c.config) s.clients client ∙ ap (option_map (λ (c : ClientState). c.config)) e

  path_is : (path : ℕ) (p : PathState) → slice_get s.paths path ≡ Some p → slice_get config.paths path ≡ Some p.config
  path_is path p e =
      ap (λ ps. slice_get ps path) (sym has.paths) ∙ slice_get-map (λ (p : PathState). p.config) s.paths path ∙ ap (option_map (λ (p : PathState). p.config)) e

  tracks : (place client host chain : ℕ) (c : ClientState) → place ≡ client → slice_get s.clients client ≡ Some c
      → IsSomeAnd (slice_get config.clients place) (λ (k : ClientConfig). (k.host ≡ host) × (k.tracks ≡ chain)) → c.config.tracks ≡ chain
  tracks place client host chain c same at connects =
      (subst (λ (o : Option ClientConfig). IsSomeAnd o (λ (k : ClientConfig). (k.host ≡ host) × (k.tracks ≡ chain))) (ap (slice_get config.clients) same ∙ client_is client c at) connects).1

  routed : AreRouted s
  routed client path c p at_c at_p =
      let is = all_at (IsPathConfig (length config.chains) config.clients) config.paths path p.config (recursion_from_All (IsPathConfig (length config.chains) config.clients) config.paths set_up.rules.paths) (path_is path p at_p) in (
        λ e. tracks p.config.forward client p.config.destination p.config.source c (for_packets p.config client e) at_c is.forward,
        λ e. tracks p.config.back client p.config.source p.config.destination c (for_channel p.config client e) at_c is.back,
      )

  plannable : IsFit config s → IsPlannable s
  plannable fit = record {
    views = λ client c w at_c at_w. client_view_sound s w c fit.sound at_w (all_at (IsSoundClient s.books) s.clients client c fit.sound.clients at_c);
    routed = routed;
  }

-- ---- nothing is forgotten at first

nothing_gone : {X : Type 0} (f : X → ℕ) (xs : List X) → IsLeft f 0 xs xs
nothing_gone f xs = record { gone = []; parts = refl; below = All-nil (λ x. f x < 0); above = λ k d lt. omega arith }

if_all : {X : Type 0} (P : X → Type 0) (o : Option X) → ((x : X) → o ≡ Some x → P x) → IfSome o P
if_all P None h = tt
if_all P (Some x) h = h x refl

book_left : (b : Book) → IsBookLeft 0 b b
book_left b = record {
  limit = refl;
  records = record { gone = []; parts = refl; below = All-nil (λ (k : RecordAt). height_of k < 0); above = λ k d lt. omega arith };
  headers = nothing_gone header_height b.headers;
  first = inl refl;
  sets = λ hash. if_all (λ x. set_of b hash ≡ Some x) (set_of b hash) (λ x e. e);
  next = λ k d lt. refl;
  own = λ k d lt. refl;
}

stored_left : (period : ℕ) (w : Span) (b : Book) (xs : List ℕ) → AreStoredLeft 0 period w b xs xs
stored_left period w b xs = record {
  heights = record { gone = []; parts = refl; below = All-nil (λ (h : ℕ). h < 0); above = λ k d lt. omega arith };
  dead = All-nil _;
  some = go xs;
}
  where
    go : (ys : List ℕ) → (ys ≡ []) ⊎ (0 < length ys)
    go [] = inl refl
    go (y ∷ ys) = inr (omega arith)

clients_left : (w : Span) (books : List Book) (cs : List ClientState) → AllZip (IsClientLeft (λ (chain : ℕ). 0) w books) cs cs
clients_left w books [] = tt
clients_left w books (c ∷ cs) = (
  record {
    is = refl;
    stored = stored_left c.config.options.period (window_for w c) (book_at books c.config.tracks) c.stored;
    batch = if_all (λ (b : OpenBatch). All (λ (u : Update). 0 ≤ u.height) b.updates) c.batch (λ b e k d lt. omega arith);
  },
  clients_left w books cs,
)

packet_fits : (b : Book) (order : Order) (q : Packet) → PacketFits 0 0 b order q
packet_fits b order q = record {
  times_out = inr (if_all (IsAfterGone 0 b) q.timeout_time (λ limit e k d lt low. absurd (omega arith)));
  receive = inr (inr (omega arith));
  timeout = inr (inr (if_all (λ h. 0 ≤ h) q.timeout_height (λ h e. omega arith)));
  written = inr (inr (if_all (λ block. 0 ≤ block + 1) q.written (λ block e. omega arith)));
}

self_left : (s : Standing) (w : Span) → s.window ≡ Some w → ((chain : ℕ) → IsBook (book_at s.books chain)) → IsLeftOf (λ (chain : ℕ). 0) s s
self_left s w in_force books = record {
  window = w;
  in_force = in_force;
  still = in_force;
  paths = all_there s.paths;
  chains = refl;
  books = λ chain. book_left (book_at s.books chain);
  rises = λ chain. (books chain).records;
  rest = books;
  clients = clients_left w s.books s.clients;
  fit = λ k d lt. inr (λ i e l. packet_fits _ _ _);
}

book_all : (books : List Book) → AllByRecursion IsBook books → (n : ℕ) → IsBook (book_at books n)
book_all [] all n = empty_is_book 1 (omega arith, omega arith)
book_all (b ∷ books) all zero = all.0
book_all (b ∷ books) all (suc n) = book_all books all.1 n

some_is : {X : Type 0} (o : Option X) → is_some o ≡ true → (x : X) × (o ≡ Some x)
some_is None e = absurd (cc)
some_is (Some x) e = (x, refl)

-- ---- what is left after forgetting is sound

all_places : (books : List Book) → ((n : ℕ) → IsBook (book_at books n)) → AllByRecursion IsBook books
all_places [] all = tt
all_places (b ∷ books) all = (all 0, all_places books (λ n. all (suc n)))

rising_clients : (books : List Book) (cs : List ClientState) → AllByRecursion (IsSoundClient books) cs → AllByRecursion (λ (c : ClientState). IsStrictlyIncreasing c.stored) cs
rising_clients books [] all = tt
rising_clients books (c ∷ cs) all = (all.0.rising, rising_clients books cs all.1)

module _ (m : ℕ → ℕ) (s : Standing) (are : AreFloors m s) (sound : IsSound s) where
  left : IsLeftOf m s (rest m s)
  left = rest_is_left m s are (book_all s.books sound.books) (All-from_recursion (λ (c : ClientState). IsStrictlyIncreasing c.stored) s.clients (rising_clients s.books s.clients sound.clients))

  rest_sound : IsSound (rest m s)
  rest_sound =
      left_sound_from m s sound
      (each_client s.clients (recursion_from_All (λ (c : ClientState). NeedsNoLower (m c.config.tracks) are.window (book_at s.books c.config.tracks) c) s.clients are.clients))
    where
      each_client : (cs : List ClientState) → AllByRecursion (λ (c : ClientState). NeedsNoLower (m c.config.tracks) are.window (book_at s.books c.config.tracks) c) cs → AllByRecursion (λ (c : ClientState). NeedNoLower (m c.config.tracks) c) cs
      each_client [] all = tt
      each_client (c ∷ cs) all = (
        λ b e. recursion_from_All (λ (u : Update). m c.config.tracks ≤ u.height) b.updates (subst (λ (o : Option OpenBatch). IfSome o (λ (x : OpenBatch). All (λ (u : Update). m c.config.tracks ≤ u.height) x.updates)) e all.0.batch),
        each_client cs all.1,
      )

rest_configs : (m : ℕ → ℕ) (cs : List ClientState) → map (λ (c : ClientState). c.config) (map (rest_of_client m) cs) ≡ map (λ (c : ClientState). c.config) cs
rest_configs m [] = refl
rest_configs m (c ∷ cs) = ap (λ xs. c.config ∷ xs) (rest_configs m cs)

-- the heights are such that nothing needs to be lower
abbrev MayForget : Option (ℕ → ℕ) → Standing → Type 0
MayForget None s = Unit {0}
MayForget (Some m) s = AreFloors m s

forgotten_fit : (config : Config) (o : Option (ℕ → ℕ)) (s : Standing) → MayForget o s → IsFit config s → IsFit config (forgotten o s)
forgotten_fit config None s may fit = fit
forgotten_fit config (Some m) s may fit = record {
  sound = rest_sound m s may fit.sound;
  books = length-rest m 0 s.books ∙ fit.books;
  clients = length-map s.clients (rest_of_client m) ∙ fit.clients;
  paths = length-map s.paths rest_of_path ∙ fit.paths;
}

forgotten_configs : (config : Config) (o : Option (ℕ → ℕ)) (s : Standing) → HasConfigs config s → HasConfigs config (forgotten o s)
forgotten_configs config None s has = has
forgotten_configs config (Some m) s has = record { clients = rest_configs m s.clients ∙ has.clients; paths = path_configs_same s.paths ∙ has.paths }

forgotten_left : (s t : Standing) (k : ℕ → ℕ) → IsLeftOf k s t → IsSound t → (o : Option (ℕ → ℕ)) → MayForget o t → IsLeftOf (raised k o) s (forgotten o t)
forgotten_left s t k is sound None may = is
forgotten_left s t k is sound (Some n) may = left_of_left k n s t (rest n t) is (left n t may sound)

-- ---- a turn in which nothing was forgotten yet

has_room : (m : ℕ → ℕ) (s t : Standing) (es : List Event) → s ≡ t → AreSpared m s t es → HasRoom t es
has_room m s t [] same spared = tt
has_room m s t (e ∷ es) same (spared, room, more) =
    let next : after_freely s e ≡ standing_after t e = ap (λ (x : Standing). after_freely x e) same ∙ same_after t e room in
    (room, has_room m (after_freely s e) (standing_after t e) es next more)

-- ---- what may be forgotten, where what is left is sound

-- no event speaks of what was forgotten by then, and what is forgotten may be, where what is left is sound
abbrev AreSoundlySpared : (ℕ → ℕ) → Standing → Standing → List Turn → List (Option (ℕ → ℕ)) → Report → Type 0
AreSoundlySpared m s t [] os rs = Unit {0}
AreSoundlySpared m s t (turn ∷ turns) os [] = Unit {0}
AreSoundlySpared m s t (turn ∷ turns) [] (r ∷ rs) = ⊥
AreSoundlySpared m s t (turn ∷ turns) (o ∷ os) (r ∷ rs) =
    AreSpared m (before_events s turn) (before_events t turn) turn.events × (IsSound (after_turn t turn r) → MayForget o (after_turn t turn r))
    × AreSoundlySpared (raised m o) (turn_freely s turn r) (forgotten o (after_turn t turn r)) turns os rs

floors_may : (chosen : Standing → Bool) (s : Standing) → IsSound s → MayForget (floors_if chosen s) s
floors_may chosen s sound = go (chosen s)
  where
    at : (o : Option Span) → s.window ≡ o → MayForget (option_map (λ w. floor w s) o) s
    at None e = tt
    at (Some w) e = floors_are_floors w s e (book_all s.books sound.books)

    go : (b : Bool) → MayForget (cond b (option_map (λ w. floor w s) s.window) None) s
    go false = tt
    go true = at s.window refl

by_floors : (chosen : Standing → Bool) (m : ℕ → ℕ) (s t : Standing) (turns : List Turn) (rs : Report) → AreSparedTurns chosen m s t turns rs
    → AreSoundlySpared m s t turns (floors_after chosen t turns rs) rs
by_floors chosen m s t [] rs spared = tt
by_floors chosen m s t (turn ∷ turns) [] spared = tt
by_floors chosen m s t (turn ∷ turns) (r ∷ rs) (spared, more) =
    let o = floors_if chosen (after_turn t turn r) in
    (spared, floors_may chosen (after_turn t turn r), by_floors chosen (raised m o) (turn_freely s turn r) (forgotten o (after_turn t turn r)) turns rs more)

-- ---- a script

module _ (finds : FindsWhatWasAdded) (stays : StaysABook) (orderly : ViewsAreOrderly) (by_standing : JudgedByStanding) where
  runs : (config : Config) → IsSetUp config → (m : ℕ → ℕ) (s t : Standing) → IsLeftOf m s t → IsFit config t → HasConfigs config t → (turns : List Turn) (os : List (Option (ℕ → ℕ))) (report : Report)
      → AllByRecursion (IsTurn config) turns → AreSoundlySpared m s t turns os report → AreFreeReports s turns report → AreForgetful t turns os report
  runs config set_up m s t is fit has [] os [] are spared right = tt
  runs config set_up m s t is fit has [] os (r ∷ rs) are spared right = right
  runs config set_up m s t is fit has (turn ∷ turns) os [] are spared right = absurd right
  runs config set_up m s t is fit has (turn ∷ turns) [] (r ∷ rs) are spared right = absurd spared
  runs config set_up m s t is fit has (turn ∷ turns) (o ∷ os) (r ∷ rs) are (spared, if_sound, more) right =
      let can = plannable config set_up (before_plans t turn) (before_configs config t turn are.0 has) (before_fit finds stays orderly by_standing config t turn are.0 fit) in
      let reported = turn_reported stays m config s t is turn are.0 spared can r right.0 in
      let next = turn_left stays m config s t is turn are.0 spared can r right.0 in
      let next_fit = turn_fit finds stays orderly by_standing config t turn r are.0 reported fit in
      let may = if_sound next_fit.sound in
      let next_has = turn_configs config t turn r are.0 has in (
        reported,
        runs config set_up (raised m o) (turn_freely s turn r) (forgotten o (after_turn t turn r)) (forgotten_left (turn_freely s turn r) (after_turn t turn r) m next next_fit.sound o may)
            (forgotten_fit config o (after_turn t turn r) may next_fit) (forgotten_configs config o (after_turn t turn r) next_has) turns os rs are.1 more right.1,
      )

  from_first : (config : Config) → IsSetUp config → (s : Standing) → IsFit config s → HasConfigs config s → (turns : List Turn) (os : List (Option (ℕ → ℕ))) (report : Report) → AllByRecursion (IsTurn config) turns
      → AreSoundlySpared (λ (chain : ℕ). 0) s s turns os report → AreFreeReports s turns report → AreForgetful s turns os report
  from_first config set_up s fit has [] os [] are spared right = tt
  from_first config set_up s fit has [] os (r ∷ rs) are spared right = right
  from_first config set_up s fit has (turn ∷ turns) os [] are spared right = absurd right
  from_first config set_up s fit has (turn ∷ turns) [] (r ∷ rs) are spared right = absurd spared
  from_first config set_up s fit has (turn ∷ turns) (o ∷ os) (r ∷ rs) are (spared, if_sound, more) right =
      let room = has_room (λ (chain : ℕ). 0) (before_events s turn) (before_events s turn) turn.events refl spared in
      let reported = with_limits s turn room r right.0 in
      let next_fit = turn_fit finds stays orderly by_standing config s turn r are.0 reported fit in
      let may = if_sound next_fit.sound in
      let next_has = turn_configs config s turn r are.0 has in
      let window = some_is (after_turn s turn r).window (turn_window s turn r) in
      let self = self_left (after_turn s turn r) window.0 window.1 (book_all (after_turn s turn r).books next_fit.sound.books) in
      let next : IsLeftOf (λ (chain : ℕ). 0) (turn_freely s turn r) (after_turn s turn r) =
      subst (λ (x : Standing). IsLeftOf (λ (chain : ℕ). 0) x (after_turn s turn r)) (sym (turn_same s turn room r)) self in (
        reported,
        runs config set_up (raised (λ (chain : ℕ). 0) o) (turn_freely s turn r) (forgotten o (after_turn s turn r))
            (forgotten_left (turn_freely s turn r) (after_turn s turn r) (λ (chain : ℕ). 0) next next_fit.sound o may)
            (forgotten_fit config o (after_turn s turn r) may next_fit) (forgotten_configs config o (after_turn s turn r) next_has) turns os rs are.1 more right.1,
      )

  soundly : (script : Script) (os : List (Option (ℕ → ℕ))) (report : Report) → IsScript script
      → AreSoundlySpared (λ (chain : ℕ). 0) (opening_standing script.config) (opening_standing script.config) script.turns os report
      → AreFreeReports (opening_standing script.config) script.turns report → AreForgetful (opening_standing script.config) script.turns os report
  soundly script os report is spared right =
      from_first script.config is.config (opening_standing script.config) (opening_fit script.config is.config (opening_sound finds stays orderly))
      (record { clients = new_configs script.config.clients; paths = new_paths script.config.paths }) script.turns os report (recursion_from_All (IsTurn script.config) script.turns is.turns) spared right

  pub unseen_by_floors : ForgettingByFloorsIsUnseen
  unseen_by_floors = λ chosen script report is spared right.
      soundly script (floors_after chosen (opening_standing script.config) script.turns report) report is
      (by_floors chosen (λ (chain : ℕ). 0) (opening_standing script.config) (opening_standing script.config) script.turns report spared) right
