-- What is kept after every list of events.
use Rattle.std.proofs.Common.{◌≡◌, ℕ, zero, suc, ◌+◌, ◌<◌, ◌≤◌, Bool, true, false, cond, List, [], ◌∷◌, length, map, get_or, set, replicate, Option, Some, None, is_some, refl, sym, ap, ◌∙◌, subst, inl, inr, arith}
use Rattle.std.specs.Prelude.{IfSome, All}
use Rattle.std.specs.List.{fold, slice_get, AllByRecursion}
use Rattle.std.specs.Option.{option_map_or, option_and_then}
use Rattle.std.proofs.lemmas.List.{length-set, length-map, length-replicate}
use Rattle.std.proofs.lemmas.List.Elements.{recursion_from_All}
use Rattle.std.proofs.lemmas.Option.{none-some, same_Some}
use Rattle.rb_script_types.specs.Config.{Config, IsClient, IsConfig}
use Rattle.rb_script_types.specs.declared.config.ClientConfig.{ClientConfig}
use Rattle.rb_script_types.specs.declared.config.PathConfig.{PathConfig}
use Rattle.rb_base.specs.Window.{Span}
use Rattle.rb_core_model.proofs.HostWindows.{in_host_by, get_mapped}
use Rattle.rb_core_model.specs.Begun.{IsBegun, max_begun}
use Rattle.rb_core_model.specs.Config.{IsSetUp}
use Rattle.rb_plan_client.specs.Draft.{Planned as Answer}
use Rattle.rb_core_model.specs.Event.{Event, Window, HostWindow, Asked, SetSeen, HeaderSeen, StoredSeen, Sent, Received, AckWritten, Cleared, Closed, Scanned, Planned, Settled}
use Rattle.rb_core_model.specs.Invariant.{HasInvariant}
use Rattle.rb_core_model.specs.Machine.{State, begun, no_scans, plan_number, plans_after, scans_after, refusal_of, accepted, after, state_of}
use Rattle.rb_core_model.specs.Snapshot.{ClientSnapshot, Snapshot, Log, client_from, clients_from}
use Rattle.rb_core_model.specs.Standing.{OpenBatch, ClientState, Standing, new_client, tracked, changed_at, changed, batch_opened, with_batch, after_answer, after_batch, open_batch, after_settled, in_host_window}
use Rattle.rb_core_model.proofs.Configs.{IsConfigured, config_of, path_config_of, configured_begun}
use Rattle.rb_core_model.proofs.Lengths.{lengths_changed}
use Rattle.rb_core_model.proofs.Marks.{all_at}
use Rattle.rb_core_model.proofs.Options.{get_changed}
use Rattle.rb_core_model.proofs.Right.{opens}

-- ---- what an event makes of a client

-- it tracks the same chain, and has opened at most one batch more
record Grows (c d : ClientState) : Type 0 where
  tracks : d.config.tracks ≡ c.config.tracks
  batches : d.batches ≤ suc c.batches

stays : (c : ClientState) → Grows c c
stays c = record { tracks = refl; batches = omega arith }

answered : (answer : Option Answer) (c : ClientState) → Grows c (after_answer answer c)
answered answer c = go (batch_opened c answer) refl
  where
    go : (o : Option OpenBatch) → batch_opened c answer ≡ o → Grows c (with_batch c o)
    go None e = record { tracks = refl; batches = omega arith }
    go (Some b) e =
        let number : b.number ≡ c.batches + 1 = ap (λ (x : OpenBatch). x.number) (opens (c.batches + 1) answer b e).is in
        record { tracks = refl; batches = omega (arith, number) }

-- the client at a place of a list that an event leaves was there before it
record Was (cs : List ClientState) (place : ℕ) (d : ClientState) : Type 0 where
  client : ClientState
  found : slice_get cs place ≡ Some client
  grows : Grows client d

Keeps : List ClientState → List ClientState → Type 0
Keeps cs ds = (place : ℕ) (d : ClientState) → slice_get ds place ≡ Some d → Was cs place d

all_stay : (cs : List ClientState) → Keeps cs cs
unfolding Keeps
all_stay cs place d at = record { client = d; found = at; grows = stays d }

one_grows : (f : ClientState → ClientState) → ((c : ClientState) → Grows c (f c)) → (cs : List ClientState) (client : ℕ) → Keeps cs (changed_at f cs client)
unfolding Keeps
one_grows f grows cs client place d at =
    let was = get_changed f cs client place d at in
    record {
      client = was.0;
      found = was.1;
      grows = elim was.2 [
        | inl here ↦ subst (Grows was.0) (sym here.1) (grows was.0)
        | inr other ↦ subst (Grows was.0) (sym other.1) (stays was.0)
      ];
    }

in_host : (host : ℕ) (window : Span) (c : ClientState) → Grows c (in_host_window host window c)
in_host host window c = in_host_by (Grows c) host window c (record { tracks = refl; batches = omega arith }) (stays c)

all_in_host : (host : ℕ) (window : Span) (cs : List ClientState) → Keeps cs (map (in_host_window host window) cs)
unfolding Keeps
all_in_host host window cs place d at =
    let was = get_mapped (in_host_window host window) cs place d at in
    record { client = was.0; found = was.1; grows = subst (Grows was.0) was.2 (in_host host window was.0) }

settled_keeps : (s : Standing) (client done : ℕ) (o : Option OpenBatch) → Keeps s.clients (after_settled s client done o).clients
settled_keeps s client done None = all_stay s.clients
settled_keeps s client done (Some b) = one_grows (after_batch b done) (λ c. record { tracks = refl; batches = omega arith }) s.clients client

keeps : (s : Standing) (e : Event) → Keeps s.clients (changed s e).clients
keeps s (Window window) = all_stay s.clients
keeps s (HostWindow host window) = all_in_host host window s.clients
keeps s (Asked client goal) = one_grows _ (λ c. record { tracks = refl; batches = omega arith }) s.clients client
keeps s (SetSeen chain x) = all_stay s.clients
keeps s (HeaderSeen chain header) = all_stay s.clients
keeps s (StoredSeen client height r) = one_grows _ (λ c. record { tracks = refl; batches = omega arith }) s.clients client
keeps s (Sent path sequence block timeout_height timeout_time) = all_stay s.clients
keeps s (Received path sequence block) = all_stay s.clients
keeps s (AckWritten path sequence block) = all_stay s.clients
keeps s (Cleared path sequence) = all_stay s.clients
keeps s (Closed path) = all_stay s.clients
keeps s (Scanned path scan) = all_stay s.clients
keeps s (Planned d) = one_grows (after_answer d.answer) (answered d.answer) s.clients d.job.client
keeps s (Settled client number done) = settled_keeps s client done (option_and_then (λ c. open_batch c number) (slice_get s.clients client))

-- ---- plan numbers and scans

plans_long : (s : State) (e : Event) → length (plans_after s e) ≡ length s.plans
plans_long s (Window window) = refl
plans_long s (HostWindow host window) = refl
plans_long s (Asked client goal) = refl
plans_long s (SetSeen chain x) = refl
plans_long s (HeaderSeen chain header) = refl
plans_long s (StoredSeen client height r) = refl
plans_long s (Sent path sequence block timeout_height timeout_time) = refl
plans_long s (Received path sequence block) = refl
plans_long s (AckWritten path sequence block) = refl
plans_long s (Cleared path sequence) = refl
plans_long s (Closed path) = refl
plans_long s (Scanned path scan) = refl
plans_long s (Planned d) = length-set s.plans d.job.client _
plans_long s (Settled client number done) = refl

pub scans_long : (s : State) (e : Event) → length (scans_after s e) ≡ length s.scans
scans_long s (Window window) = refl
scans_long s (HostWindow host window) = refl
scans_long s (Asked client goal) = refl
scans_long s (SetSeen chain x) = refl
scans_long s (HeaderSeen chain header) = refl
scans_long s (StoredSeen client height r) = refl
scans_long s (Sent path sequence block timeout_height timeout_time) = refl
scans_long s (Received path sequence block) = refl
scans_long s (AckWritten path sequence block) = refl
scans_long s (Cleared path sequence) = refl
scans_long s (Closed path) = refl
scans_long s (Scanned path scan) = length-set s.scans path _
scans_long s (Planned d) = refl
scans_long s (Settled client number done) = refl

set_within : (xs : List ℕ) (i j n most : ℕ) → n ≤ most → get_or xs j 0 ≤ most → get_or (set xs i n) j 0 ≤ most
set_within [] i j n most new old = old
set_within (x ∷ xs) zero zero n most new old = new
set_within (x ∷ xs) zero (suc j) n most new old = old
set_within (x ∷ xs) (suc i) zero n most new old = old
set_within (x ∷ xs) (suc i) (suc j) n most new old = set_within xs i j n most new old

one_more : (n most : ℕ) → n ≤ most → n ≤ suc most
one_more n most le = omega (arith, le)

two_more : (n m before most : ℕ) → n ≤ suc m → m ≤ before + most → n ≤ before + suc most
two_more n m before most few le = omega (arith, few, le)

suc_within : (n most : ℕ) → n ≤ most → suc n ≤ suc most
suc_within n most le = omega (arith, le)

numbers_within : (s : State) (e : Event) → ((client : ℕ) → plan_number s client ≤ s.front) → (client : ℕ) → get_or (plans_after s e) client 0 ≤ suc s.front
numbers_within s (Window window) all client = one_more (plan_number s client) s.front (all client)
numbers_within s (HostWindow host window) all client = one_more (plan_number s client) s.front (all client)
numbers_within s (Asked place goal) all client = one_more (plan_number s client) s.front (all client)
numbers_within s (SetSeen chain x) all client = one_more (plan_number s client) s.front (all client)
numbers_within s (HeaderSeen chain header) all client = one_more (plan_number s client) s.front (all client)
numbers_within s (StoredSeen place height r) all client = one_more (plan_number s client) s.front (all client)
numbers_within s (Sent path sequence block timeout_height timeout_time) all client = one_more (plan_number s client) s.front (all client)
numbers_within s (Received path sequence block) all client = one_more (plan_number s client) s.front (all client)
numbers_within s (AckWritten path sequence block) all client = one_more (plan_number s client) s.front (all client)
numbers_within s (Cleared path sequence) all client = one_more (plan_number s client) s.front (all client)
numbers_within s (Closed path) all client = one_more (plan_number s client) s.front (all client)
numbers_within s (Scanned path scan) all client = one_more (plan_number s client) s.front (all client)
numbers_within s (Planned d) all client =
    set_within s.plans d.job.client client (suc (plan_number s d.job.client)) (suc s.front)
    (suc_within (plan_number s d.job.client) s.front (all d.job.client)) (one_more (plan_number s client) s.front (all client))
numbers_within s (Settled place number done) all client = one_more (plan_number s client) s.front (all client)

-- ---- every event

-- what is kept, by the clients at their places
pub record IsTended (s : State) : Type 0 where
  tracks : (place : ℕ) (c : ClientState) → slice_get s.standing.clients place ≡ Some c → c.config.tracks < length s.standing.books
  plans : length s.plans ≡ length s.standing.clients
  scans : length s.scans ≡ length s.standing.paths
  batches : (place : ℕ) (c : ClientState) → slice_get s.standing.clients place ≡ Some c → c.batches ≤ max_begun + s.front
  numbers : (client : ℕ) → plan_number s client ≤ s.front

pub accepted_tended : (s : State) (e : Event) → IsTended s → IsTended (accepted s e)
unfolding Keeps
accepted_tended s e is =
    let long = lengths_changed s.standing e in
    record {
      tracks = λ place d at.
          let was = keeps s.standing e place d at in
          subst (λ n. d.config.tracks < n) (sym long.books) (subst (λ n. n < length s.standing.books) (sym was.grows.tracks) (is.tracks place was.client was.found));
      plans = plans_long s e ∙ is.plans ∙ sym long.clients;
      scans = scans_long s e ∙ is.scans ∙ sym long.paths;
      batches = λ place d at.
          let was = keeps s.standing e place d at in
          two_more d.batches was.client.batches max_begun s.front was.grows.batches (is.batches place was.client was.found);
      numbers = numbers_within s e is.numbers;
    }

after_tended : (s : State) (e : Event) → IsTended s → IsTended (after s e)
after_tended s e is = go (is_some (refusal_of s e))
  where
    go : (b : Bool) → IsTended (cond b s (accepted s e))
    go true = is
    go false = accepted_tended s e is

events_tended : (s : State) (es : List Event) → IsTended s → IsTended (fold after s es)
events_tended s [] is = is
events_tended s (e ∷ es) is = events_tended (after s e) es (after_tended s e is)

-- ---- before the first event

pub zeros : (n i : ℕ) → get_or (replicate n 0) i 0 ≤ 0
zeros zero i = omega arith
zeros (suc n) zero = omega arith
zeros (suc n) (suc i) = zeros n i

config_at : (cs : List ClientState) (place : ℕ) (c : ClientState) → slice_get cs place ≡ Some c → slice_get (map config_of cs) place ≡ Some c.config
config_at [] place c e = absurd (none-some c e)
config_at (d ∷ cs) zero c e = ap (λ (k : ClientState). Some k.config) (same_Some d c e)
config_at (d ∷ cs) (suc place) c e = config_at cs place c e

tracked_within : (config : Config) (s : Standing) → IsConfig config → IsConfigured config s → (place : ℕ) (c : ClientState) → slice_get s.clients place ≡ Some c → c.config.tracks < length s.books
tracked_within config s is has place c at =
    let there : slice_get config.clients place ≡ Some c.config = ap (λ cs. slice_get cs place) (sym has.clients) ∙ config_at s.clients place c at in
    let client = all_at (IsClient (length config.chains)) config.clients place c.config (recursion_from_All (IsClient (length config.chains)) config.clients is.clients) there in
    subst (λ n. c.config.tracks < n) (sym has.books) client.tracks

-- as many batches were opened as the log begins with
few_new : (cs : List ClientConfig) (place : ℕ) (c : ClientState) → slice_get (map new_client cs) place ≡ Some c → c.batches ≤ max_begun
few_new [] place c e = absurd (none-some c e)
few_new (d ∷ cs) zero c e = subst (λ (k : ClientState). k.batches ≤ max_begun) (same_Some (new_client d) c e) (omega arith)
few_new (d ∷ cs) (suc place) c e = few_new cs place c e

few_known : (xs : List ClientSnapshot) (cs : List ClientConfig) → AllByRecursion (λ (x : ClientSnapshot). x.batches ≤ max_begun) xs
    → (place : ℕ) (c : ClientState) → slice_get (clients_from xs cs) place ≡ Some c → c.batches ≤ max_begun
few_known [] cs few place c e = few_new cs place c e
few_known (x ∷ xs) [] few place c e = absurd (none-some c e)
few_known (x ∷ xs) (d ∷ cs) few zero c e = subst (λ (k : ClientState). k.batches ≤ max_begun) (same_Some (client_from d x) c e) few.0
few_known (x ∷ xs) (d ∷ cs) few (suc place) c e = few_known xs cs few.1 place c e

pub begun_tended : (config : Config) (start : Snapshot) → IsConfig config → All (λ (x : ClientSnapshot). x.batches ≤ max_begun) start.clients → IsTended (begun config start)
begun_tended config start is few =
    let has = configured_begun config start in
    record {
      tracks = tracked_within config (begun config start).standing is has;
      plans = length-replicate (length config.clients) 0 ∙ ap (λ (cs : List ClientConfig). length cs) (sym has.clients) ∙ length-map (begun config start).standing.clients config_of;
      scans = length-replicate (length config.paths) no_scans ∙ ap (λ (ps : List PathConfig). length ps) (sym has.paths) ∙ length-map (begun config start).standing.paths path_config_of;
      batches = λ place c at. omega (arith, few_known start.clients config.clients (recursion_from_All (λ (x : ClientSnapshot). x.batches ≤ max_begun) start.clients few) place c at);
      numbers = zeros (length config.clients);
    }

-- ---- every list of events

if_some : {X : Type 0} (P : X → Type 0) (o : Option X) → ((x : X) → o ≡ Some x → P x) → IfSome o P
if_some P None h = tt
if_some P (Some x) h = h x refl

tracked_there : (cs : List ClientState) (most : ℕ) → ((place : ℕ) (c : ClientState) → slice_get cs place ≡ Some c → c.config.tracks < most)
    → (client : ℕ) → client < length cs → tracked cs client < most
tracked_there [] most all client lt = absurd (omega (arith, lt))
tracked_there (c ∷ cs) most all zero lt = all 0 c refl
tracked_there (c ∷ cs) most all (suc client) lt = tracked_there cs most (λ place d at. all (suc place) d at) client (omega (arith, lt))

pub kept : (s : State) → IsTended s → HasInvariant s
kept s is = record {
  tracked = tracked_there s.standing.clients (length s.standing.books) is.tracks;
  plans = is.plans;
  scans = is.scans;
  batches = λ client. if_some (λ (c : ClientState). c.batches ≤ max_begun + s.front) (slice_get s.standing.clients client) (is.batches client);
  numbers = is.numbers;
}

pub kept_of_events : (config : Config) (log : Log) → IsSetUp config → IsBegun config log.start → HasInvariant (state_of config log)
kept_of_events config log is start =
    kept (state_of config log) (events_tended (begun config log.start) log.events (begun_tended config log.start is.rules start.few))

-- ---- one event more

some_within : {X : Type 0} (xs : List X) (i : ℕ) (x : X) → slice_get xs i ≡ Some x → i < length xs
some_within [] i x e = absurd (none-some x e)
some_within (y ∷ xs) zero x e = omega arith
some_within (y ∷ xs) (suc i) x e = omega (arith, some_within xs i x e)

tended : (s : State) → HasInvariant s → IsTended s
tended s is = record {
  tracks = λ place c at.
      let there : tracked s.standing.clients place ≡ c.config.tracks = ap (λ (o : Option ClientState). option_map_or (λ (d : ClientState). d.config.tracks) o 0) at in
      subst (λ n. n < length s.standing.books) there (is.tracked place (some_within s.standing.clients place c at));
  plans = is.plans;
  scans = is.scans;
  batches = λ place c at. subst (λ (o : Option ClientState). IfSome o (λ (d : ClientState). d.batches ≤ max_begun + s.front)) at (is.batches place);
  numbers = is.numbers;
}

-- what is kept is kept by whatever is taken in, judged or not
pub accepted_kept : (s : State) (e : Event) → HasInvariant s → HasInvariant (accepted s e)
accepted_kept s e is = kept (accepted s e) (accepted_tended s e (tended s is))
