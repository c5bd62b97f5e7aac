-- What is true of how things stand after every list of events.
use Rattle.std.proofs.Common.{◌≡◌, ℕ, zero, suc, ◌+◌, ◌<◌, ◌≤◌, Bool, true, false, cond, eqb, List, [], ◌∷◌, length, map, set, get_or, replicate, Option, Some, None, IsSome, is_some, refl, sym, ap, ◌∙◌, subst, inl, inr, arith, if◌then◌else◌}
use Rattle.std.specs.List.{fold, slice_get, AllByRecursion}
use Rattle.std.specs.List.Sorted.{IsStrictlyIncreasing}
use Rattle.std.specs.Option.{option_map, option_map_or, option_and_then, IsSomeAnd, MatchOption}
use Rattle.std.proofs.lemmas.Bool.{cases_eq, cases_lt, eq-eqb}
use Rattle.std.proofs.lemmas.List.{get_or-set_same, get_or-set_other, length-set, length-replicate, set_past}
use Rattle.std.proofs.lemmas.List.Elements.{All-from_recursion, recursion_from_All}
use Rattle.std.proofs.lemmas.Option.{none-some, same_Some}
use Rattle.rb_base.specs.Fee.{IsFeeTable}
use Rattle.rb_base.specs.Window.{Span}
use Rattle.rb_book.specs.Book.{Book, record_at, set_of}
use Rattle.rb_book.specs.Header.{Record, Header}
use Rattle.rb_book.specs.Intake.{header_refusal, record_refusal, after_set, after_header, after_record, with_set}
use Rattle.rb_book.specs.Invariant.{IsBook}
use Rattle.rb_book.specs.Laws.{FindsWhatWasAdded, StaysABook}
use Rattle.rb_plan_types.specs.Least.{IsUnreachable}
use Rattle.rb_scan.specs.Packet.{Packet}
use Rattle.rb_step.specs.Laws.{ViewsAreOrderly}
use Rattle.rb_step.specs.LightClient.{Update, Runs, IsOrderly}
use Rattle.rb_step.specs.View.{View, IsView, client_of}
use Rattle.rb_valset.specs.Validator.{Member}
use Rattle.rb_valset.specs.ValidatorSet.{set_hash}
use Rattle.rb_script_types.specs.declared.block.Block.{Block}
use Rattle.rb_script_types.specs.Config.{Config, IsClient}
use Rattle.rb_script_types.specs.declared.config.ClientConfig.{ClientConfig}
use Rattle.rb_core_model.proofs.HostWindows.{in_host_by, all_mapped, window_ends}
use Rattle.rb_core_model.specs.Config.{IsSetUp}
use Rattle.rb_plan_client.specs.Draft.{Planned as Answer, IsPlan, IsPlanned, IsAnswer, Draft, IsDraft}
use Rattle.rb_core_model.specs.Event.{Event, IsEvent, Window, HostWindow, Asked, SetSeen, HeaderSeen, StoredSeen, Sent, Received, AckWritten, Cleared, Closed, Scanned, Planned, Settled}
use Rattle.rb_core_model.specs.Machine.{State, opening, refusal_of, accepted, after}
use Rattle.rb_script_types.specs.declared.refusal.Refusal.{Refusal}
use Rattle.rb_core_model.specs.Standing.{OpenBatch, ClientState, PathState, Standing, empty_book, new_client, opening_standing, book_at, tracked, view_of_path, task_of, task_in, changed, with_book, with_client, with_path, with_height, with_packet, new_packet, with_mark, batch_opened, with_batch, after_answer, after_batch, settled_updates, settled_messages, sent_refusal, in_host_window}
use Rattle.rb_plan_client.specs.Task.{view_of}
use Rattle.rb_core_model.specs.Fits.{AreApart}
use Rattle.rb_core_model.proofs.Apart.{messages_apart}
use Rattle.rb_book.proofs.Rising.{Up, Up-from_increasing}
use Rattle.rb_core_model.proofs.Drafted.{drafted}
use Rattle.rb_core_model.proofs.Intake.{set_accepted, header_accepted, record_accepted}
use Rattle.rb_core_model.proofs.Marks.{all_at, all_take, all_weaker}
use Rattle.rb_core_model.proofs.Open.{judged_none, settling}
use Rattle.rb_core_model.proofs.Paths.{IsSoundPath, all_set, all_changed, mark_sound, messages_sound, packet_sound, new_sound}
use Rattle.rb_core_model.proofs.AtHeight.{ready_at}
use Rattle.rb_core_model.proofs.Right.{opens}
use Rattle.rb_core_model.proofs.Rising.{height_rises, all_height}

-- ---- what is true

abbrev pub IsRecorded : Book → ℕ → Type 0
IsRecorded book height = IsSome (record_at book height)

-- what is known of a client fits the books
pub record IsSoundClient (books : List Book) (c : ClientState) : Type 0 where
  pub tracks : c.config.tracks < length books
  pub window : (w : Span) → c.window ≡ Some w → w.from ≤ w.until
  pub fees : IsFeeTable c.config.fees
  pub rising : IsStrictlyIncreasing c.stored
  pub recorded : AllByRecursion (IsRecorded (book_at books c.config.tracks)) c.stored
  pub updates : (b : OpenBatch) → c.batch ≡ Some b → AllByRecursion (λ (u : Update). IsRecorded (book_at books c.config.tracks) u.height) b.updates
  pub apart : (b : OpenBatch) → c.batch ≡ Some b → Up AreApart b.messages

-- how things stand is sound
pub record IsSound (s : Standing) : Type 0 where
  pub window : (w : Span) → s.window ≡ Some w → w.from ≤ w.until
  pub books : AllByRecursion IsBook s.books
  pub clients : AllByRecursion (IsSoundClient s.books) s.clients
  pub paths : AllByRecursion IsSoundPath s.paths

-- ---- lists

all_read : {X : Type 0} (P : X → Type 0) (xs : List X) (i : ℕ) (d : X) → P d → AllByRecursion P xs → P (get_or xs i d)
all_read P [] i d p all = p
all_read P (x ∷ xs) zero d p all = all.0
all_read P (x ∷ xs) (suc i) d p all = all_read P xs i d p all.1

empty_is_book : (limit : ℕ) → (1 ≤ limit) × (limit ≤ 4096) → IsBook (empty_book limit)
empty_is_book limit within = record {
  records = record { heights = λ k lt. absurd (omega arith); times = λ k lt. absurd (omega arith) };
  headers = λ k lt. absurd (omega arith);
  hashes = λ k j d before lt. absurd (omega arith);
  sets = λ k d lt. absurd (omega arith);
  backed = λ k d lt. absurd (omega arith);
  limit = within;
  few_records = omega arith;
  few_sets = omega arith;
  few_addresses = omega arith;
}

pub book_sound : (books : List Book) (n : ℕ) → AllByRecursion IsBook books → IsBook (book_at books n)
book_sound books n all = all_read IsBook books n (empty_book 1) (empty_is_book 1 (omega arith, omega arith)) all

-- ---- a book changes

Keeps : Book → Book → Type 0
Keeps b c = (height : ℕ) → IsRecorded b height → IsRecorded c height

keeps_at : (books : List Book) (chain : ℕ) (b : Book) → Keeps (book_at books chain) b → (n : ℕ) → Keeps (book_at books n) (book_at (set books chain b) n)
unfolding Keeps
keeps_at books chain b keeps n height is = elim (cases_eq n chain) [
  | inr other ↦ subst (λ (x : Book). IsRecorded x height) (sym (get_or-set_other books chain n b (empty_book 1) other)) is
  | inl same ↦ elim (cases_lt chain (length books)) [
    | inl within ↦
        subst (λ (x : Book). IsRecorded x height) (sym (ap (λ m. book_at (set books chain b) m) same ∙ get_or-set_same books chain b (empty_book 1) within))
        (keeps height (subst (λ m. IsRecorded (book_at books m) height) same is))
    | inr past ↦ subst (λ (bs : List Book). IsRecorded (book_at bs n) height) (sym (set_past books chain b past)) is
  ]
]

client_kept : (books other : List Book) (c : ClientState) → length other ≡ length books → ((n : ℕ) → Keeps (book_at books n) (book_at other n)) → IsSoundClient books c → IsSoundClient other c
unfolding Keeps
client_kept books other c long keeps is = record {
  tracks = subst (λ n. c.config.tracks < n) (sym long) is.tracks;
  window = is.window;
  fees = is.fees;
  rising = is.rising;
  recorded = all_weaker (IsRecorded (book_at books c.config.tracks)) (IsRecorded (book_at other c.config.tracks)) (keeps c.config.tracks) c.stored is.recorded;
  updates = λ b e. all_weaker (λ (u : Update). IsRecorded (book_at books c.config.tracks) u.height) (λ u. IsRecorded (book_at other c.config.tracks) u.height) (λ u. keeps c.config.tracks u.height) b.updates (is.updates b e);
  apart = is.apart;
}

with_book_sound : (s : Standing) (chain : ℕ) (b : Book) → IsSound s → IsBook b → Keeps (book_at s.books chain) b → IsSound (with_book s chain b)
with_book_sound s chain b sound book keeps = record {
  window = sound.window;
  books = all_set IsBook s.books chain b book sound.books;
  clients = all_weaker (IsSoundClient s.books) (IsSoundClient (set s.books chain b)) (λ c. client_kept s.books (set s.books chain b) c (length-set s.books chain b) (keeps_at s.books chain b keeps)) s.clients sound.clients;
  paths = sound.paths;
}

with_client_sound : (s : Standing) (place : ℕ) (f : ClientState → ClientState) → IsSound s → ((c : ClientState) → slice_get s.clients place ≡ Some c → IsSoundClient s.books c → IsSoundClient s.books (f c)) → IsSound (with_client s place f)
with_client_sound s place f sound one = record { window = sound.window; books = sound.books; clients = all_changed (IsSoundClient s.books) f s.clients place one sound.clients; paths = sound.paths }

with_path_sound : (s : Standing) (place : ℕ) (f : PathState → PathState) → IsSound s → ((p : PathState) → slice_get s.paths place ≡ Some p → IsSoundPath p → IsSoundPath (f p)) → IsSound (with_path s place f)
with_path_sound s place f sound one = record { window = sound.window; books = sound.books; clients = sound.clients; paths = all_changed IsSoundPath f s.paths place one sound.paths }

-- ---- what is added to a book

some_if : (b : Bool) (r : Record) (o : Option Record) → IsSome o → IsSome (cond b (Some r) o)
some_if true r o is = refl
some_if false r o is = is

module _ (finds : FindsWhatWasAdded) where
  keeps_set : (b : Book) (x : List Member) → Keeps b (after_set b x)
  unfolding Keeps
  keeps_set b x height is = go (is_some (set_of b (set_hash x)))
    where
      go : (t : Bool) → IsRecorded (cond t b (with_set b x)) height
      go true = is
      go false = is

  keeps_record : (b : Book) (height : ℕ) (r : Record) → IsBook b → record_refusal b height r ≡ None → Keeps b (after_record b height r)
  unfolding Keeps
  keeps_record b height r book ok q is = subst (λ o. IsSome o) (sym ((finds b book).1 height r ok q)) (some_if (eqb q height) r (record_at b q) is)

  now_recorded : (b : Book) (height : ℕ) (r : Record) → IsBook b → record_refusal b height r ≡ None → IsRecorded (after_record b height r) height
  now_recorded b height r book ok =
      subst (λ o. IsSome o) (sym ((finds b book).1 height r ok height ∙ ap (λ t. cond t (Some r) (record_at b height)) (eq-eqb height height refl))) refl

  keeps_header : (b : Book) (h : Header) → IsBook b → header_refusal b h ≡ None → Keeps b (after_header b h)
  unfolding Keeps
  keeps_header b h book ok q is = subst (λ o. IsSome o) (sym ((finds b book).2 h ok q).1) (some_if (eqb q h.height) h.record_of (record_at b q) is)

-- ---- heights that are stored

one_stored : (books : List Book) (c : ClientState) (height : ℕ) → IsSoundClient books c → IsRecorded (book_at books c.config.tracks) height → IsSoundClient books (record c { stored = with_height height c.stored })
one_stored books c height is recorded = record {
  tracks = is.tracks;
  window = is.window;
  fees = is.fees;
  rising = height_rises height c.stored is.rising;
  recorded = all_height (IsRecorded (book_at books c.config.tracks)) height c.stored recorded is.recorded;
  updates = is.updates;
  apart = is.apart;
}

abbrev stored_after : List ℕ → List Update → List ℕ
stored_after heights us = fold (λ heights (u : Update). with_height u.height heights) heights us

all_stored : (books : List Book) (c : ClientState) (us : List Update) → IsSoundClient books c → AllByRecursion (λ (u : Update). IsRecorded (book_at books c.config.tracks) u.height) us
    → IsSoundClient books (record c { stored = stored_after c.stored us })
all_stored books c [] is all = is
all_stored books c (u ∷ us) is all = all_stored books (record c { stored = with_height u.height c.stored }) us (one_stored books c u.height is all.0) all.1

closed_sound : (books : List Book) (c : ClientState) → IsSoundClient books c → IsSoundClient books (record c { batch = None })
closed_sound books c is = record { tracks = is.tracks; window = is.window; fees = is.fees; rising = is.rising; recorded = is.recorded; updates = λ b e. absurd (none-some b e); apart = λ b e. absurd (none-some b e) }

-- ---- views

pub client_view_sound : (s : Standing) (window : Span) (c : ClientState) → IsSound s → s.window ≡ Some window → IsSoundClient s.books c → IsView (view_of (task_of window s.books [] c))
client_view_sound s window c sound is_window is = record {
  stored = record { rising = is.rising; recorded = All-from_recursion (IsRecorded (book_at s.books c.config.tracks)) c.stored is.recorded };
  window = window_ends window c (sound.window window is_window) is.window;
  fees = is.fees;
  book = book_sound s.books c.config.tracks sound.books;
}

-- the heights of acceptable updates are recorded
runs_recorded : (v : View) → IsOrderly (client_of v) → (us : List Update) (stored : List ℕ) → Runs (client_of v) stored us → AllByRecursion (λ (u : Update). IsRecorded v.book u.height) us
unfolding client_of
runs_recorded v orderly [] stored runs = tt
runs_recorded v orderly (u ∷ us) stored runs = (live (record_at v.book u.height) (orderly.stores_live u.trusted u.height runs.1), runs_recorded v orderly us (u.height ∷ stored) runs.2)
  where
    live : (o : Option Record) → IsSomeAnd o (λ r. v.window.until < r.time + v.options.period) → IsSome o
    live None h = absurd h
    live (Some r) h = refl

-- ---- every event

module _ (finds : FindsWhatWasAdded) (stays : StaysABook) (orderly : ViewsAreOrderly) where
  -- a right answer for a client as things stand leaves it sound
  pub answer_sound : (s : Standing) (window : Span) (client : ℕ) (c : ClientState) (answer : Option Answer) → IsSound s → s.window ≡ Some window → IsSoundClient s.books c
      → IsAnswer (task_in s window client c) answer → IsSoundClient s.books (with_batch c (batch_opened c answer))
  answer_sound s window client c answer sound is_window sound_c right = go (batch_opened c answer) refl
    where
      go : (o : Option OpenBatch) → batch_opened c answer ≡ o → IsSoundClient s.books (with_batch c o)
      go None e = record { tracks = sound_c.tracks; window = sound_c.window; fees = sound_c.fees; rising = sound_c.rising; recorded = sound_c.recorded; updates = λ b f. absurd (none-some b f); apart = λ b f. absurd (none-some b f) }
      go (Some b) e = record {
        tracks = sound_c.tracks;
        window = sound_c.window;
        fees = sound_c.fees;
        rising = sound_c.rising;
        recorded = sound_c.recorded;
        updates = λ b' f.
            let same : b ≡ b' = same_Some b b' f in
            let t = task_in s window client c in
            let v : View = view_of t in
            let view : IsView v = client_view_sound s window c sound is_window sound_c in
            let o = opens (c.batches + 1) answer b e in
            let planned : IsPlanned t o.planned = subst (IsAnswer t) o.is_planned right in
            let plan : IsPlan t planned.reach o.planned.goal o.plan = subst (λ p. MatchOption p (IsUnreachable (client_of v) o.planned.goal) (IsPlan t planned.reach o.planned.goal)) o.is_plan planned.plan in
            let recorded = runs_recorded v (orderly v view) o.plan.updates (client_of v).stored plan.least.acceptable in
            subst (AllByRecursion (λ (u : Update). IsRecorded (book_at s.books c.config.tracks) u.height)) (sym (ap (λ (y : OpenBatch). y.updates) (sym same ∙ o.is))) recorded;
        apart = λ b' f.
            let same : b ≡ b' = same_Some b b' f in
            let o = opens (c.batches + 1) answer b e in
            let t = task_in s window client c in
            let planned : IsPlanned t o.planned = subst (IsAnswer t) o.is_planned right in
            let plan : IsPlan t planned.reach o.planned.goal o.plan = subst (λ p. MatchOption p (IsUnreachable (client_of (view_of t)) o.planned.goal) (IsPlan t planned.reach o.planned.goal)) o.is_plan planned.plan in
            let ready = ready_at t planned.reach plan.proof in
            subst (Up AreApart) (sym ready.are ∙ sym plan.messages ∙ sym (ap (λ (y : OpenBatch). y.messages) (sym same ∙ o.is)))
            (messages_apart s (λ n p at_n. Up-from_increasing (λ (q : Packet). q.sequence) p.packets (all_at IsSoundPath s.paths n p sound.paths at_n).rising) client t ready.height);
      }

  plan_sound : (s : State) (d : Draft) → IsSound s.standing → IsDraft d → refusal_of s (Planned d) ≡ None → IsSound (changed s.standing (Planned d))
  plan_sound s d sound is ok =
      let x = drafted s d ok in
      with_client_sound s.standing d.job.client (after_answer d.answer) sound (λ c at sound_c.
      let known : x.known ≡ c = same_Some x.known c (sym x.is_known ∙ at) in
      answer_sound s.standing x.window d.job.client c d.answer sound x.is_window sound_c
      (subst (λ t. IsAnswer t d.answer) (x.task ∙ ap (λ k. task_in s.standing x.window d.job.client k) known) is.answer))

  settle_sound : (s : State) (client number done : ℕ) → IsSound s.standing → refusal_of s (Settled client number done) ≡ None → IsSound (changed s.standing (Settled client number done))
  settle_sound s client number done sound ok =
      let x = settling s client number done ok in
      subst IsSound (sym x.changed_is) (record {
        window = sound.window;
        books = sound.books;
        clients = all_changed (IsSoundClient s.standing.books) (after_batch x.batch done) s.standing.clients client
            (λ c at is.
            let same : x.known ≡ c = same_Some x.known c (sym x.is_known ∙ at) in
            let us = settled_updates x.batch done in
            let recorded = all_take (λ (u : Update). IsRecorded (book_at s.standing.books c.config.tracks) u.height) _ x.batch.updates (is.updates x.batch (ap (λ (k : ClientState). k.batch) (sym same) ∙ x.is_open)) in
            closed_sound s.standing.books (record c { stored = stored_after c.stored us }) (all_stored s.standing.books c us is recorded)) sound.clients;
        paths = messages_sound (settled_messages x.batch done) s.standing.paths sound.paths;
      })

  stored_sound : (s : Standing) (client height : ℕ) (r : Record) → IsSound s → record_refusal (book_at s.books (tracked s.clients client)) height r ≡ None → IsSound (changed s (StoredSeen client height r))
  stored_sound s client height r sound ok =
      let chain = tracked s.clients client in
      let book = book_sound s.books chain sound.books in
      let b = after_record (book_at s.books chain) height r in
      let there = with_book_sound s chain b sound ((stays (book_at s.books chain) book).1 height r ok) (keeps_record finds (book_at s.books chain) height r book ok) in
      with_client_sound (with_book s chain b) client (λ c. record c { stored = with_height height c.stored }) there (λ c at is.
      let its : chain ≡ c.config.tracks = ap (λ o. option_map_or (λ (k : ClientState). k.config.tracks) o 0) at in
      let within : chain < length s.books = subst (λ n. n < length s.books) (sym its) (subst (λ n. c.config.tracks < n) (length-set s.books chain b) is.tracks) in
      one_stored (set s.books chain b) c height is
      (subst (λ (x : Book). IsRecorded x height) (sym (ap (book_at (set s.books chain b)) (sym its) ∙ get_or-set_same s.books chain b (empty_book 1) within)) (now_recorded finds (book_at s.books chain) height r book ok)))

  sent_sound : (s : State) (path sequence : ℕ) (block : Block) (timeout_height timeout_time : Option ℕ) → IsSound s.standing → refusal_of s (Sent path sequence block timeout_height timeout_time) ≡ None
      → IsSound (changed s.standing (Sent path sequence block timeout_height timeout_time))
  sent_sound s path sequence block timeout_height timeout_time sound ok =
      let judged_is = judged_none s (Sent path sequence block timeout_height timeout_time) ok in
      with_path_sound s.standing path (with_packet (new_packet sequence block timeout_height timeout_time)) sound (λ p at is.
      let v = view_of_path s.standing.books p in
      let fits : sent_refusal v sequence ≡ None = ap (λ o. option_and_then (λ v. sent_refusal v sequence) (option_map (view_of_path s.standing.books) o)) (sym at) ∙ judged_is in
      packet_sound s.standing.books p (new_packet sequence block timeout_height timeout_time) fits is)

  mark_event : (s : Standing) (path sequence : ℕ) (f : Packet → Packet) → ((q : Packet) → (f q).sequence ≡ q.sequence) → IsSound s → IsSound (with_path s path (with_mark f sequence))
  mark_event s path sequence f same sound = with_path_sound s path (with_mark f sequence) sound (λ p at is. mark_sound f same sequence p is)

  pub step_sound : (s : State) (e : Event) → IsSound s.standing → IsEvent e → refusal_of s e ≡ None → IsSound (changed s.standing e)
  step_sound s (Window window) sound is ok =
      record { window = λ w e. subst (λ (x : Span). x.from ≤ x.until) (same_Some window w e) is; books = sound.books; clients = sound.clients; paths = sound.paths }
  step_sound s (HostWindow host window) sound is ok = record {
    window = sound.window;
    books = sound.books;
    clients = all_mapped (IsSoundClient s.standing.books) (in_host_window host window)
        (λ c x. in_host_by (IsSoundClient s.standing.books) host window c
        (record { tracks = x.tracks; window = λ w e. subst (λ (y : Span). y.from ≤ y.until) (same_Some window w e) is; fees = x.fees; rising = x.rising; recorded = x.recorded; updates = x.updates; apart = x.apart }) x)
        s.standing.clients sound.clients;
    paths = sound.paths;
  }
  step_sound s (Asked client goal) sound is ok = with_client_sound s.standing client _ sound (λ c at x. record { tracks = x.tracks; window = x.window; fees = x.fees; rising = x.rising; recorded = x.recorded; updates = x.updates; apart = x.apart })
  step_sound s (SetSeen chain x) sound is ok =
      let b = book_at s.standing.books chain in
      let fits = set_accepted b x (judged_none s (SetSeen chain x) ok) in
      with_book_sound s.standing chain (after_set b x) sound ((stays b (book_sound s.standing.books chain sound.books)).0 x is fits) (keeps_set finds b x)
  step_sound s (HeaderSeen chain header) sound is ok =
      let b = book_at s.standing.books chain in
      let book = book_sound s.standing.books chain sound.books in
      let fits = header_accepted b header (judged_none s (HeaderSeen chain header) ok) in
      with_book_sound s.standing chain (after_header b header) sound ((stays b book).2 header fits) (keeps_header finds b header book fits)
  step_sound s (StoredSeen client height r) sound is ok =
      stored_sound s.standing client height r sound (record_accepted (book_at s.standing.books (tracked s.standing.clients client)) height r (judged_none s (StoredSeen client height r) ok))
  step_sound s (Sent path sequence block timeout_height timeout_time) sound is ok = sent_sound s path sequence block timeout_height timeout_time sound ok
  step_sound s (Received path sequence block) sound is ok = mark_event s.standing path sequence _ (λ q. refl) sound
  step_sound s (AckWritten path sequence block) sound is ok = mark_event s.standing path sequence _ (λ q. refl) sound
  step_sound s (Cleared path sequence) sound is ok = mark_event s.standing path sequence _ (λ q. refl) sound
  step_sound s (Closed path) sound is ok = with_path_sound s.standing path _ sound (λ p at x. record { rising = x.rising; from_first = x.from_first })
  step_sound s (Scanned path scan) sound is ok = sound
  step_sound s (Planned d) sound is ok = plan_sound s d sound is ok
  step_sound s (Settled client number done) sound is ok = settle_sound s client number done sound ok

  event_sound : (s : State) (e : Event) → IsSound s.standing → IsEvent e → IsSound (after s e).standing
  event_sound s e sound is = go (refusal_of s e) refl
    where
      go : (o : Option Refusal) → refusal_of s e ≡ o → IsSound (if is_some o then s else accepted s e).standing
      go None ok = step_sound s e sound is ok
      go (Some r) refused = sound

  pub events_sound : (s : State) (es : List Event) → IsSound s.standing → AllByRecursion IsEvent es → IsSound (fold after s es).standing
  events_sound s [] sound are = sound
  events_sound s (e ∷ es) sound are = events_sound (after s e) es (event_sound s e sound are.0) are.1

  -- ---- before the first event

  new_clients : (config : Config) (books : List Book) (cs : List ClientConfig) → length books ≡ length config.chains → AllByRecursion (IsClient (length config.chains)) cs → AllByRecursion (λ (c : ClientConfig). IsFeeTable c.fees) cs → AllByRecursion (IsSoundClient books) (map new_client cs)
  new_clients config books [] long all fees = tt
  new_clients config books (c ∷ cs) long all fees = (
    record { tracks = subst (λ n. c.tracks < n) (sym long) all.0.tracks; window = λ w e. absurd (none-some w e); fees = fees.0; rising = λ k lt. absurd (omega arith); recorded = tt; updates = λ b e. absurd (none-some b e); apart = λ b e. absurd (none-some b e) },
    new_clients config books cs long all.1 fees.1,
  )

  new_books : (n limit : ℕ) → (1 ≤ limit) × (limit ≤ 4096) → AllByRecursion IsBook (replicate n (empty_book limit))
  new_books zero limit within = tt
  new_books (suc n) limit within = (empty_is_book limit within, new_books n limit within)

  pub opening_sound : (config : Config) → IsSetUp config → IsSound (opening config).standing
  opening_sound config is = record {
    window = λ w e. absurd (none-some w e);
    books = new_books (length config.chains) config.limit is.rules.limit;
    clients = new_clients config (opening_standing config).books config.clients (length-replicate (length config.chains) (empty_book config.limit)) (recursion_from_All (IsClient (length config.chains)) config.clients is.rules.clients) (recursion_from_All (λ (c : ClientConfig). IsFeeTable c.fees) config.clients is.fees);
    paths = new_sound config.paths;
  }
