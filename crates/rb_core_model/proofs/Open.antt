-- What is true of the open batches after every list of events.
use Rattle.std.proofs.Common.{◌≡◌, ◌⊎◌, ℕ, zero, suc, ◌+◌, ◌<◌, ◌≤◌, Bool, true, false, cond, eqb, not, List, [], ◌∷◌, length, map, Option, Some, None, IfSome, is_some, refl, sym, ap, ◌∙◌, subst, inl, inr, arith, if◌then◌else◌, add-zero}
use Rattle.std.specs.List.{find, fold, slice_get, filter_map, flat_map, cons_option, enumerate_from, AllByRecursion}
use Rattle.std.specs.Option.{option_map, option_map_or, option_and_then, MatchOption, IsSomeAnd}
use Rattle.std.proofs.lemmas.Bool.{cases_Bool, eqb-true, ltb-true, not-false}
use Rattle.std.proofs.lemmas.Option.{none-some, same_Some, slice_get-map}
use Rattle.rb_plan_types.specs.Least.{IsUnreachable}
use Rattle.rb_scan.specs.Laws.{SettledIsNotOwed}
use Rattle.rb_scan.specs.Owed.{expires_for, since_for, timeout_for, floor_of, message_of, messages, owed_part, ready}
use Rattle.rb_scan.specs.Packet.{Packet}
use Rattle.rb_scan.specs.Path.{Path}
use Rattle.rb_scan.specs.declared.message.Kind.{Kind}
use Rattle.rb_scan.specs.declared.message.Kind.TheVariants.{Receive, Acknowledge, Timeout}
use Rattle.rb_scan.specs.declared.message.PacketMsg.{PacketMsg}
use Rattle.rb_scan.specs.declared.path.Order.{Order}
use Rattle.rb_base.specs.declared.gate.Part.{Part}
use Rattle.rb_base.specs.declared.gate.Part.TheVariants.{Packets, Channel}
use Rattle.rb_step.specs.View.{client_of}
use Rattle.rb_script_types.specs.Config.{Config}
use Rattle.rb_script_types.specs.declared.config.ClientConfig.{ClientConfig}
use Rattle.rb_script_types.specs.declared.config.PathConfig.{PathConfig}
use Rattle.rb_core_model.proofs.HostWindows.{batch_in_host, get_mapped}
use Rattle.rb_core_model.specs.Config.{part_for}
use Rattle.rb_plan_client.specs.Draft.{IsPlan, IsPlanned, IsAnswer, Draft, IsDraft}
use Rattle.rb_core_model.specs.Event.{Event, IsEvent, Window, HostWindow, Asked, SetSeen, HeaderSeen, StoredSeen, Sent, Received, AckWritten, Cleared, Closed, Scanned, Planned, Settled}
use Rattle.rb_core_model.specs.Machine.{State, opening, knows_client, is_known, refusal_beside, refusal_of, accepted, after}
use Rattle.rb_script_types.specs.declared.refusal.Refusal.{Refusal}
use Rattle.rb_script_types.specs.declared.refusal.Refusal.TheVariants.{UnknownObject, LogFull, Repeat, OutOfOrder}
use Rattle.rb_core_model.specs.Standing.{OpenBatch, ClientState, PathState, Standing, opening_standing, new_path, new_client, view_of_path, owed_at, path_task, path_tasks, task_in, judged, changed, changed_at, with_packet, with_mark, new_packet, batch_opened, with_batch, after_answer, open_batch, settled_refusal, settled_refusal_of, settled_messages, after_batch, after_messages, after_settled, sent_refusal, with_height, batch_open, in_host_window}
use Rattle.rb_plan_client.specs.Task.{Task, PathTask, Message, view_of, message_on, going_on, ready_on}
use Rattle.rb_core_model.proofs.Drafted.{IsDrafted, drafted}
use Rattle.rb_core_model.proofs.Marks.{all_at, all_take, all_weaker, has, part_of, is_settled, mark_in, mark_at, keeps_marked, keeps_packet, KeepsPaths, keeps_all, keeps_changed, IsAbout, all_grow, all_others, configs_messages}
use Rattle.rb_core_model.proofs.Options.{passes, mapped, chained, none_from, get_changed}
use Rattle.rb_core_model.proofs.Owed.{IsFound, append_all, found_sequence, owed_all, ready_all, going_all}
use Rattle.rb_core_model.proofs.Over.{rising_found}
use Rattle.rb_core_model.proofs.Paths.{IsSoundPath, first_of, firsts_messages, firsts_changed, messages_sound, paths_sound, new_sound}
use Rattle.rb_core_model.proofs.AtHeight.{ready_at}
use Rattle.rb_core_model.proofs.Right.{opens}

-- ---- the clients of a path

owner : PathConfig → Part → ℕ
owner c Packets = c.forward
owner c Channel = c.back

owner_is : (c : PathConfig) (client : ℕ) (part : Part) → part_for c client ≡ Some part → owner c part ≡ client
unfolding owner
owner_is c client part e = go (eqb c.forward client) refl (eqb c.back client) refl part e
  where
    go : (a : Bool) → eqb c.forward client ≡ a → (b : Bool) → eqb c.back client ≡ b → (part : Part) → cond a (Some Packets) (cond b (Some Channel) None) ≡ Some part → owner c part ≡ client
    go true p b q Packets f = eqb-true c.forward client p
    go true p b q Channel f = absurd (cc)
    go false p true q Packets f = absurd (cc)
    go false p true q Channel f = eqb-true c.back client q
    go false p false q part f = absurd (none-some part f)

pub one_client : (c : PathConfig) (client other : ℕ) (part : Part) → part_for c client ≡ Some part → part_for c other ≡ Some part → client ≡ other
one_client c client other part e f = sym (owner_is c client part e) ∙ owner_is c other part f

-- ---- what is kept

-- the message is for the client
abbrev pub IsFor : Config → ℕ → Message → Type 0
IsFor config client m = (c : PathConfig) × (slice_get config.paths m.path ≡ Some c) × (part_for c client ≡ Some (part_of m.packet.kind))

-- its packet is there, and it isn't settled
abbrev pub IsUnsettled : List PathState → Message → Type 0
IsUnsettled paths m = mark_at paths m.path (part_of m.packet.kind) m.packet.sequence ≡ Some false

-- the sequence is below the first one of the path, if there is this path
abbrev pub IsBelow : List ℕ → ℕ → ℕ → Type 0
IsBelow firsts path sequence = IsSomeAnd (slice_get firsts path) (λ first. sequence < first)

-- the message was sent for the client; its packet is there and not settled, or was forgotten
abbrev pub IsNew : Config → List PathState → ℕ → Message → Type 0
IsNew config paths client m = IsFor config client m × IsUnsettled paths m

abbrev pub IsSent : Config → List PathState → ℕ → Message → Type 0
IsSent config paths client m = IsFor config client m × (IsUnsettled paths m ⊎ IsBelow (map first_of paths) m.path m.packet.sequence)

pub record HasInvariant (config : Config) (s : Standing) : Type 0 where
  pub configs : map (λ (p : PathState). p.config) s.paths ≡ config.paths
  pub sound : AllByRecursion IsSoundPath s.paths
  pub sent : (client : ℕ) (b : OpenBatch) → batch_open s client ≡ Some b → AllByRecursion (IsSent config s.paths client) b.messages

-- what is marked stays marked
abbrev pub Grows : Standing → Standing → Type 0
Grows s t = (path : ℕ) (part : Part) (sequence : ℕ) → mark_at s.paths path part sequence ≡ Some true → mark_at t.paths path part sequence ≡ Some true

-- a packet that was forgotten, and that no open batch has a message for
pub record IsGone (s : Standing) (path : ℕ) (part : Part) (sequence : ℕ) : Type 0 where
  pub below : IsBelow (map first_of s.paths) path sequence
  pub others : (client : ℕ) (b : OpenBatch) → batch_open s client ≡ Some b → AllByRecursion (λ m. IsAbout path part sequence m → ⊥) b.messages

-- stays so
abbrev pub StaysGone : Standing → Standing → Type 0
StaysGone s t = (path : ℕ) (part : Part) (sequence : ℕ) → IsGone s path part sequence → IsGone t path part sequence

pub record Steps (config : Config) (s t : Standing) : Type 0 where
  pub kept : HasInvariant config t
  pub grows : Grows s t
  pub gone : StaysGone s t

-- ---- events that leave the batches as they are

-- the clients' batches are as they were
abbrev SameBatches : Standing → Standing → Type 0
SameBatches s t = (client : ℕ) (b : OpenBatch) → batch_open t client ≡ Some b → batch_open s client ≡ Some b

-- paths whose first sequences and packets are sound, too
pub record KeepsSound (ps qs : List PathState) : Type 0 where
  pub keeps : KeepsPaths ps qs
  pub firsts : map first_of qs ≡ map first_of ps
  pub sound : AllByRecursion IsSoundPath qs

still_below : (ps qs : List PathState) (path sequence : ℕ) → map first_of qs ≡ map first_of ps → IsBelow (map first_of ps) path sequence → IsBelow (map first_of qs) path sequence
still_below ps qs path sequence firsts below = subst (λ fs. IsBelow fs path sequence) (sym firsts) below

by_paths : (config : Config) (s t : Standing) → HasInvariant config s → KeepsSound s.paths t.paths → SameBatches s t → Steps config s t
by_paths config s t kept all same = record {
  kept = record {
    configs = all.keeps.configs ∙ kept.configs;
    sound = all.sound;
    sent = λ client b e.
        all_weaker (IsSent config s.paths client) (IsSent config t.paths client) (λ m is. (is.0, still m is.1)) b.messages
        (kept.sent client b (same client b e));
  };
  grows = λ path part sequence e. all.keeps.marks path part sequence true e;
  gone = λ path part sequence is. record { below = still_below s.paths t.paths path sequence all.firsts is.below; others = λ client b e. is.others client b (same client b e) };
}
  where
    still : (m : Message) → IsUnsettled s.paths m ⊎ IsBelow (map first_of s.paths) m.path m.packet.sequence → IsUnsettled t.paths m ⊎ IsBelow (map first_of t.paths) m.path m.packet.sequence
    still m (inl unsettled) = inl (all.keeps.marks m.path (part_of m.packet.kind) m.packet.sequence false unsettled)
    still m (inr below) = inr (still_below s.paths t.paths m.path m.packet.sequence all.firsts below)

batches_mapped : (s t : Standing) (f : ClientState → ClientState) → ((c : ClientState) → (f c).batch ≡ c.batch) → t.clients ≡ map f s.clients → SameBatches s t
batches_mapped s t f same e client b stands =
    let found = chained (λ (c : ClientState). c.batch) (slice_get (map f s.clients) client) b (ap (λ cs. option_and_then (λ (c : ClientState). c.batch) (slice_get cs client)) (sym e) ∙ stands) in
    let before = get_mapped f s.clients client found.0 found.1 in
    ap (option_and_then (λ (c : ClientState). c.batch)) before.1 ∙ sym (same before.0) ∙ ap (λ (c : ClientState). c.batch) before.2 ∙ found.2

batches_changed : (s t : Standing) (place : ℕ) (f : ClientState → ClientState) → ((c : ClientState) → (f c).batch ≡ c.batch) → t.clients ≡ changed_at f s.clients place → SameBatches s t
batches_changed s t place f same e client b stands =
    let found = chained (λ (c : ClientState). c.batch) (slice_get (changed_at f s.clients place) client) b (ap (λ cs. option_and_then (λ (c : ClientState). c.batch) (slice_get cs client)) (sym e) ∙ stands) in
    let before = get_changed f s.clients place client found.0 found.1 in
    let is : found.0.batch ≡ before.0.batch = elim before.2 [ inl here ↦ ap (λ (c : ClientState). c.batch) here.1 ∙ same before.0 | inr other ↦ ap (λ (c : ClientState). c.batch) other.1 ] in
    ap (option_and_then (λ (c : ClientState). c.batch)) before.1 ∙ sym is ∙ found.2

-- an event that leaves what is marked, and the batches
by_event : (config : Config) (s : Standing) (e : Event) → HasInvariant config s → judged s e ≡ None → KeepsPaths s.paths (changed s e).paths → SameBatches s (changed s e) → Steps config s (changed s e)
by_event config s e kept ok keeps same = by_paths config s (changed s e) kept (record { keeps = keeps; firsts = firsts_changed s e; sound = paths_sound s e ok kept.sound }) same

-- a packet that is there isn't below
found_all : (P : Packet → Type 0) (t : Packet → Bool) (qs : List Packet) (q : Packet) → find t qs ≡ Some q → AllByRecursion P qs → P q
found_all P t [] q e all = absurd (none-some q e)
found_all P t (x ∷ qs) q e all = go (t x) e (λ f. found_all P t qs q f all.1)
  where
    go : (b : Bool) → cond b (Some x) (find t qs) ≡ Some q → (find t qs ≡ Some q → P q) → P q
    go true f rest = subst P (same_Some x q f) all.0
    go false f rest = rest f

pub not_below : (ps : List PathState) → AllByRecursion IsSoundPath ps → (path : ℕ) (part : Part) (sequence : ℕ) (b : Bool) → mark_at ps path part sequence ≡ Some b → IsBelow (map first_of ps) path sequence → ⊥
not_below ps sound path part sequence b marked_is below =
    let p = chained (λ (p : PathState). mark_in p.packets part sequence) (slice_get ps path) b marked_is in
    let q = mapped (is_settled part) (find (has sequence) p.0.packets) b p.2 in
    let above = found_all (λ (x : Packet). p.0.first ≤ x.sequence) (has sequence) p.0.packets q.0 q.1 (all_at IsSoundPath ps path p.0 sound p.1).from_first in
    let under : sequence < p.0.first = subst (λ o. IsSomeAnd o (λ first. sequence < first)) (slice_get-map first_of ps path ∙ ap (option_map first_of) p.1) below in
    let is : q.0.sequence ≡ sequence = found_sequence p.0.packets sequence q.0 q.1 in
    absurd (omega (arith, above, under, is))

-- ---- a packet that is sent is new

pub sent_new : (v : Path) (sequence : ℕ) → sent_refusal v sequence ≡ None → find (has sequence) v.packets ≡ None
sent_new v sequence e =
    let one = passes _ OutOfOrder _ e in
    let two = passes _ Repeat _ one.1 in
    none_from (find (has sequence) v.packets) two.0

-- ---- a plan opens a batch

is_open_settled : SettledIsNotOwed → (records : List (ℕ × ℕ)) (kind : Kind) (q : Packet) (m : PacketMsg) → message_of records kind q ≡ Some m → is_settled (part_of kind) q ≡ false
is_open_settled law records Receive q m e = elim (cases_Bool q.receive_settled) [ inl settled ↦ absurd (none-some m (sym ((law records q).0 settled).0 ∙ e)) | inr not_yet ↦ not_yet ]
is_open_settled law records Acknowledge q m e = elim (cases_Bool q.outcome_settled) [ inl settled ↦ absurd (none-some m (sym ((law records q).1 settled Acknowledge) ∙ e)) | inr not_yet ↦ not_yet ]
is_open_settled law records Timeout q m e = elim (cases_Bool q.outcome_settled) [ inl settled ↦ absurd (none-some m (sym ((law records q).1 settled Timeout) ∙ e)) | inr not_yet ↦ not_yet ]

sequence_of : (records : List (ℕ × ℕ)) (kind : Kind) (q : Packet) (m : PacketMsg) → message_of records kind q ≡ Some m → (m.kind ≡ kind) × (m.sequence ≡ q.sequence)
sequence_of records kind q m e =
    let is = mapped (λ (floor : ℕ). record { kind = kind; sequence = q.sequence; floor = floor; expires = expires_for kind q; since = since_for kind q; timeout = timeout_for kind q }) (floor_of records kind q) m e in
    (sym (ap (λ (x : PacketMsg). x.kind) is.2), sym (ap (λ (x : PacketMsg). x.sequence) is.2))

-- a message that a part owes is of that part, and its packet is there and not settled
abbrev IsOpen : List Packet → Part → PacketMsg → Type 0
IsOpen ps part m = (part_of m.kind ≡ part) × (mark_in ps part m.sequence ≡ Some false)

if_some : {X : Type 0} (P : X → Type 0) (o : Option X) → ((x : X) → o ≡ Some x → P x) → IfSome o P
if_some P None f = tt
if_some P (Some x) f = f x refl

module _ (law : SettledIsNotOwed) (v : Path) (all : AllByRecursion (IsFound v.packets) v.packets) where
  open_kind : (kind : Kind) → AllByRecursion (IsOpen v.packets (part_of kind)) (messages v kind)
  open_kind kind = owed_all (IsOpen v.packets (part_of kind)) v kind (λ q found. if_some (IsOpen v.packets (part_of kind)) (message_of v.destination kind q) (λ m e.
      let is = sequence_of v.destination kind q m e in (
        ap part_of is.0,
        ap (λ s. mark_in v.packets (part_of kind) s) is.1 ∙ ap (option_map (is_settled (part_of kind))) found ∙ ap (λ b. Some b) (is_open_settled law v.destination kind q m e),
      ))) (λ _. all)

  open_part : (part : Part) → AllByRecursion (IsOpen v.packets part) (owed_part v part)
  open_part Packets = open_kind Receive
  open_part Channel = append_all (IsOpen v.packets Channel) (messages v Acknowledge) (messages v Timeout) (open_kind Acknowledge) (open_kind Timeout)

module _ (law : SettledIsNotOwed) (config : Config) (s : Standing) (kept : HasInvariant config s) (client : ℕ) (u : Task) (reach : Option ℕ) where
  -- the messages of one path
  sent_on : (n : ℕ) (p : PathState) (order : Order) (part : Part) (t : PathTask) → slice_get s.paths n ≡ Some p → part_for p.config client ≡ Some part → t.path ≡ n → t.owed ≡ owed_at s n part
      → (ms : List PacketMsg) → AllByRecursion (IsOpen p.packets part) ms → AllByRecursion (IsNew config s.paths client) (map (message_on t) ms)
  sent_on n p order part t at for_client is owed [] all = tt
  sent_on n p order part t at for_client is owed (m ∷ ms) all =
      let place : slice_get config.paths n ≡ Some p.config =
      ap (λ cs. slice_get cs n) (sym kept.configs) ∙ slice_get-map (λ (q : PathState). q.config) s.paths n ∙ ap (option_map (λ (q : PathState). q.config)) at in
      let mark : mark_at s.paths n part m.sequence ≡ Some false = ap (option_and_then (λ (q : PathState). mark_in q.packets part m.sequence)) at ∙ all.0.1 in (
        (
          (p.config, ap (slice_get config.paths) is ∙ place, for_client ∙ ap (λ x. Some x) (sym all.0.0)),
          ap (λ k. mark_at s.paths k (part_of m.kind) m.sequence) is ∙ ap (λ x. mark_at s.paths n x m.sequence) all.0.0 ∙ mark,
        ),
        sent_on n p order part t at for_client is owed ms all.1,
      )

  owed_open : (n : ℕ) (p : PathState) (part : Part) → slice_get s.paths n ≡ Some p → AllByRecursion (IsOpen p.packets part) (owed_at s n part)
  owed_open n p part at =
      subst (λ o. AllByRecursion (IsOpen p.packets part) (option_map_or (λ v. owed_part v part) (option_map (view_of_path s.books) o) [])) (sym at)
      (open_part law (view_of_path s.books p) (rising_found p.packets (all_at IsSoundPath s.paths n p kept.sound at).rising) part)

  one_task_sent : (n : ℕ) (p : PathState) → slice_get s.paths n ≡ Some p → (o : Option Part) → part_for p.config client ≡ o → (rest : List PathTask)
      → AllByRecursion (IsNew config s.paths client) (flat_map (ready_on u reach) rest)
      → AllByRecursion (IsNew config s.paths client) (flat_map (ready_on u reach) (cons_option (option_map (λ part. record { path = n; order = p.config.order; gas = p.config.gas; waits = p.config.waits; owed = owed_at s n part }) o) rest))
  one_task_sent n p at None e rest all = all
  one_task_sent n p at (Some part) e rest all =
      let t : PathTask = record { path = n; order = p.config.order; gas = p.config.gas; waits = p.config.waits; owed = owed_at s n part } in
      append_all (IsNew config s.paths client) (ready_on u reach t) (flat_map (ready_on u reach) rest)
      (sent_on n p p.config.order part t at e refl refl (ready (going_on u t) p.config.order reach)
      (ready_all (IsOpen p.packets part) (going_on u t) p.config.order reach (going_all (IsOpen p.packets part) u t (owed_open n p part at)))) all

  all_sent : (n : ℕ) (rest : List PathState) → ((k : ℕ) (p : PathState) → slice_get rest k ≡ Some p → slice_get s.paths (n + k) ≡ Some p)
      → AllByRecursion (IsNew config s.paths client) (flat_map (ready_on u reach) (filter_map (path_task (owed_at s) client) (enumerate_from n rest)))
  all_sent n [] places = tt
  all_sent n (p ∷ rest) places =
      one_task_sent n p (ap (slice_get s.paths) (sym (add-zero n)) ∙ places 0 p refl) (part_for p.config client) refl (filter_map (path_task (owed_at s) client) (enumerate_from (n + 1) rest))
      (all_sent (n + 1) rest (λ k q e. let next : (n + 1) + k ≡ n + suc k = omega arith in ap (slice_get s.paths) next ∙ places (suc k) q e))

  ready_sent : AllByRecursion (IsNew config s.paths client) (flat_map (ready_on u reach) (path_tasks (owed_at s) s.paths client))
  ready_sent = all_sent 0 s.paths (λ k p e. let same : 0 + k ≡ k = omega arith in ap (slice_get s.paths) same ∙ e)

plan_sent : SettledIsNotOwed → (config : Config) (s : State) (d : Draft) (x : IsDrafted s d) (b : OpenBatch) → HasInvariant config s.standing → IsDraft d → batch_opened x.known d.answer ≡ Some b
    → AllByRecursion (IsNew config s.standing.paths d.job.client) b.messages
plan_sent law config s d x b kept is e =
    let t = task_in s.standing x.window d.job.client x.known in
    let o = opens (x.known.batches + 1) d.answer b e in
    let planned : IsPlanned t o.planned = subst (IsAnswer t) o.is_planned (subst (λ u. IsAnswer u d.answer) x.task is.answer) in
    let plan : IsPlan t planned.reach o.planned.goal o.plan = subst (λ p. MatchOption p (IsUnreachable (client_of (view_of t)) o.planned.goal) (IsPlan t planned.reach o.planned.goal)) o.is_plan planned.plan in
    let at = ready_at t planned.reach plan.proof in
    subst (AllByRecursion (IsNew config s.standing.paths d.job.client)) (sym at.are ∙ sym plan.messages ∙ sym (ap (λ (y : OpenBatch). y.messages) o.is))
    (ready_sent law config s.standing kept d.job.client t at.height)

opened_batch : (c : ClientState) (o : Option OpenBatch) → (with_batch c o).batch ≡ o
opened_batch c None = refl
opened_batch c (Some b) = refl

-- a batch that is open after a plan is new, or was open before
opened_by_plan : SettledIsNotOwed → (config : Config) (s : State) (d : Draft) → HasInvariant config s.standing → IsDraft d → refusal_of s (Planned d) ≡ None
    → (client : ℕ) (b : OpenBatch) → batch_open (changed s.standing (Planned d)) client ≡ Some b → AllByRecursion (IsNew config s.standing.paths client) b.messages ⊎ (batch_open s.standing client ≡ Some b)
opened_by_plan law config s d kept is e client b stands =
    let x = drafted s d e in
    let found = chained (λ (c : ClientState). c.batch) (slice_get (changed_at (after_answer d.answer) s.standing.clients d.job.client) client) b stands in
    let before = get_changed (after_answer d.answer) s.standing.clients d.job.client client found.0 found.1 in
    elim before.2 [
      | inl here ↦
          let known : before.0 ≡ x.known = same_Some before.0 x.known (sym before.1 ∙ ap (slice_get s.standing.clients) here.0 ∙ x.is_known) in
          let opened : batch_opened x.known d.answer ≡ Some b =
          sym (opened_batch x.known (batch_opened x.known d.answer)) ∙ ap (λ c. (after_answer d.answer c).batch) (sym known) ∙ ap (λ (c : ClientState). c.batch) (sym here.1) ∙ found.2 in
          inl (subst (λ n. AllByRecursion (IsNew config s.standing.paths n) b.messages) (sym here.0) (plan_sent law config s d x b kept is opened))
      | inr other ↦ inr (ap (option_and_then (λ (c : ClientState). c.batch)) before.1 ∙ ap (λ (c : ClientState). c.batch) (sym other.1) ∙ found.2)
    ]

-- a new message is for no packet that was forgotten
not_about : (config : Config) (s : Standing) → HasInvariant config s → (path : ℕ) (part : Part) (sequence : ℕ) → IsBelow (map first_of s.paths) path sequence
    → (client : ℕ) (m : Message) → IsNew config s.paths client m → IsAbout path part sequence m → ⊥
not_about config s kept path part sequence below client m new about =
    not_below s.paths kept.sound path part sequence false
    (subst (λ (k : ℕ × Part × ℕ). mark_at s.paths k.0 k.1 k.2 ≡ Some false) (λ i. (about.0 i, about.1 i, about.2 i)) new.1) below

plan_steps : SettledIsNotOwed → (config : Config) (s : State) (d : Draft) → HasInvariant config s.standing → IsDraft d → refusal_of s (Planned d) ≡ None
    → Steps config s.standing (changed s.standing (Planned d))
plan_steps law config s d kept is e = record {
  kept = record {
    configs = kept.configs;
    sound = kept.sound;
    sent = λ client b stands. elim (opened_by_plan law config s d kept is e client b stands) [
      | inl new ↦ all_weaker (IsNew config s.standing.paths client) (IsSent config s.standing.paths client) (λ m x. (x.0, inl x.1)) b.messages new
      | inr before ↦ kept.sent client b before
    ];
  };
  grows = λ path part sequence f. f;
  gone = λ path part sequence gone. record {
    below = gone.below;
    others = λ client b stands. elim (opened_by_plan law config s d kept is e client b stands) [
      | inl new ↦
          all_weaker (IsNew config s.standing.paths client) (λ m. IsAbout path part sequence m → ⊥) (not_about config s.standing kept path part sequence gone.below client) b.messages new
      | inr before ↦ gone.others client b before
    ];
  };
}

-- ---- a batch is settled

settled_open : (c : ClientState) (number done : ℕ) (o : Option OpenBatch) → settled_refusal_of c number done o ≡ None → (b : OpenBatch) × (o ≡ Some b)
settled_open c number done None e = absurd (none-some OutOfOrder (sym (passes _ Repeat (Some OutOfOrder) e).1))
settled_open c number done (Some b) e = (b, refl)

the_open : (c : ClientState) (number : ℕ) (b : OpenBatch) → open_batch c number ≡ Some b → c.batch ≡ Some b
the_open c number b e =
    let found = chained (λ (x : OpenBatch). if eqb x.number number then Some x else None) c.batch b e in
    found.1 ∙ go found.0 (eqb found.0.number number) found.2
  where
    go : (x : OpenBatch) (t : Bool) → cond t (Some x) None ≡ Some b → Some x ≡ Some b
    go x true f = f
    go x false f = absurd (none-some b f)

pub record IsSettling (s : State) (client number done : ℕ) : Type 0 where
  pub known : ClientState
  pub batch : OpenBatch
  pub is_known : slice_get s.standing.clients client ≡ Some known
  pub is_open : known.batch ≡ Some batch
  pub changed_is : changed s.standing (Settled client number done) ≡ after_settled s.standing client done (Some batch)

known_from : (s : State) (client : ℕ) → knows_client s client ≡ true → (c : ClientState) × (slice_get s.standing.clients client ≡ Some c)
known_from s client e = within s.standing.clients client (ltb-true client (length s.standing.clients) e)
  where
    within : (cs : List ClientState) (n : ℕ) → n < length cs → (c : ClientState) × (slice_get cs n ≡ Some c)
    within [] n lt = absurd (omega arith)
    within (c ∷ cs) zero lt = (c, refl)
    within (c ∷ cs) (suc n) lt = within cs n (omega arith)

pub settling : (s : State) (client number done : ℕ) → refusal_of s (Settled client number done) ≡ None → IsSettling s client number done
settling s client number done e =
    let one = passes (not (is_known s (Settled client number done))) UnknownObject _ e in
    let two = passes _ LogFull (judged s.standing (Settled client number done)) one.1 in
    let known = known_from s client (not-false (is_known s (Settled client number done)) one.0) in
    let judged_is : settled_refusal known.0 number done ≡ None = ap (option_and_then (λ c. settled_refusal c number done)) (sym known.1) ∙ two.1 in
    let b = settled_open known.0 number done (open_batch known.0 number) judged_is in
    record {
      known = known.0;
      batch = b.0;
      is_known = known.1;
      is_open = the_open known.0 number b.0 b.1;
      changed_is = ap (after_settled s.standing client done) (ap (option_and_then (λ c. open_batch c number)) known.1 ∙ b.1);
    }

-- messages of two clients are never about one part of one packet
pub apart : (config : Config) (client other : ℕ) (m : Message) → (client ≡ other → ⊥) → IsFor config client m → (ms : List Message) → AllByRecursion (IsFor config other) ms
    → AllByRecursion (λ n. IsAbout m.path (part_of m.packet.kind) m.packet.sequence n → ⊥) ms
apart config client other m ne mine [] theirs = tt
apart config client other m ne mine (n ∷ ms) theirs = (
  λ is. ne (
      let same : theirs.0.0 ≡ mine.0 = same_Some theirs.0.0 mine.0 (sym theirs.0.1 ∙ ap (slice_get config.paths) is.0 ∙ mine.1) in
      one_client mine.0 client other (part_of m.packet.kind) mine.2 (ap (λ c. part_for c other) (sym same) ∙ theirs.0.2 ∙ ap (λ x. Some x) is.1)),
  apart config client other m ne mine ms theirs.1,
)

-- a batch that is open after one was settled is another client's, and was open before
pub open_before : (s : Standing) (client done : ℕ) (batch : OpenBatch) (other : ℕ) (b : OpenBatch) → batch_open (after_settled s client done (Some batch)) other ≡ Some b
    → (other ≡ client → ⊥) × (batch_open s other ≡ Some b)
open_before s client done batch other b stands =
    let found = chained (λ (c : ClientState). c.batch) (slice_get (changed_at (after_batch batch done) s.clients client) other) b stands in
    let before = get_changed (after_batch batch done) s.clients client other found.0 found.1 in
    elim before.2 [
      | inl here ↦ absurd (none-some b (ap (λ (c : ClientState). c.batch) (sym here.1) ∙ found.2))
      | inr elsewhere ↦ (elsewhere.0, ap (option_and_then (λ (c : ClientState). c.batch)) before.1 ∙ ap (λ (c : ClientState). c.batch) (sym elsewhere.1) ∙ found.2)
    ]

settle_steps : (config : Config) (s : State) (client number done : ℕ) → HasInvariant config s.standing → refusal_of s (Settled client number done) ≡ None
    → Steps config s.standing (changed s.standing (Settled client number done))
settle_steps config s client number done kept e =
    let x = settling s client number done e in
    let ms = settled_messages x.batch done in
    let open_now : batch_open s.standing client ≡ Some x.batch = ap (option_and_then (λ (c : ClientState). c.batch)) x.is_known ∙ x.is_open in
    let theirs = all_weaker (IsSent config s.standing.paths client) (IsFor config client) (λ m is. is.0) ms (all_take (IsSent config s.standing.paths client) _ x.batch.messages (kept.sent client x.batch open_now)) in
    subst (Steps config s.standing) (sym x.changed_is) (record {
      kept = record {
        configs = configs_messages ms s.standing.paths ∙ kept.configs;
        sound = messages_sound ms s.standing.paths kept.sound;
        sent = λ other b stands.
            let before = open_before s.standing client done x.batch other b stands in
            all_weaker (IsSent config s.standing.paths other) (IsSent config (after_messages s.standing.paths ms) other)
            (λ m is. (is.0, still ms other m before.0 is.0 theirs is.1)) b.messages (kept.sent other b before.1);
      };
      grows = λ path part sequence f. all_grow ms s.standing.paths path part sequence f;
      gone = λ path part sequence is. record {
        below = still_below s.standing.paths (after_messages s.standing.paths ms) path sequence (firsts_messages ms s.standing.paths) is.below;
        others = λ other b stands. is.others other b (open_before s.standing client done x.batch other b stands).1;
      };
    })
  where
    still : (ms : List Message) (other : ℕ) (m : Message) → (other ≡ client → ⊥) → IsFor config other m → AllByRecursion (IsFor config client) ms
        → IsUnsettled s.standing.paths m ⊎ IsBelow (map first_of s.standing.paths) m.path m.packet.sequence
        → IsUnsettled (after_messages s.standing.paths ms) m ⊎ IsBelow (map first_of (after_messages s.standing.paths ms)) m.path m.packet.sequence
    still ms other m ne mine theirs (inl unsettled) =
        inl (all_others ms s.standing.paths m.path (part_of m.packet.kind) m.packet.sequence false (apart config other client m ne mine ms theirs) unsettled)
    still ms other m ne mine theirs (inr below) = inr (still_below s.standing.paths (after_messages s.standing.paths ms) m.path m.packet.sequence (firsts_messages ms s.standing.paths) below)

-- ---- every event

pub judged_none : (s : State) (e : Event) → refusal_of s e ≡ None → refusal_beside s e ≡ None
judged_none s e f = (passes _ LogFull (refusal_beside s e) (passes (not (is_known s e)) UnknownObject _ f).1).1

same_settled : (f : Packet → Packet) → ((q : Packet) → ((f q).receive_settled ≡ q.receive_settled) × ((f q).outcome_settled ≡ q.outcome_settled)) → (part : Part) (q : Packet) → is_settled part (f q) ≡ is_settled part q
same_settled f same Packets q = (same q).0
same_settled f same Channel q = (same q).1

pub steps : SettledIsNotOwed → (config : Config) (s : State) (e : Event) → HasInvariant config s.standing → IsEvent e → refusal_of s e ≡ None → Steps config s.standing (changed s.standing e)
steps law config s (Window window) kept is ok = by_event config s.standing (Window window) kept (judged_none s (Window window) ok) (keeps_all s.standing.paths) (λ client b e. e)
steps law config s (HostWindow host window) kept is ok = by_event config s.standing (HostWindow host window) kept (judged_none s (HostWindow host window) ok) (keeps_all s.standing.paths)
    (batches_mapped s.standing (changed s.standing (HostWindow host window)) (in_host_window host window) (batch_in_host host window) refl)
steps law config s (Asked client goal) kept is ok = by_event config s.standing (Asked client goal) kept refl (keeps_all s.standing.paths)
    (batches_changed s.standing (changed s.standing (Asked client goal)) client (λ c. record c { asked = Some goal }) (λ c. refl) refl)
steps law config s (SetSeen chain set) kept is ok = by_event config s.standing (SetSeen chain set) kept (judged_none s (SetSeen chain set) ok) (keeps_all s.standing.paths) (λ client b e. e)
steps law config s (HeaderSeen chain header) kept is ok = by_event config s.standing (HeaderSeen chain header) kept (judged_none s (HeaderSeen chain header) ok) (keeps_all s.standing.paths) (λ client b e. e)
steps law config s (StoredSeen client height r) kept is ok = by_event config s.standing (StoredSeen client height r) kept (judged_none s (StoredSeen client height r) ok) (keeps_all s.standing.paths)
    (batches_changed s.standing (changed s.standing (StoredSeen client height r)) client (λ c. record c { stored = with_height height c.stored }) (λ c. refl) refl)
steps law config s (Sent path sequence block timeout_height timeout_time) kept is ok =
    let judged_is = judged_none s (Sent path sequence block timeout_height timeout_time) ok in
    by_event config s.standing (Sent path sequence block timeout_height timeout_time) kept judged_is
    (keeps_changed (with_packet (new_packet sequence block timeout_height timeout_time)) s.standing.paths path (λ p. refl) (λ p at. keeps_packet (new_packet sequence block timeout_height timeout_time) p
    (sent_new (view_of_path s.standing.books p) sequence (ap (λ o. option_and_then (λ v. sent_refusal v sequence) (option_map (view_of_path s.standing.books) o)) (sym at) ∙ judged_is)))) (λ client b e. e)
steps law config s (Received path sequence block) kept is ok =
    by_event config s.standing (Received path sequence block) kept (judged_none s (Received path sequence block) ok)
    (keeps_changed (with_mark (λ q. record q { received = Some block }) sequence) s.standing.paths path (λ p. refl) (λ p at. keeps_marked (λ q. record q { received = Some block }) sequence (λ q. refl) (same_settled _ (λ q. (refl, refl))) p)) (λ client b e. e)
steps law config s (AckWritten path sequence block) kept is ok =
    by_event config s.standing (AckWritten path sequence block) kept (judged_none s (AckWritten path sequence block) ok)
    (keeps_changed (with_mark (λ q. record q { written = Some block.height; written_time = block.time }) sequence) s.standing.paths path (λ p. refl) (λ p at. keeps_marked (λ q. record q { written = Some block.height; written_time = block.time }) sequence (λ q. refl) (same_settled _ (λ q. (refl, refl))) p)) (λ client b e. e)
steps law config s (Cleared path sequence) kept is ok =
    by_event config s.standing (Cleared path sequence) kept (judged_none s (Cleared path sequence) ok)
    (keeps_changed (with_mark (λ q. record q { cleared = true }) sequence) s.standing.paths path (λ p. refl) (λ p at. keeps_marked (λ q. record q { cleared = true }) sequence (λ q. refl) (same_settled _ (λ q. (refl, refl))) p)) (λ client b e. e)
steps law config s (Closed path) kept is ok =
    by_event config s.standing (Closed path) kept (judged_none s (Closed path) ok)
    (keeps_changed (λ p. record p { closed = true }) s.standing.paths path (λ p. refl) (λ p at. record { config = refl; found = λ all. all; marks = λ part n b e. e })) (λ client b e. e)
steps law config s (Scanned path scan) kept is ok = by_event config s.standing (Scanned path scan) kept refl (keeps_all s.standing.paths) (λ client b e. e)
steps law config s (Planned d) kept is ok = plan_steps law config s d kept is ok
steps law config s (Settled client number done) kept is ok = settle_steps config s client number done kept ok

one_event : SettledIsNotOwed → (config : Config) (s : State) (e : Event) → HasInvariant config s.standing → IsEvent e → Steps config s.standing (after s e).standing
one_event law config s e kept is = go (refusal_of s e) refl
  where
    go : (o : Option Refusal) → refusal_of s e ≡ o → Steps config s.standing (if is_some o then s else accepted s e).standing
    go None ok = steps law config s e kept is ok
    go (Some r) refused = record { kept = kept; grows = λ path part sequence f. f; gone = λ path part sequence f. f }

pub all_events : SettledIsNotOwed → (config : Config) (s : State) (es : List Event) → HasInvariant config s.standing → AllByRecursion IsEvent es → Steps config s.standing (fold after s es).standing
all_events law config s [] kept are = record { kept = kept; grows = λ path part sequence f. f; gone = λ path part sequence f. f }
all_events law config s (e ∷ es) kept are =
    let one = one_event law config s e kept are.0 in
    let rest = all_events law config (after s e) es one.kept are.1 in
    record {
      kept = rest.kept;
      grows = λ path part sequence f. rest.grows path part sequence (one.grows path part sequence f);
      gone = λ path part sequence f. rest.gone path part sequence (one.gone path part sequence f);
    }

-- ---- before the first event

new_configs : (cs : List PathConfig) → map (λ (p : PathState). p.config) (map new_path cs) ≡ cs
new_configs [] = refl
new_configs (c ∷ cs) = ap (λ ds. c ∷ ds) (new_configs cs)

none_yet : (config : Config) (client : ℕ) → batch_open (opening_standing config) client ≡ None
none_yet config client = ap (option_and_then (λ (c : ClientState). c.batch)) (slice_get-map new_client config.clients client) ∙ go (slice_get config.clients client)
  where
    go : (o : Option ClientConfig) → option_and_then (λ (c : ClientState). c.batch) (option_map new_client o) ≡ None
    go None = refl
    go (Some c) = refl

pub kept_opening : (config : Config) → HasInvariant config (opening config).standing
kept_opening config = record {
  configs = new_configs config.paths;
  sound = new_sound config.paths;
  sent = λ client b e. absurd (none-some b (sym (none_yet config client) ∙ e));
}
