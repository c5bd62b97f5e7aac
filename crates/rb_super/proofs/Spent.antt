-- A message that is in the client's open batch, or settled, stays so.
use Rattle.std.proofs.Common.{◌≡◌, ◌⊎◌, ℕ, zero, suc, ◌+◌, ◌-◌, ◌≤◌, Bool, true, false, cond, eqb, List, [], ◌∷◌, length, map, take, Option, Some, None, is_some, refl, sym, ap, ◌∙◌, subst, inl, inr, arith, if◌then◌else◌}
use Rattle.std.specs.List.{find, fold, slice_get, sum_by, AllByRecursion}
use Rattle.std.specs.Option.{option_map, option_map_or, option_and_then}
use Rattle.std.proofs.lemmas.Bool.{cases_eq}
use Rattle.std.proofs.lemmas.List.{take_all}
use Rattle.std.proofs.lemmas.Option.{none-some, same_Some}
use Rattle.rb_batch.specs.declared.transaction.Transaction.{Transaction}
use Rattle.rb_scan.specs.Packet.{Packet}
use Rattle.rb_base.specs.declared.gate.Part.{Part}
use Rattle.rb_base.specs.declared.gate.Part.TheVariants.{Packets, Channel}
use Rattle.rb_script_types.specs.Config.{Config}
use Rattle.rb_script_types.specs.declared.script.Settlement.{Settlement}
use Rattle.rb_script_types.specs.declared.refusal.Refusal.{Refusal}
use Rattle.rb_plan_client.specs.Task.{Message}
use Rattle.rb_core_model.specs.Event.{Event, Window, HostWindow, Asked, Settled, Planned, SetSeen, HeaderSeen, StoredSeen, Sent, Received, AckWritten, Cleared, Closed, Scanned}
use Rattle.rb_core_model.specs.Standing.{OpenBatch, ClientState, PathState, Standing, view_of_path, open_batch, batch_open, judged, changed, changed_at, with_path, with_height, with_packet, with_mark, new_packet, marked, mark_of, sent_refusal, settled_messages, after_message, after_messages, after_batch, after_settled, standing_after, in_host_window}
use Rattle.rb_core_model.proofs.HostWindows.{batch_in_host}
use Rattle.rb_core_model.proofs.Marks.{has, part_of, is_settled, mark_in, mark_at, AllFound, KeepsPath, keeps_marked, keeps_packet, KeepsPaths, keeps_all, keeps_changed, find_map, marked_sequence, mark_of_sequence, all_grow, all_marked, found_messages}
use Rattle.rb_core_model.proofs.Open.{sent_new}
use Rattle.rb_core_model.proofs.Options.{mapped, chained, get_changed_same, get_changed_other}
use Rattle.rb_super_turn.specs.Script.{IsSeen}
use Rattle.rb_super_turn.specs.Turns.{settlement_event, after_settlement, after_taking}
use Rattle.rb_super.specs.Fewest.{MessageId, IsWholeFor, AreWholeFor}
use Rattle.rb_super.proofs.Members.{In, to_get}

-- ---- spent messages

-- whether the message is settled, if its packet is there
abbrev pub mark_for : List PathState → MessageId → Option Bool
mark_for ps i = mark_at ps i.path (part_of i.kind) i.sequence

abbrev pub IsNamed : MessageId → Message → Type 0
IsNamed i m = (m.path ≡ i.path) × (m.packet.kind ≡ i.kind) × (m.packet.sequence ≡ i.sequence)

-- its transactions carry all that a batch has
abbrev pub CarryAll : OpenBatch → Type 0
CarryAll b = sum_by (λ (t : Transaction). t.count) b.transactions ≡ length b.updates + length b.messages

-- the client's open batch has the message, and its packet is there
pub record IsOnItsWay (s : Standing) (client : ℕ) (i : MessageId) : Type 0 where
  pub batch : OpenBatch
  pub is_open : batch_open s client ≡ Some batch
  pub whole : CarryAll batch
  pub message : Message
  pub has : In batch.messages message
  pub named : IsNamed i message
  pub mark : Bool
  pub is_marked : mark_for s.paths i ≡ Some mark

abbrev pub IsSpent : Standing → ℕ → MessageId → Type 0
IsSpent s client i = IsOnItsWay s client i ⊎ (mark_for s.paths i ≡ Some true)

abbrev pub AreFound : Standing → Type 0
AreFound s = AllByRecursion AllFound s.paths

pub record Keeps (client : ℕ) (i : MessageId) (s t : Standing) : Type 0 where
  pub found : AreFound s → AreFound t
  pub spent : IsSpent s client i → IsSpent t client i

pub keeps_self : (client : ℕ) (i : MessageId) (s : Standing) → Keeps client i s s
keeps_self client i s = record { found = λ all. all; spent = λ is. is }

pub keeps_trans : (client : ℕ) (i : MessageId) (s t u : Standing) → Keeps client i s t → Keeps client i t u → Keeps client i s u
keeps_trans client i s t u one two = record { found = λ all. two.found (one.found all); spent = λ is. two.spent (one.spent is) }

-- ---- what is seen

by_paths : (client : ℕ) (i : MessageId) (s t : Standing) → KeepsPaths s.paths t.paths → ((b : OpenBatch) → batch_open s client ≡ Some b → batch_open t client ≡ Some b) → Keeps client i s t
by_paths client i s t keeps same = record { found = keeps.found; spent = go }
  where
    go : IsSpent s client i → IsSpent t client i
    go (inl x) = inl (record {
      batch = x.batch;
      is_open = same x.batch x.is_open;
      whole = x.whole;
      message = x.message;
      has = x.has;
      named = x.named;
      mark = x.mark;
      is_marked = keeps.marks i.path (part_of i.kind) i.sequence x.mark x.is_marked;
    })
    go (inr m) = inr (keeps.marks i.path (part_of i.kind) i.sequence true m)

one_path : (client : ℕ) (i : MessageId) (s : Standing) (path : ℕ) (f : PathState → PathState) → ((p : PathState) → (f p).config ≡ p.config)
    → ((p : PathState) → slice_get s.paths path ≡ Some p → KeepsPath p (f p)) → Keeps client i s (with_path s path f)
one_path client i s path f same one = by_paths client i s (with_path s path f) (keeps_changed f s.paths path same one) (λ b e. e)

-- a change of a client that leaves its batch
batch_stays : (f : ClientState → ClientState) → ((c : ClientState) → (f c).batch ≡ c.batch) → (cs : List ClientState) (place client : ℕ) (b : OpenBatch)
    → option_and_then (λ (c : ClientState). c.batch) (slice_get cs client) ≡ Some b → option_and_then (λ (c : ClientState). c.batch) (slice_get (changed_at f cs place) client) ≡ Some b
batch_stays f same cs place client b e =
    let was = chained (λ (c : ClientState). c.batch) (slice_get cs client) b e in
    elim (cases_eq client place) [
      | inl here ↦
          let there : slice_get cs place ≡ Some was.0 = ap (slice_get cs) (sym here) ∙ was.1 in
          ap (λ n. option_and_then (λ (c : ClientState). c.batch) (slice_get (changed_at f cs place) n)) here
          ∙ ap (option_and_then (λ (c : ClientState). c.batch)) (get_changed_same f cs place was.0 there) ∙ same was.0 ∙ was.2
      | inr other ↦ ap (option_and_then (λ (c : ClientState). c.batch)) (get_changed_other f cs place client other) ∙ e
    ]

-- a change of all clients that leaves their batches
batches_stay : (f : ClientState → ClientState) → ((c : ClientState) → (f c).batch ≡ c.batch) → (cs : List ClientState) (client : ℕ) (b : OpenBatch)
    → option_and_then (λ (c : ClientState). c.batch) (slice_get cs client) ≡ Some b → option_and_then (λ (c : ClientState). c.batch) (slice_get (map f cs) client) ≡ Some b
batches_stay f same [] client b e = e
batches_stay f same (c ∷ cs) zero b e = same c ∙ e
batches_stay f same (c ∷ cs) (suc client) b e = batches_stay f same cs client b e

-- neither a plan nor a settlement
abbrev pub IsEarly : Event → Type 0
IsEarly (Window window) = Unit {0}
IsEarly (HostWindow host window) = Unit {0}
IsEarly (Asked client goal) = Unit {0}
IsEarly (SetSeen chain set) = Unit {0}
IsEarly (HeaderSeen chain header) = Unit {0}
IsEarly (StoredSeen client height r) = Unit {0}
IsEarly (Sent path sequence block timeout_height timeout_time) = Unit {0}
IsEarly (Received path sequence block) = Unit {0}
IsEarly (AckWritten path sequence block) = Unit {0}
IsEarly (Cleared path sequence) = Unit {0}
IsEarly (Closed path) = Unit {0}
IsEarly (Scanned path scan) = Unit {0}
IsEarly (Planned d) = ⊥
IsEarly (Settled client number done) = ⊥

pub early : (config : Config) (e : Event) → IsSeen config e → IsEarly e
early config (Window window) is = tt
early config (HostWindow host window) is = tt
early config (Asked client goal) is = tt
early config (SetSeen chain set) is = tt
early config (HeaderSeen chain header) is = tt
early config (StoredSeen client height r) is = tt
early config (Sent path sequence block timeout_height timeout_time) is = tt
early config (Received path sequence block) is = tt
early config (AckWritten path sequence block) is = tt
early config (Cleared path sequence) is = tt
early config (Closed path) is = tt
early config (Scanned path scan) is = tt
early config (Planned d) is = is
early config (Settled client number done) is = is

pub same_settled : (f : Packet → Packet) → ((q : Packet) → ((f q).receive_settled ≡ q.receive_settled) × ((f q).outcome_settled ≡ q.outcome_settled)) → (part : Part) (q : Packet) → is_settled part (f q) ≡ is_settled part q
same_settled f same Packets q = (same q).0
same_settled f same Channel q = (same q).1

module _ (client : ℕ) (i : MessageId) where
  changed_keeps : (s : Standing) (e : Event) → IsEarly e → judged s e ≡ None → Keeps client i s (changed s e)
  changed_keeps s (Window window) is ok = by_paths client i s _ (keeps_all s.paths) (λ b e. e)
  changed_keeps s (HostWindow host window) is ok = by_paths client i s _ (keeps_all s.paths) (batches_stay (in_host_window host window) (batch_in_host host window) s.clients client)
  changed_keeps s (Asked place goal) is ok = by_paths client i s _ (keeps_all s.paths) (batch_stays (λ c. record c { asked = Some goal }) (λ c. refl) s.clients place client)
  changed_keeps s (SetSeen chain set) is ok = by_paths client i s _ (keeps_all s.paths) (λ b e. e)
  changed_keeps s (HeaderSeen chain header) is ok = by_paths client i s _ (keeps_all s.paths) (λ b e. e)
  changed_keeps s (StoredSeen place height r) is ok = by_paths client i s _ (keeps_all s.paths) (batch_stays (λ c. record c { stored = with_height height c.stored }) (λ c. refl) s.clients place client)
  changed_keeps s (Sent path sequence block timeout_height timeout_time) is ok =
      one_path client i s path (with_packet (new_packet sequence block timeout_height timeout_time)) (λ p. refl) (λ p at. keeps_packet (new_packet sequence block timeout_height timeout_time) p
      (sent_new (view_of_path s.books p) sequence (ap (λ o. option_and_then (λ v. sent_refusal v sequence) (option_map (view_of_path s.books) o)) (sym at) ∙ ok)))
  changed_keeps s (Received path sequence block) is ok =
      one_path client i s path (with_mark (λ q. record q { received = Some block }) sequence) (λ p. refl) (λ p at. keeps_marked (λ q. record q { received = Some block }) sequence (λ q. refl) (same_settled _ (λ q. (refl, refl))) p)
  changed_keeps s (AckWritten path sequence block) is ok =
      one_path client i s path (with_mark (λ q. record q { written = Some block.height; written_time = block.time }) sequence) (λ p. refl) (λ p at. keeps_marked (λ q. record q { written = Some block.height; written_time = block.time }) sequence (λ q. refl) (same_settled _ (λ q. (refl, refl))) p)
  changed_keeps s (Cleared path sequence) is ok =
      one_path client i s path (with_mark (λ q. record q { cleared = true }) sequence) (λ p. refl) (λ p at. keeps_marked (λ q. record q { cleared = true }) sequence (λ q. refl) (same_settled _ (λ q. (refl, refl))) p)
  changed_keeps s (Closed path) is ok =
      one_path client i s path (λ p. record p { closed = true }) (λ p. refl) (λ p at. record { config = refl; found = λ all. all; marks = λ part n b e. e })
  changed_keeps s (Scanned path scan) is ok = keeps_self client i s
  changed_keeps s (Planned d) is ok = absurd is
  changed_keeps s (Settled place number done) is ok = absurd is

  early_keeps : (s : Standing) (e : Event) → IsEarly e → Keeps client i s (standing_after s e)
  early_keeps s e is = go (judged s e) refl
    where
      go : (o : Option Refusal) → judged s e ≡ o → Keeps client i s (if is_some o then s else changed s e)
      go None ok = changed_keeps s e is ok
      go (Some r) refused = keeps_self client i s

  pub host_window_keeps : (s : Standing) (host : ℕ) (window : _) → Keeps client i s (standing_after s (HostWindow host window))
  host_window_keeps s host window = early_keeps s (HostWindow host window) tt

  pub window_keeps : (s : Standing) (window : _) → Keeps client i s (standing_after s (Window window))
  window_keeps s window = early_keeps s (Window window) tt

  pub asked_keeps : (s : Standing) (place : ℕ) (goal : _) → Keeps client i s (standing_after s (Asked place goal))
  asked_keeps s place goal = early_keeps s (Asked place goal) tt

  pub events_keep : (config : Config) (events : List Event) (s : Standing) → AllByRecursion (IsSeen config) events → Keeps client i s (fold standing_after s events)
  events_keep config [] s are = keeps_self client i s
  events_keep config (e ∷ events) s are =
      keeps_trans client i s (standing_after s e) (fold standing_after (standing_after s e) events)
      (early_keeps s e (early config e are.0)) (events_keep config events (standing_after s e) are.1)

-- ---- settlements

-- a packet that is there has a mark, whatever is settled
some_message : (m : Message) (ps : List PathState) (path : ℕ) (part : Part) (s : ℕ) (b : Bool) → mark_at ps path part s ≡ Some b → (c : Bool) × (mark_at (changed_at (after_message m.packet) ps m.path) path part s ≡ Some c)
some_message m ps path part s b e =
    let at = chained (λ (p : PathState). mark_in p.packets part s) (slice_get ps path) b e in
    let mark = marked (mark_of m.packet.kind) m.packet.sequence in
    elim (cases_eq path m.path) [
      | inl here ↦
          let there : slice_get ps m.path ≡ Some at.0 = ap (slice_get ps) (sym here) ∙ at.1 in
          let q = mapped (is_settled part) (find (has s) at.0.packets) b at.2 in (
            is_settled part (mark q.0),
            ap (λ n. mark_at (changed_at (after_message m.packet) ps m.path) n part s) here
                ∙ ap (option_and_then (λ (p : PathState). mark_in p.packets part s)) (get_changed_same (after_message m.packet) ps m.path at.0 there)
                ∙ ap (option_map (is_settled part)) (find_map mark (marked_sequence (mark_of m.packet.kind) (mark_of_sequence m.packet.kind) m.packet.sequence) s at.0.packets ∙ ap (option_map mark) q.1),
          )
      | inr elsewhere ↦ (b, ap (option_and_then (λ (p : PathState). mark_in p.packets part s)) (get_changed_other (after_message m.packet) ps m.path path elsewhere) ∙ e)
    ]

some_messages : (ms : List Message) (ps : List PathState) (path : ℕ) (part : Part) (s : ℕ) (b : Bool) → mark_at ps path part s ≡ Some b → (c : Bool) × (mark_at (after_messages ps ms) path part s ≡ Some c)
some_messages [] ps path part s b e = (b, e)
some_messages (m ∷ ms) ps path part s b e =
    let one = some_message m ps path part s b e in
    some_messages ms (changed_at (after_message m.packet) ps m.path) path part s one.0 one.1

-- all messages of a batch whose transactions are all taken
all_taken : (b : OpenBatch) (done : ℕ) → CarryAll b → length b.transactions ≤ done → settled_messages b done ≡ b.messages
all_taken b done whole all =
    let rest : length b.updates + length b.messages - length b.updates ≡ length b.messages = omega arith in
    ap (λ ts. take (sum_by (λ (t : Transaction). t.count) ts - length b.updates) b.messages) (take_all done b.transactions all)
    ∙ ap (λ n. take (n - length b.updates) b.messages) whole ∙ ap (λ n. take n b.messages) rest ∙ take_all (length b.messages) b.messages (omega arith)

settled_keeps : (client : ℕ) (i : MessageId) (s : Standing) (place done : ℕ) (b : OpenBatch) → batch_open s place ≡ Some b → (client ≡ place → length b.transactions ≤ done)
    → Keeps client i s (after_settled s place done (Some b))
settled_keeps client i s place done b stands whole = record { found = found_messages (settled_messages b done) s.paths; spent = go }
  where
    settles : (x : IsOnItsWay s client i) → client ≡ place → mark_for (after_messages s.paths (settled_messages b done)) i ≡ Some true
    settles x here =
        let same : x.batch ≡ b = same_Some x.batch b (sym x.is_open ∙ ap (batch_open s) here ∙ stands) in
        let all : settled_messages x.batch done ≡ x.batch.messages = all_taken x.batch done x.whole (subst (λ (c : OpenBatch). length c.transactions ≤ done) (sym same) (whole here)) in
        let at = to_get x.batch.messages x.message x.has in
        let there : slice_get (settled_messages b done) at.0 ≡ Some x.message = ap (λ ms. slice_get ms at.0) (ap (λ c. settled_messages c done) (sym same) ∙ all) ∙ at.1 in
        let it : mark_at s.paths x.message.path (part_of x.message.packet.kind) x.message.packet.sequence ≡ Some x.mark =
        ap (λ (k : MessageId). mark_for s.paths k) (λ j. record { path = x.named.0 j; kind = x.named.1 j; sequence = x.named.2 j }) ∙ x.is_marked in
        sym (ap (λ (k : MessageId). mark_for (after_messages s.paths (settled_messages b done)) k) (λ j. record { path = x.named.0 j; kind = x.named.1 j; sequence = x.named.2 j }))
        ∙ all_marked (settled_messages b done) s.paths at.0 x.message x.mark there it

    go : IsSpent s client i → IsSpent (after_settled s place done (Some b)) client i
    go (inr m) = inr (all_grow (settled_messages b done) s.paths i.path (part_of i.kind) i.sequence m)
    go (inl x) = elim (cases_eq client place) [
      | inl here ↦ inr (settles x here)
      | inr other ↦
          let still = some_messages (settled_messages b done) s.paths i.path (part_of i.kind) i.sequence x.mark x.is_marked in
          inl (record {
            batch = x.batch;
            is_open = ap (option_and_then (λ (c : ClientState). c.batch)) (get_changed_other (after_batch b done) s.clients place client other) ∙ x.is_open;
            whole = x.whole;
            message = x.message;
            has = x.has;
            named = x.named;
            mark = still.0;
            is_marked = still.1;
          })
    ]

the_open : (c : ClientState) (number : ℕ) (b : OpenBatch) → open_batch c number ≡ Some b → c.batch ≡ Some b
the_open c number b e =
    let found = chained (λ (x : OpenBatch). if eqb x.number number then Some x else None) c.batch b e in
    found.1 ∙ go found.0 (eqb found.0.number number) found.2
  where
    go : (x : OpenBatch) (t : Bool) → cond t (Some x) None ≡ Some b → Some x ≡ Some b
    go x true f = f
    go x false f = absurd (none-some b f)

open_at : (s : Standing) (client number : ℕ) (b : OpenBatch) → option_and_then (λ (c : ClientState). open_batch c number) (slice_get s.clients client) ≡ Some b → batch_open s client ≡ Some b
open_at s client number b e =
    let c = chained (λ (c : ClientState). open_batch c number) (slice_get s.clients client) b e in
    ap (option_and_then (λ (c : ClientState). c.batch)) c.1 ∙ the_open c.0 number b c.2

module _ (client : ℕ) (i : MessageId) where
  settlement_keeps : (s : Standing) (x : Settlement) → IsWholeFor client s x → Keeps client i s (after_settlement s x)
  settlement_keeps s x whole = judge (is_some (judged s (settlement_event x)))
    where
      of_batch : (o : Option OpenBatch) → option_and_then (λ (c : ClientState). open_batch c x.batch) (slice_get s.clients x.client) ≡ o → Keeps client i s (after_settled s x.client x.done o)
      of_batch None e = keeps_self client i s
      of_batch (Some b) e =
          settled_keeps client i s x.client x.done b (open_at s x.client x.batch b e)
          (λ same. whole (sym same) b (ap (λ n. option_and_then (λ (c : ClientState). open_batch c x.batch) (slice_get s.clients n)) same ∙ e))

      judge : (refused : Bool) → Keeps client i s (cond refused s (changed s (settlement_event x)))
      judge true = keeps_self client i s
      judge false = of_batch (option_and_then (λ (c : ClientState). open_batch c x.batch) (slice_get s.clients x.client)) refl

  pub settlements_keep : (xs : List Settlement) (s : Standing) → AreWholeFor client s xs → Keeps client i s (fold after_settlement s xs)
  settlements_keep [] s whole = keeps_self client i s
  settlements_keep (x ∷ xs) s whole =
      keeps_trans client i s (after_settlement s x) (fold after_settlement (after_settlement s x) xs)
      (settlement_keeps s x whole.0) (settlements_keep xs (after_settlement s x) whole.1)

  -- what is taken is taken whole
  taking_keeps : (s : Standing) (place : ℕ) → Keeps client i s (after_taking s place)
  taking_keeps s place = go (batch_open s place) refl
    where
      go : (o : Option OpenBatch) → batch_open s place ≡ o
          → Keeps client i s (option_map_or (after_settlement s) (option_map (λ (b : OpenBatch). record { client = place; batch = b.number; done = length b.transactions }) o) s)
      go None e = keeps_self client i s
      go (Some b) e =
          settlement_keeps s (record { client = place; batch = b.number; done = length b.transactions }) (λ same other found.
          let here : other ≡ b = same_Some other b (sym (open_at s client b.number other found) ∙ ap (batch_open s) (sym same) ∙ e) in
          let long : length other.transactions ≡ length b.transactions = ap (λ (x : OpenBatch). length x.transactions) here in
          omega (arith, long))

  pub takings_keep : (places : List ℕ) (s : Standing) → Keeps client i s (fold after_taking s places)
  takings_keep [] s = keeps_self client i s
  takings_keep (n ∷ ns) s = keeps_trans client i s (after_taking s n) (fold after_taking (after_taking s n) ns) (taking_keeps s n) (takings_keep ns (after_taking s n))
