-- From turn to turn more is known: no packet goes, no mark of one, no record, and what is closed stays closed.
use Rattle.std.proofs.Common.{◌≡◌, ℕ, zero, suc, ◌<◌, ◌≤◌, Bool, true, false, cond, eqb, ltb, ◌&&◌, List, [], ◌∷◌, length, replicate, set, Option, Some, None, is_some, refl, sym, ap, ◌∙◌, subst, inl, inr, arith, if◌then◌else◌}
use Rattle.std.specs.List.{find, fold, insert, count_by, slice_get, AllByRecursion}
use Rattle.std.specs.Option.{option_map, option_map_or, option_and_then}
use Rattle.std.proofs.lemmas.Bool.{true≢false, cases_eq, cases_lt, eqb-true, ne_eqb, or_left}
use Rattle.std.proofs.lemmas.List.{get_or-set_same, get_or-set_other, set_past}
use Rattle.std.proofs.lemmas.List.Elements.{recursion_from_All}
use Rattle.std.proofs.lemmas.Option.{none-some}
use Rattle.rb_script_types.specs.declared.block.Block.{Block}
use Rattle.rb_book.specs.Book.{Book, RecordAt, height_of, time_of, heights_and_times_of, record_at, header_at, set_of, is_below}
use Rattle.rb_book.specs.Header.{Record, Header}
use Rattle.rb_book.specs.Intake.{after_set, after_header, after_record, with_set, with_record, with_header}
use Rattle.rb_book.specs.Invariant.{IsBook}
use Rattle.rb_book.specs.Laws.{StaysABook}
use Rattle.rb_scan.specs.Owed.{packet_at, same_kind}
use Rattle.rb_scan.specs.Packet.{Packet}
use Rattle.rb_scan.specs.Path.{Path}
use Rattle.rb_scan.specs.Orders.{same_order}
use Rattle.rb_scan.specs.declared.message.Kind.{Kind}
use Rattle.rb_scan.specs.declared.message.Kind.TheVariants.{Receive, Acknowledge, Timeout}
use Rattle.rb_scan.specs.declared.message.PacketMsg.{PacketMsg}
use Rattle.rb_scan.specs.declared.path.Order.TheVariants.{Ordered}
use Rattle.rb_valset.specs.Validator.{Member}
use Rattle.rb_valset.specs.ValidatorSet.{set_hash}
use Rattle.rb_script_types.specs.Config.{Config}
use Rattle.rb_script_types.specs.declared.refusal.Refusal.{Refusal}
use Rattle.rb_script_types.specs.declared.refusal.Refusal.TheVariants.{OutOfOrder, Repeat}
use Rattle.rb_script_types.specs.declared.script.Asked.{Asked as Question}
use Rattle.rb_script_types.specs.declared.script.HostWindow.{HostWindow as WindowOf}
use Rattle.rb_script_types.specs.declared.script.Settlement.{Settlement}
use Rattle.rb_plan_client.specs.Task.{Task, Message}
use Rattle.rb_core_model.specs.Event.{Event, IsEvent, Window, HostWindow, Asked, Settled, Planned, SetSeen, HeaderSeen, StoredSeen, Sent, Received, AckWritten, Cleared, Closed, Scanned}
use Rattle.rb_core_model.specs.Refusal.{refused_if}
use Rattle.rb_core_model.specs.Standing.{OpenBatch, ClientState, PathState, Standing, empty_book, book_at, tracked, view_of_path, judged, changed, changed_at, with_path, with_packet, with_mark, new_packet, marked, mark_of, open_batch, sent_refusal, written_refusal, settled_messages, after_message, after_messages, after_settled, standing_after}
use Rattle.rb_core_model.proofs.Intake.{set_accepted, header_accepted, record_accepted}
use Rattle.rb_core_model.proofs.Marks.{has, AllFound, keeps_marked, keeps_packet, find_map, insert_other, marked_sequence, mark_of_sequence, found_changed, found_messages}
use Rattle.rb_core_model.proofs.Open.{sent_new}
use Rattle.rb_core_model.proofs.Options.{passes, get_changed_same, get_changed_other}
use Rattle.rb_core_model.proofs.Owed.{found_sequence}
use Rattle.rb_super_turn.specs.Report.{ClientReport, TurnReport}
use Rattle.rb_super_turn.specs.Script.{Turn, IsSeen, IsTurn}
use Rattle.rb_super_turn.specs.Turns.{after_window, window_event, after_host_window, after_question, before_events, before_plans, after_plans, settlement_event, after_settlement, taking, after_taking, takers, after_turn}
use Rattle.rb_super.specs.InTime.{IsPlannedIn}
use Rattle.rb_super.proofs.Expired.{Extends}
use Rattle.rb_super.proofs.Members.{In, in_map, from_map}
use Rattle.rb_super.proofs.Packets.{GrownPacket, grown_self, grown_trans}
use Rattle.rb_super.proofs.Spent.{AreFound, IsEarly, early, same_settled}

-- ---- what grows

pub record GrownPath (p r : PathState) : Type 0 where
  pub config : r.config ≡ p.config
  pub closed : p.closed ≡ true → r.closed ≡ true
  pub packets : (n : ℕ) (q : Packet) → find (has n) p.packets ≡ Some q → (u : Packet) × (find (has n) r.packets ≡ Some u) × GrownPacket q u

path_self : (p : PathState) → GrownPath p p
path_self p = record { config = refl; closed = λ e. e; packets = λ n q e. (q, e, grown_self q) }

path_trans : (p r x : PathState) → GrownPath p r → GrownPath r x → GrownPath p x
path_trans p r x one two = record {
  config = two.config ∙ one.config;
  closed = λ e. two.closed (one.closed e);
  packets = λ n q e.
      let u = one.packets n q e in
      let w = two.packets n u.0 u.1 in
      (w.0, w.1, grown_trans q u.0 w.0 u.2 w.2);
}

abbrev pub GrownPaths : List PathState → List PathState → Type 0
GrownPaths ps rs = (n : ℕ) (p : PathState) → slice_get ps n ≡ Some p → (r : PathState) × (slice_get rs n ≡ Some r) × GrownPath p r

paths_self : (ps : List PathState) → GrownPaths ps ps
paths_self ps n p e = (p, e, path_self p)

paths_trans : (ps rs xs : List PathState) → GrownPaths ps rs → GrownPaths rs xs → GrownPaths ps xs
paths_trans ps rs xs one two n p e =
    let r = one n p e in
    let x = two n r.0 r.1 in
    (x.0, x.1, path_trans p r.0 x.0 r.2 x.2)

path_changed : (f : PathState → PathState) (ps : List PathState) (place : ℕ) → ((p : PathState) → slice_get ps place ≡ Some p → GrownPath p (f p)) → GrownPaths ps (changed_at f ps place)
path_changed f ps place one n p e = elim (cases_eq n place) [
  | inl here ↦
      let there : slice_get ps place ≡ Some p = ap (slice_get ps) (sym here) ∙ e in
      (f p, ap (slice_get (changed_at f ps place)) here ∙ get_changed_same f ps place p there, one p there)
  | inr other ↦ (p, get_changed_other f ps place n other ∙ e, path_self p)
]

abbrev pub known_at : List Book → ℕ → List (ℕ × ℕ)
known_at books chain = heights_and_times_of (book_at books chain)

abbrev pub AreBooks : Standing → Type 0
AreBooks s = (chain : ℕ) → IsBook (book_at s.books chain)

pub record Later (s t : Standing) : Type 0 where
  pub paths : GrownPaths s.paths t.paths
  pub books : (chain : ℕ) → Extends (known_at s.books chain) (known_at t.books chain)
  pub found : AreFound s → AreFound t
  pub are_books : AreBooks s → AreBooks t

pub later_self : (s : Standing) → Later s s
later_self s = record { paths = paths_self s.paths; books = λ chain r h. h; found = λ all. all; are_books = λ all. all }

pub later_trans : (s t u : Standing) → Later s t → Later t u → Later s u
later_trans s t u one two = record {
  paths = paths_trans s.paths t.paths u.paths one.paths two.paths;
  books = λ chain r h. two.books chain r (one.books chain r h);
  found = λ all. two.found (one.found all);
  are_books = λ all. two.are_books (one.are_books all);
}

-- ---- packets and paths

-- a mark of the packet of a sequence
marked_path : (f : Packet → Packet) → ((q : Packet) → (f q).sequence ≡ q.sequence) → (sequence : ℕ) (p : PathState)
    → ((q : Packet) → find (has sequence) p.packets ≡ Some q → GrownPacket q (f q)) → (n : ℕ) (q : Packet) → find (has n) p.packets ≡ Some q
    → (u : Packet) × (find (has n) (with_mark f sequence p).packets ≡ Some u) × GrownPacket q u
marked_path f same sequence p one n q e =
    (marked f sequence q, find_map (marked f sequence) (marked_sequence f same sequence) n p.packets ∙ ap (option_map (marked f sequence)) e, go (eqb q.sequence sequence) refl)
  where
    go : (b : Bool) → eqb q.sequence sequence ≡ b → GrownPacket q (cond b (f q) q)
    go true t =
        let here : n ≡ sequence = sym (found_sequence p.packets n q e) ∙ eqb-true q.sequence sequence t in
        one q (ap (λ m. find (has m) p.packets) (sym here) ∙ e)
    go false t = grown_self q

grown_mark : (f : Packet → Packet) → ((q : Packet) → (f q).sequence ≡ q.sequence) → (sequence : ℕ) (p : PathState)
    → ((q : Packet) → find (has sequence) p.packets ≡ Some q → GrownPacket q (f q)) → GrownPath p (with_mark f sequence p)
grown_mark f same sequence p one = record { config = refl; closed = λ e. e; packets = marked_path f same sequence p one }

grown_packet : (x : Packet) (p : PathState) → find (has x.sequence) p.packets ≡ None → GrownPath p (with_packet x p)
grown_packet x p new = record {
  config = refl;
  closed = λ e. e;
  packets = λ n q e.
      let other : eqb x.sequence n ≡ false = ne_eqb x.sequence n (λ same. none-some q (sym new ∙ ap (λ m. find (has m) p.packets) same ∙ e)) in
      (q, insert_other (has n) p.packets (count_by (λ (y : Packet). ltb y.sequence x.sequence) p.packets) x other ∙ e, grown_self q);
}

received_more : (block : ℕ) (q : Packet) → GrownPacket q (record q { received = Some block })
received_more block q = record {
  sequence = refl;
  sent = refl;
  sent_time = refl;
  timeout_height = refl;
  timeout_time = refl;
  received = λ e. refl;
  written = λ b e. e;
  written_time = λ b e. refl;
  cleared = λ e. e;
  receive_settled = λ e. e;
  outcome_settled = λ e. e;
}

written_more : (block : Block) (q : Packet) → is_some q.written ≡ false → GrownPacket q (record q { written = Some block.height; written_time = block.time })
written_more block q none = record {
  sequence = refl;
  sent = refl;
  sent_time = refl;
  timeout_height = refl;
  timeout_time = refl;
  received = λ e. e;
  written = λ b e. absurd (true≢false (sym (ap (λ (o : Option ℕ). is_some o) e) ∙ none));
  written_time = λ b e. absurd (true≢false (sym (ap (λ (o : Option ℕ). is_some o) e) ∙ none));
  cleared = λ e. e;
  receive_settled = λ e. e;
  outcome_settled = λ e. e;
}

cleared_more : (q : Packet) → GrownPacket q (record q { cleared = true })
cleared_more q = record {
  sequence = refl;
  sent = refl;
  sent_time = refl;
  timeout_height = refl;
  timeout_time = refl;
  received = λ e. e;
  written = λ b e. e;
  written_time = λ b e. refl;
  cleared = λ e. refl;
  receive_settled = λ e. e;
  outcome_settled = λ e. e;
}

outcome_more : (q : Packet) → GrownPacket q (record q { outcome_settled = true })
outcome_more q = record {
  sequence = refl;
  sent = refl;
  sent_time = refl;
  timeout_height = refl;
  timeout_time = refl;
  received = λ e. e;
  written = λ b e. e;
  written_time = λ b e. refl;
  cleared = λ e. e;
  receive_settled = λ e. e;
  outcome_settled = λ e. refl;
}

settled_more : (kind : Kind) (q : Packet) → GrownPacket q (mark_of kind q)
settled_more Receive q = record {
  sequence = refl;
  sent = refl;
  sent_time = refl;
  timeout_height = refl;
  timeout_time = refl;
  received = λ e. e;
  written = λ b e. e;
  written_time = λ b e. refl;
  cleared = λ e. e;
  receive_settled = λ e. refl;
  outcome_settled = λ e. e;
}
settled_more Acknowledge q = outcome_more q
settled_more Timeout q = outcome_more q

grown_message : (m : PacketMsg) (p : PathState) → GrownPath p (after_message m p)
grown_message m p = record {
  config = refl;
  closed = λ e. or_left p.closed (same_kind m.kind Timeout && same_order p.config.order Ordered) e;
  packets = marked_path (mark_of m.kind) (mark_of_sequence m.kind) m.sequence p (λ q e. settled_more m.kind q);
}

messages_grow : (ms : List Message) (ps : List PathState) → GrownPaths ps (after_messages ps ms)
messages_grow [] ps = paths_self ps
messages_grow (m ∷ ms) ps =
    paths_trans ps (changed_at (after_message m.packet) ps m.path) (after_messages (changed_at (after_message m.packet) ps m.path) ms)
    (path_changed (after_message m.packet) ps m.path (λ p at. grown_message m.packet p)) (messages_grow ms (changed_at (after_message m.packet) ps m.path))

one_path : (s : Standing) (path : ℕ) (f : PathState → PathState) → ((p : PathState) → slice_get s.paths path ≡ Some p → GrownPath p (f p) × (AllFound p → AllFound (f p))) → Later s (with_path s path f)
one_path s path f one = record {
  paths = path_changed f s.paths path (λ p at. (one p at).0);
  books = λ chain r h. h;
  found = found_changed f s.paths path (λ p at. (one p at).1);
  are_books = λ all. all;
}

-- ---- books

in_insert : {X : Type 0} (xs : List X) (n : ℕ) (x y : X) → In xs y → In (insert xs n x) y
in_insert [] n x y h = absurd h
in_insert (z ∷ xs) zero x y h = inr h
in_insert (z ∷ xs) (suc n) x y (inl e) = inl e
in_insert (z ∷ xs) (suc n) x y (inr h) = inr (in_insert xs n x y h)

record_extends : (b : Book) (height : ℕ) (r : Record) → Extends (heights_and_times_of b) (heights_and_times_of (after_record b height r))
record_extends b height r x h = go (is_some (record_at b height))
  where
    pair : RecordAt → ℕ × ℕ
    pair = λ (k : RecordAt). (height_of k, time_of k)

    go : (t : Bool) → In (heights_and_times_of (cond t b (with_record b height r))) x
    go true = h
    go false =
        let k = from_map (λ (k : RecordAt). (height_of k, time_of k)) b.records x h in
        let new : RecordAt = record { height = height; record_of = r } in
        subst (In (heights_and_times_of (with_record b height r))) k.2
        (in_map (λ (k : RecordAt). (height_of k, time_of k)) (insert b.records (count_by (is_below height) b.records) new) k.0
        (in_insert b.records (count_by (is_below height) b.records) new k.0 k.1))

header_extends : (b : Book) (h : Header) → Extends (heights_and_times_of b) (heights_and_times_of (after_header b h))
header_extends b h x there = go (is_some (header_at b h.height))
  where
    go : (t : Bool) → In (heights_and_times_of (cond t b (with_header (after_record b h.height h.record_of) h))) x
    go true = there
    go false = record_extends b h.height h.record_of x there

set_extends : (b : Book) (set : List Member) → Extends (heights_and_times_of b) (heights_and_times_of (after_set b set))
set_extends b set x there = go (is_some (set_of b (set_hash set)))
  where
    go : (t : Bool) → In (heights_and_times_of (cond t b (with_set b set))) x
    go true = there
    go false = there

at_books : (P : Book → Type 0) (books : List Book) (chain : ℕ) (b : Book) (n : ℕ) → (n ≡ chain → P b) → P (book_at books n) → P (book_at (set books chain b) n)
at_books P books chain b n new old = elim (cases_eq n chain) [
  | inr other ↦ subst P (sym (get_or-set_other books chain n b (empty_book 1) other)) old
  | inl same ↦ elim (cases_lt chain (length books)) [
    | inl within ↦ subst P (sym (ap (λ m. book_at (set books chain b) m) same ∙ get_or-set_same books chain b (empty_book 1) within)) (new same)
    | inr past ↦ subst (λ (bs : List Book). P (book_at bs n)) (sym (set_past books chain b past)) old
  ]
]

one_book : (s t : Standing) (chain : ℕ) (b : Book) → t.paths ≡ s.paths → t.books ≡ set s.books chain b → Extends (known_at s.books chain) (heights_and_times_of b) → (IsBook (book_at s.books chain) → IsBook b) → Later s t
one_book s t chain b paths books more is = record {
  paths = subst (GrownPaths s.paths) (sym paths) (paths_self s.paths);
  books = λ n.
      subst (λ (bs : List Book). Extends (known_at s.books n) (known_at bs n)) (sym books)
      (at_books (λ c. Extends (known_at s.books n) (heights_and_times_of c)) s.books chain b n (λ same. subst (λ m. Extends (known_at s.books m) (heights_and_times_of b)) (sym same) more) (λ r h. h));
  found = λ all. subst (λ ps. AllByRecursion AllFound ps) (sym paths) all;
  are_books = λ all n. subst (λ (bs : List Book). IsBook (book_at bs n)) (sym books) (at_books IsBook s.books chain b n (λ same. is (all chain)) (all n));
}

-- ---- events

module _ (stays : StaysABook) where
  changed_later : (s : Standing) (e : Event) → AreBooks s → IsEvent e → IsEarly e → judged s e ≡ None → Later s (changed s e)
  changed_later s (Window window) all right is ok = record { paths = paths_self s.paths; books = λ chain r h. h; found = λ all. all; are_books = λ all. all }
  changed_later s (HostWindow host window) all right is ok = record { paths = paths_self s.paths; books = λ chain r h. h; found = λ all. all; are_books = λ all. all }
  changed_later s (Asked place goal) all right is ok = record { paths = paths_self s.paths; books = λ chain r h. h; found = λ all. all; are_books = λ all. all }
  changed_later s (SetSeen chain set) all right is ok =
      let b = book_at s.books chain in
      one_book s (changed s (SetSeen chain set)) chain (after_set b set) refl refl (set_extends b set) (λ book. (stays b book).0 set right (set_accepted b set ok))
  changed_later s (HeaderSeen chain header) all right is ok =
      let b = book_at s.books chain in
      one_book s (changed s (HeaderSeen chain header)) chain (after_header b header) refl refl (header_extends b header) (λ book. (stays b book).2 header (header_accepted b header ok))
  changed_later s (StoredSeen place height r) all right is ok =
      let chain = tracked s.clients place in
      let b = book_at s.books chain in
      one_book s (changed s (StoredSeen place height r)) chain (after_record b height r) refl refl (record_extends b height r) (λ book. (stays b book).1 height r (record_accepted b height r ok))
  changed_later s (Sent path sequence block timeout_height timeout_time) all right is ok =
      one_path s path (with_packet (new_packet sequence block timeout_height timeout_time)) (λ p at.
      let new = sent_new (view_of_path s.books p) sequence (ap (λ o. option_and_then (λ v. sent_refusal v sequence) (option_map (view_of_path s.books) o)) (sym at) ∙ ok) in
      (grown_packet (new_packet sequence block timeout_height timeout_time) p new, (keeps_packet (new_packet sequence block timeout_height timeout_time) p new).found))
  changed_later s (Received path sequence block) all right is ok =
      one_path s path (with_mark (λ q. record q { received = Some block }) sequence) (λ p at. (
        grown_mark (λ q. record q { received = Some block }) (λ q. refl) sequence p (λ q e. received_more block q),
        (keeps_marked (λ q. record q { received = Some block }) sequence (λ q. refl) (same_settled _ (λ q. (refl, refl))) p).found,
      ))
  changed_later s (AckWritten path sequence block) all right is ok =
      one_path s path (with_mark (λ q. record q { written = Some block.height; written_time = block.time }) sequence) (λ p at. (
        grown_mark (λ q. record q { written = Some block.height; written_time = block.time }) (λ q. refl) sequence p (λ q e. written_more block q (unwritten p at q e)),
        (keeps_marked (λ q. record q { written = Some block.height; written_time = block.time }) sequence (λ q. refl) (same_settled _ (λ q. (refl, refl))) p).found,
      ))
    where
      unwritten : (p : PathState) → slice_get s.paths path ≡ Some p → (q : Packet) → find (has sequence) p.packets ≡ Some q → is_some q.written ≡ false
      unwritten p at q e =
          let here : written_refusal block.height (find (has sequence) p.packets) ≡ None =
          ap (λ o. option_and_then (λ (v : Path). written_refusal block.height (packet_at v sequence)) (option_map (view_of_path s.books) o)) (sym at) ∙ ok in
          let there : written_refusal block.height (Some q) ≡ None = ap (written_refusal block.height) (sym e) ∙ here in
          (passes (is_some q.written) Repeat None (passes (option_map_or (λ (received : ℕ). ltb block.height received) q.received true) OutOfOrder (refused_if (is_some q.written) Repeat None) there).1).0
  changed_later s (Cleared path sequence) all right is ok =
      one_path s path (with_mark (λ q. record q { cleared = true }) sequence) (λ p at. (
        grown_mark (λ q. record q { cleared = true }) (λ q. refl) sequence p (λ q e. cleared_more q),
        (keeps_marked (λ q. record q { cleared = true }) sequence (λ q. refl) (same_settled _ (λ q. (refl, refl))) p).found,
      ))
  changed_later s (Closed path) all right is ok =
      one_path s path (λ p. record p { closed = true }) (λ p at. (record { config = refl; closed = λ e. refl; packets = λ n q e. (q, e, grown_self q) }, λ found. found))
  changed_later s (Scanned path scan) all right is ok = later_self s
  changed_later s (Planned d) all right is ok = absurd is
  changed_later s (Settled place number done) all right is ok = absurd is

  early_later : (s : Standing) (e : Event) → AreBooks s → IsEvent e → IsEarly e → Later s (standing_after s e)
  early_later s e all right is = go (judged s e) refl
    where
      go : (o : Option Refusal) → judged s e ≡ o → Later s (if is_some o then s else changed s e)
      go None ok = changed_later s e all right is ok
      go (Some r) refused = later_self s

  goals_later : (goals : List Question) (s : Standing) → AreBooks s → Later s (fold after_question s goals)
  goals_later [] s all = later_self s
  goals_later (g ∷ goals) s all =
      let one = early_later s (Asked g.client g.goal) all tt tt in
      later_trans s (after_question s g) (fold after_question (after_question s g) goals) one (goals_later goals (after_question s g) (one.are_books all))

  events_later : (config : Config) (events : List Event) (s : Standing) → AreBooks s → AllByRecursion IsEvent events → AllByRecursion (IsSeen config) events → Later s (fold standing_after s events)
  events_later config [] s all right are = later_self s
  events_later config (e ∷ events) s all right are =
      let one = early_later s e all right.0 (early config e are.0) in
      later_trans s (standing_after s e) (fold standing_after (standing_after s e) events) one (events_later config events (standing_after s e) (one.are_books all) right.1 are.1)

  hosts_later : (config : Config) (ws : List WindowOf) (s : Standing) → AreBooks s → AllByRecursion (λ (w : WindowOf). (w.host < length config.chains) × (w.window.from ≤ w.window.until)) ws
      → Later s (fold after_host_window s ws)
  hosts_later config [] s all right = later_self s
  hosts_later config (w ∷ ws) s all right =
      let one = early_later s (window_event w) all right.0.1 tt in
      later_trans s (after_host_window s w) (fold after_host_window (after_host_window s w) ws) one (hosts_later config ws (after_host_window s w) (one.are_books all) right.1)

  pub before_later : (config : Config) (s : Standing) (turn : Turn) → IsTurn config turn → AreBooks s → Later s (before_plans s turn)
  before_later config s turn is all =
      let entered = fold after_host_window s turn.windows in
      let hosts = hosts_later config turn.windows s all (recursion_from_All (λ (w : WindowOf). (w.host < length config.chains) × (w.window.from ≤ w.window.until)) turn.windows is.windows) in
      let window = early_later entered (Window turn.window) (hosts.are_books all) is.window tt in
      let goals = goals_later turn.goals (after_window entered turn.window) (window.are_books (hosts.are_books all)) in
      let first = later_trans s entered (before_events s turn) hosts (later_trans entered (after_window entered turn.window) (before_events s turn) window goals) in
      later_trans s (before_events s turn) (before_plans s turn) first
      (events_later config turn.events (before_events s turn) (first.are_books all) (recursion_from_All IsEvent turn.events is.right) (recursion_from_All (IsSeen config) turn.events is.events))

-- ---- plans and settlements

settled_later : (s : Standing) (place done : ℕ) (o : Option OpenBatch) → Later s (after_settled s place done o)
settled_later s place done None = later_self s
settled_later s place done (Some b) = record {
  paths = messages_grow (settled_messages b done) s.paths;
  books = λ chain r h. h;
  found = found_messages (settled_messages b done) s.paths;
  are_books = λ all. all;
}

settlement_later : (s : Standing) (x : Settlement) → Later s (after_settlement s x)
settlement_later s x = go (is_some (judged s (settlement_event x)))
  where
    go : (refused : Bool) → Later s (cond refused s (changed s (settlement_event x)))
    go true = later_self s
    go false = settled_later s x.client x.done (option_and_then (λ (c : ClientState). open_batch c x.batch) (slice_get s.clients x.client))

settlements_later : (xs : List Settlement) (s : Standing) → Later s (fold after_settlement s xs)
settlements_later [] s = later_self s
settlements_later (x ∷ xs) s = later_trans s (after_settlement s x) (fold after_settlement (after_settlement s x) xs) (settlement_later s x) (settlements_later xs (after_settlement s x))

taking_later : (s : Standing) (place : ℕ) → Later s (after_taking s place)
taking_later s place = go (taking s place)
  where
    go : (o : Option Settlement) → Later s (option_map_or (after_settlement s) o s)
    go None = later_self s
    go (Some x) = settlement_later s x

takings_later : (places : List ℕ) (s : Standing) → Later s (fold after_taking s places)
takings_later [] s = later_self s
takings_later (n ∷ ns) s = later_trans s (after_taking s n) (fold after_taking (after_taking s n) ns) (taking_later s n) (takings_later ns (after_taking s n))

pub rest_later : (s : Standing) (turn : Turn) (r : TurnReport) → Later (before_plans s turn) (after_turn s turn r)
rest_later s turn r =
    let sent = after_plans s turn r in
    let settled = fold after_settlement sent turn.settlements in
    let plans : Later (before_plans s turn) sent = record { paths = paths_self (before_plans s turn).paths; books = λ chain x h. h; found = λ all. all; are_books = λ all. all } in
    later_trans (before_plans s turn) sent (after_turn s turn r) plans
    (later_trans sent settled (after_turn s turn r) (settlements_later turn.settlements sent) (takings_later (takers sent turn.taken) settled))

-- ---- what a turn plans for a client

-- its book is one of them
pub planned_book : (s : Standing) (turn : Turn) (r : TurnReport) (place : ℕ) (c : ClientState) (report : ClientReport) (t : Task) (reach : Option ℕ)
    → IsPlannedIn s turn r place c report t reach → AreBooks (before_plans s turn) → IsBook t.book
planned_book s turn r place c report t reach is all = subst IsBook (sym (ap (λ (t : Task). t.book) is.task)) (all c.config.tracks)

-- ---- before the first event

empty_is_book : (limit : ℕ) → (1 ≤ limit) × (limit ≤ 4096) → IsBook (empty_book limit)
empty_is_book limit within = record {
  records = record { heights = λ k lt. absurd (omega arith); times = λ k lt. absurd (omega arith) };
  headers = λ k lt. absurd (omega arith);
  hashes = λ k j d before lt. absurd (omega arith);
  sets = λ k d lt. absurd (omega arith);
  backed = λ k d lt. absurd (omega arith);
  limit = within;
  few_records = omega arith;
  few_sets = omega arith;
  few_addresses = omega arith;
}

pub empty_books : (limit count : ℕ) → (1 ≤ limit) × (limit ≤ 4096) → (n : ℕ) → IsBook (book_at (replicate count (empty_book limit)) n)
empty_books limit zero within n = empty_is_book 1 (omega arith, omega arith)
empty_books limit (suc count) within zero = empty_is_book limit within
empty_books limit (suc count) within (suc n) = empty_books limit count within n
