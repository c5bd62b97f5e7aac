-- On UNORDERED paths what is ready before an update and after it goes with it, if the client can be brought as high as before.
use Rattle.std.proofs.Common.{◌≡◌, ◌⊎◌, ℕ, zero, suc, ◌+◌, ◌<◌, ◌≤◌, Bool, true, false, cond, not, nat_le, List, [], ◌∷◌, length, map, All, Option, Some, None, IfSome, IsSomeAnd, refl, sym, ap, ◌∙◌, subst, inl, inr, arith}
use Rattle.std.specs.List.{AllByRecursion, find, filter, filter_map, list_any, slice_get, cons_option, enumerate_from}
use Rattle.std.specs.Prelude.{unwrap_or}
use Rattle.std.specs.Option.{option_map, option_map_or, option_or}
use Rattle.std.proofs.lemmas.Bool.{cases_Bool, and_parts, le-leb, false≢true}
use Rattle.std.proofs.lemmas.List.Elements.{recursion_from_All}
use Rattle.std.proofs.lemmas.Option.{none-some, same_Some}
use Rattle.rb_base.specs.Window.{Span}
use Rattle.rb_base.specs.declared.gate.Part.{Part}
use Rattle.rb_base.specs.declared.gate.Part.TheVariants.{Packets, Channel}
use Rattle.rb_book.specs.Book.{Book, RecordAt, height_of, time_of, heights_and_times_of}
use Rattle.rb_book.specs.Invariant.{IsBook}
use Rattle.rb_book.specs.Laws.{StaysABook}
use Rattle.rb_book.proofs.Rising.{Up, Up-from_increasing}
use Rattle.rb_scan.proofs.Within.{ready-within}
use Rattle.rb_scan.specs.Going.{can_go}
use Rattle.rb_scan.specs.Owed.{expires_for, since_for, timeout_for, floor_of, message_of, messages, open_messages, owed_part, ready}
use Rattle.rb_scan.specs.Packet.{Packet}
use Rattle.rb_scan.specs.Path.{Path}
use Rattle.rb_scan.specs.declared.message.Kind.{Kind}
use Rattle.rb_scan.specs.declared.message.Kind.TheVariants.{Receive, Acknowledge, Timeout}
use Rattle.rb_scan.specs.declared.message.PacketMsg.{PacketMsg}
use Rattle.rb_scan.specs.declared.path.Order.{Order}
use Rattle.rb_scan.specs.declared.path.Order.TheVariants.{Unordered}
use Rattle.rb_script_types.specs.Config.{Config}
use Rattle.rb_core_model.specs.Config.{part_for}
use Rattle.rb_core_model.specs.Standing.{ClientState, PathState, Standing, opening_standing, book_at, view_of_path, owed_at, path_task, path_tasks}
use Rattle.rb_core_model.proofs.Marks.{all_at, all_weaker, has, part_of, AllFound}
use Rattle.rb_core_model.proofs.Options.{mapped, tested}
use Rattle.rb_core_model.proofs.Owed.{IsFound, append_all, found_sequence, owed_all, going_all}
use Rattle.rb_script_types.specs.declared.config.ClientConfig.{ClientConfig}
use Rattle.rb_script_types.specs.declared.config.PathConfig.{PathConfig}
use Rattle.rb_script_types.specs.declared.config.RefreshTo.TheVariants.{Newer}
use Rattle.rb_plan_client.specs.Task.{PathTask, Task, Message, message_on, bars_of, going_on, ready_on, ready_messages, near_reach}
use Rattle.rb_super_turn.specs.Report.{TurnReport}
use Rattle.rb_super_turn.specs.Script.{Turn, IsTurn}
use Rattle.rb_super_turn.specs.Turns.{before_plans, after_plans, after_turn}
use Rattle.rb_super.specs.Fewest.{ClientTurn, AreTurnsOf, MessageId, has_id, far_on, is_far, is_in_batch, is_ready, is_update, is_within_reach, AreWholeFor, SettlesWhole, UpdatesAreFewest}
use Rattle.rb_super.specs.InTime.{IsPlannedIn}
use Rattle.rb_super.specs.Steady.{MessagesStayReady, TakenUpdatesAreFewest}
use Rattle.rb_super.proofs.Counts.{paths_before, paths_after}
use Rattle.rb_super.proofs.Expired.{Rising}
use Rattle.rb_super.proofs.Fewest.{new_found}
use Rattle.rb_super.proofs.Going.{from_ready, goes_by_gain, in_going, can_before}
use Rattle.rb_super.proofs.Kept.{EndsLater, window_in, Kept, kept_trans, before_kept, rest_kept}
use Rattle.rb_super.proofs.Later.{GrownPath, known_at, AreBooks, Later, later_trans, before_later, rest_later, empty_books}
use Rattle.rb_super.proofs.Members.{In, in_places, all_in, from_get, in_map, in_left, in_right, in_flat_map, from_test, test_from, far_is_ready}
use Rattle.rb_super.proofs.Owing.{far_all, if_some, named_by}
use Rattle.rb_super.proofs.Packets.{GrownPacket, backwards, between}
use Rattle.rb_super.proofs.Sends.{id_parts, has_id_from}
use Rattle.rb_super.proofs.Spent.{AreFound}

-- ---- what is owed

-- the message is owed for a packet of an open path of the client
record IsOwed (s : Standing) (place path : ℕ) (m : PacketMsg) : Type 0 where
  state : PathState
  is_state : slice_get s.paths path ≡ Some state
  part : Part
  is_part : part_for state.config place ≡ Some part
  open_now : state.closed ≡ false
  packet : Packet
  is_packet : find (has m.sequence) state.packets ≡ Some packet
  floor : floor_of (known_at s.books state.config.destination) m.kind packet ≡ Some m.floor
  timeout : timeout_for m.kind packet ≡ m.timeout
  of_part : part_of m.kind ≡ part

abbrev AreOwed : Standing → ℕ → PathTask → Type 0
AreOwed s place p = AllByRecursion (IsOwed s place p.path) p.owed

-- for a packet of a path
record IsOwedFor (v : Path) (part : Part) (m : PacketMsg) : Type 0 where
  open_now : v.closed ≡ false
  packet : Packet
  is_packet : find (has m.sequence) v.packets ≡ Some packet
  floor : floor_of v.destination m.kind packet ≡ Some m.floor
  timeout : timeout_for m.kind packet ≡ m.timeout
  of_part : part_of m.kind ≡ part

module _ (v : Path) (all : AllByRecursion (IsFound v.packets) v.packets) where
  of_packet : v.closed ≡ false → (kind : Kind) (q : Packet) → IsFound v.packets q → IfSome (message_of v.destination kind q) (IsOwedFor v (part_of kind))
  of_packet open_now kind q found = if_some (IsOwedFor v (part_of kind)) (message_of v.destination kind q) (λ m e.
      let is = named_by v.destination kind q m e in
      let floor = mapped (λ (floor : ℕ). record { kind = kind; sequence = q.sequence; floor = floor; expires = expires_for kind q; since = since_for kind q; timeout = timeout_for kind q }) (floor_of v.destination kind q) m e in
      record {
        open_now = open_now;
        packet = q;
        is_packet = ap (λ n. find (has n) v.packets) is.1 ∙ found;
        timeout = ap (λ k. timeout_for k q) is.0 ∙ ap (λ (x : PacketMsg). x.timeout) floor.2;
        floor = ap (λ k. floor_of v.destination k q) is.0 ∙ floor.1 ∙ ap (λ (x : PacketMsg). Some x.floor) floor.2;
        of_part = ap part_of is.0;
      })

  owed_kind : (kind : Kind) → AllByRecursion (IsOwedFor v (part_of kind)) (messages v kind)
  owed_kind kind = go (cases_Bool v.closed)
    where
      go : (v.closed ≡ true) ⊎ (v.closed ≡ false) → AllByRecursion (IsOwedFor v (part_of kind)) (messages v kind)
      go (inl closed) = subst (λ b. AllByRecursion (IsOwedFor v (part_of kind)) (cond b [] (open_messages v.order v kind))) (sym closed) tt
      go (inr open_now) = owed_all (IsOwedFor v (part_of kind)) v kind (of_packet open_now kind) (λ _. all)

  owed_of_part : (part : Part) → AllByRecursion (IsOwedFor v part) (owed_part v part)
  owed_of_part Packets = owed_kind Receive
  owed_of_part Channel = append_all (IsOwedFor v Channel) (messages v Acknowledge) (messages v Timeout) (owed_kind Acknowledge) (owed_kind Timeout)

module _ (s : Standing) (found : AreFound s) (place : ℕ) where
  owed_on : (n : ℕ) (p : PathState) (part : Part) → slice_get s.paths n ≡ Some p → part_for p.config place ≡ Some part → AllByRecursion (IsOwed s place n) (owed_at s n part)
  owed_on n p part at for_client =
      all_weaker (IsOwedFor (view_of_path s.books p) part) (IsOwed s place n)
      (λ m is. record {
        state = p;
        is_state = at;
        part = part;
        is_part = for_client;
        open_now = is.open_now;
        packet = is.packet;
        is_packet = is.is_packet;
        floor = is.floor;
        timeout = is.timeout;
        of_part = is.of_part;
      })
      (owed_at s n part)
      (subst (λ o. AllByRecursion (IsOwedFor (view_of_path s.books p) part) (option_map_or (λ v. owed_part v part) (option_map (view_of_path s.books) o) [])) (sym at)
      (owed_of_part (view_of_path s.books p) (all_at AllFound s.paths n p found at) part))

  one_owed : (n : ℕ) (p : PathState) → slice_get s.paths n ≡ Some p → (o : Option Part) → part_for p.config place ≡ o → (rest : List PathTask) → AllByRecursion (AreOwed s place) rest
      → AllByRecursion (AreOwed s place) (cons_option (option_map (λ part. record { path = n; order = p.config.order; gas = p.config.gas; waits = p.config.waits; owed = owed_at s n part }) o) rest)
  one_owed n p at None e rest all = all
  one_owed n p at (Some part) e rest all = (owed_on n p part at e, all)

  all_owed : (n : ℕ) (rest : List PathState) → ((k : ℕ) (p : PathState) → slice_get rest k ≡ Some p → slice_get s.paths (n + k) ≡ Some p)
      → AllByRecursion (AreOwed s place) (filter_map (path_task (owed_at s) place) (enumerate_from n rest))
  all_owed n [] places = tt
  all_owed n (p ∷ rest) places =
      one_owed n p (let same : n ≡ n + 0 = omega arith in ap (slice_get s.paths) same ∙ places 0 p refl) (part_for p.config place) refl (filter_map (path_task (owed_at s) place) (enumerate_from (n + 1) rest))
      (all_owed (n + 1) rest (λ k q e. let next : (n + 1) + k ≡ n + suc k = omega arith in ap (slice_get s.paths) next ∙ places (suc k) q e))

  are_owed : AllByRecursion (AreOwed s place) (path_tasks (owed_at s) s.paths place)
  are_owed = all_owed 0 s.paths (λ k p e. let same : 0 + k ≡ k = omega arith in ap (slice_get s.paths) same ∙ e)

-- ---- the order and the gas of a task are those of its path

abbrev IsOrdered : Standing → PathTask → Type 0
IsOrdered s p = (state : PathState) → slice_get s.paths p.path ≡ Some state → (p.order ≡ state.config.order) × (p.gas ≡ state.config.gas)

module _ (s : Standing) (place : ℕ) where
  one_order : (n : ℕ) (p : PathState) → slice_get s.paths n ≡ Some p → (o : Option Part) (rest : List PathTask) → AllByRecursion (IsOrdered s) rest
      → AllByRecursion (IsOrdered s) (cons_option (option_map (λ part. record { path = n; order = p.config.order; gas = p.config.gas; waits = p.config.waits; owed = owed_at s n part }) o) rest)
  one_order n p at None rest all = all
  one_order n p at (Some part) rest all = (λ state there. (let same = same_Some p state (sym at ∙ there) in (ap (λ (x : PathState). x.config.order) same, ap (λ (x : PathState). x.config.gas) same)), all)

  all_orders : (n : ℕ) (rest : List PathState) → ((k : ℕ) (p : PathState) → slice_get rest k ≡ Some p → slice_get s.paths (n + k) ≡ Some p)
      → AllByRecursion (IsOrdered s) (filter_map (path_task (owed_at s) place) (enumerate_from n rest))
  all_orders n [] places = tt
  all_orders n (p ∷ rest) places =
      one_order n p (let same : n ≡ n + 0 = omega arith in ap (slice_get s.paths) same ∙ places 0 p refl) (part_for p.config place) (filter_map (path_task (owed_at s) place) (enumerate_from (n + 1) rest))
      (all_orders (n + 1) rest (λ k q e. let next : (n + 1) + k ≡ n + suc k = omega arith in ap (slice_get s.paths) next ∙ places (suc k) q e))

  are_ordered : AllByRecursion (IsOrdered s) (path_tasks (owed_at s) s.paths place)
  are_ordered = all_orders 0 s.paths (λ k p e. let same : 0 + k ≡ k = omega arith in ap (slice_get s.paths) same ∙ e)

-- ---- what is owed is among what the client's task has

in_cons : {X : Type 0} (o : Option X) (xs : List X) (x : X) → (o ≡ Some x) ⊎ In xs x → In (cons_option o xs) x
in_cons None xs x (inl e) = absurd (none-some x e)
in_cons None xs x (inr h) = h
in_cons (Some y) xs x (inl e) = inl (same_Some y x e)
in_cons (Some y) xs x (inr h) = inr h

in_filter_map : {X Y : Type 0} (f : X → Option Y) (xs : List X) (x : X) (y : Y) → In xs x → f x ≡ Some y → In (filter_map f xs) y
in_filter_map f [] x y h e = absurd h
in_filter_map f (z ∷ zs) x y (inl same) e = in_cons (f z) (filter_map f zs) y (inl (ap f same ∙ e))
in_filter_map f (z ∷ zs) x y (inr h) e = in_cons (f z) (filter_map f zs) y (inr (in_filter_map f zs x y h e))

in_found : (t : Packet → Bool) (ps : List Packet) (q : Packet) → find t ps ≡ Some q → In ps q
in_found t [] q e = absurd (none-some q e)
in_found t (p ∷ ps) q e = go (t p) (λ f. in_found t ps q f) e
  where
    go : (b : Bool) → (find t ps ≡ Some q → In ps q) → cond b (Some p) (find t ps) ≡ Some q → In (p ∷ ps) q
    go true rest f = inl (same_Some p q f)
    go false rest f = inr (rest f)

-- on an UNORDERED path all within reach are ready
in_kept : (test : PacketMsg → Bool) (n : ℕ) (ms : List PacketMsg) (m : PacketMsg) → In ms m → test m ≡ true
    → In (map (λ (p : ℕ × PacketMsg). p.1) (filter (λ (p : ℕ × PacketMsg). test p.1) (enumerate_from n ms))) m
in_kept test n [] m h e = absurd h
in_kept test n (x ∷ ms) m h e = go (test x) refl h (λ g. in_kept test (n + 1) ms m g e)
  where
    go : (b : Bool) → test x ≡ b → (x ≡ m) ⊎ In ms m → (In ms m → In (map (λ (p : ℕ × PacketMsg). p.1) (filter (λ (p : ℕ × PacketMsg). test p.1) (enumerate_from (n + 1) ms))) m)
        → In (map (λ (p : ℕ × PacketMsg). p.1) (cond b ((n, x) ∷ filter (λ (p : ℕ × PacketMsg). test p.1) (enumerate_from (n + 1) ms)) (filter (λ (p : ℕ × PacketMsg). test p.1) (enumerate_from (n + 1) ms)))) m
    go true t (inl same) rest = inl same
    go true t (inr there) rest = inr (rest there)
    go false t (inl same) rest = absurd (false≢true (sym t ∙ ap test same ∙ e))
    go false t (inr there) rest = rest there

in_ready : (ms : List PacketMsg) (order : Order) (reach : ℕ) (m : PacketMsg) → order ≡ Unordered → In ms m → m.floor ≤ reach → In (ready ms order (Some reach)) m
in_ready ms order reach m unordered h low =
    subst (λ o. In (ready ms o (Some reach)) m) (sym unordered) (in_kept (λ (x : PacketMsg). nat_le x.floor reach) 0 ms m h (le-leb m.floor reach low))

-- a message of an open UNORDERED path's packet is owed
in_messages : (v : Path) (kind : Kind) (q : Packet) (m : PacketMsg) → v.order ≡ Unordered → v.closed ≡ false → In v.packets q → message_of v.destination kind q ≡ Some m → In (messages v kind) m
in_messages v kind q m unordered open_now there e =
    subst (λ b. In (cond b [] (open_messages v.order v kind)) m) (sym open_now)
    (subst (λ o. In (open_messages o v kind) m) (sym unordered) (in_filter_map (message_of v.destination kind) v.packets q m there e))

in_part : (v : Path) (kind : Kind) (m : PacketMsg) → In (messages v kind) m → In (owed_part v (part_of kind)) m
in_part v Receive m h = h
in_part v Acknowledge m h = in_left (messages v Acknowledge) (messages v Timeout) m h
in_part v Timeout m h = in_right (messages v Acknowledge) (messages v Timeout) m h

-- a packet's timeout stays
same_timeout : (kind : Kind) (q w : Packet) → GrownPacket q w → timeout_for kind w ≡ timeout_for kind q
same_timeout Receive q w more = more.timeout_time
same_timeout Acknowledge q w more = refl
same_timeout Timeout q w more = refl

-- ---- three turns

-- the client's task in a turn is that of a standing
pub record Stands (place : ℕ) (k : ClientTurn) (s : Standing) : Type 0 where
  pub tasks : k.task.paths ≡ path_tasks (owed_at s) s.paths place
  pub client : slice_get s.clients place ≡ Some k.client
  pub config : k.task.config ≡ k.client.config
  pub window : window_in s k.client ≡ Some k.task.window
  pub found : AreFound s
  pub books : AreBooks s

rising_known : (ks : List RecordAt) → Up (λ (a b : RecordAt). height_of a < height_of b) ks → Up (λ (a b : RecordAt). time_of a < time_of b) ks → Rising (map (λ (k : RecordAt). (height_of k, time_of k)) ks)
rising_known [] up late = tt
rising_known (k ∷ ks) up late = (above ks up.0 late.0, rising_known ks up.1 late.1)
  where
    above : (xs : List RecordAt) → AllByRecursion (λ (x : RecordAt). height_of k < height_of x) xs → AllByRecursion (λ (x : RecordAt). time_of k < time_of x) xs
        → AllByRecursion (λ (x : ℕ × ℕ). (height_of k < x.0) × (time_of k < x.1)) (map (λ (x : RecordAt). (height_of x, time_of x)) xs)
    above [] a b = tt
    above (x ∷ xs) a b = ((a.0, b.0), above xs a.1 b.1)

rises : (b : Book) → IsBook b → Rising (heights_and_times_of b)
rises b is = rising_known b.records (Up-from_increasing height_of b.records is.records.heights) (Up-from_increasing time_of b.records is.records.times)

module _ (place : ℕ) (i : MessageId) (j k l : ClientTurn) (s t u : Standing) (before : Stands place j s) (now : Stands place k t) (after : Stands place l u) (later : Later s t) (last : Later t u)
    (kept : Kept t u)
  where
    -- a message that only an update brings across is owed, and within reach
    record Ready (x : ClientTurn) (y : Standing) : Type 0 where
      path : PathTask
      is_path : In x.task.paths path
      message : PacketMsg
      named : has_id i path.path message ≡ true
      going : In (going_on x.task path) message
      owed : IsOwed y place path.path message
      within : IsSomeAnd x.reach (λ reach. message.floor ≤ reach)

    far_ready : (x : ClientTurn) (y : Standing) → Stands place x y → is_far i x ≡ true → Ready x y
    far_ready x y stands far =
        let p = from_test (λ (p : PathTask). list_any (has_id i p.path) (far_on x p)) x.task.paths far in
        let m = from_test (has_id i p.0.path) (far_on x p.0) p.2 in
        let owed = subst (λ ps. AllByRecursion (AreOwed y place) ps) (sym stands.tasks) (are_owed y stands.found place) in
        let mine = all_in (AreOwed y place) x.task.paths p.0 owed p.1 in
        record {
          path = p.0;
          is_path = p.1;
          message = m.0;
          named = m.2;
          going = from_ready (going_on x.task p.0) p.0.order x.reach m.0 (far_is_ready (going_on x.task p.0) p.0.order (near_reach x.task) x.reach m.0 m.1);
          owed = all_in (IsOwed y place p.0.path) (far_on x p.0) m.0 (far_all (IsOwed y place p.0.path) (going_on x.task p.0) p.0.order (near_reach x.task) x.reach (going_all (IsOwed y place p.0.path) x.task p.0 mine)) m.1;
          within = reached x.reach (going_on x.task p.0) p.0.order m.0 (far_is_ready (going_on x.task p.0) p.0.order (near_reach x.task) x.reach m.0 m.1);
        }
      where
        reached : (o : Option ℕ) (ms : List PacketMsg) (order : Order) (m : PacketMsg) → In (ready ms order o) m → IsSomeAnd o (λ reach. m.floor ≤ reach)
        reached None ms order m h = absurd h
        reached (Some reach) ms order m h = all_in (λ (x : PacketMsg). x.floor ≤ reach) (ready ms order (Some reach)) m (recursion_from_All (λ (x : PacketMsg). x.floor ≤ reach) (ready ms order (Some reach)) (ready-within ms order reach)) h

    -- what can go after the update can go with it
    can_go_now : (c : Ready l u) (config : PathConfig) (p : PathTask) → p.gas ≡ config.gas → (m : PacketMsg) → c.message.kind ≡ m.kind → config.order ≡ Unordered → c.message.timeout ≡ m.timeout
        → c.owed.state.config ≡ config → k.task.config.refresh_to ≡ Newer → can_go (bars_of k.task p) m ≡ true
    can_go_now c config p gas m kind plain timeout same by_gain =
        let mine = all_in (IsOrdered u) l.task.paths c.path (subst (λ ps. AllByRecursion (IsOrdered u) ps) (sym after.tasks) (are_ordered u place)) c.is_path c.owed.state c.owed.is_state in
        let d = kept place k.client now.client in
        let same_client : d.0 ≡ l.client = same_Some d.0 l.client (sym d.1 ∙ after.client) in
        let same_config : l.task.config ≡ k.task.config = after.config ∙ ap (λ (x : ClientState). x.config) (sym same_client) ∙ d.2.config ∙ sym now.config in
        let until : k.task.window.until ≤ l.task.window.until =
        subst (λ o. EndsLater o (Some l.task.window)) now.window (subst (EndsLater (window_in t k.client)) (ap (window_in u) same_client ∙ after.window) d.2.window) in
        can_before k.task l.task p c.path m c.message same_config (mine.1 ∙ ap (λ (x : PathConfig). x.gas) same ∙ sym gas) kind timeout until
        (goes_by_gain l.task c.path c.message (mine.0 ∙ ap (λ (x : PathConfig). x.order) same ∙ plain) (ap (λ (x : ClientConfig). x.refresh_to) same_config ∙ by_gain) c.going)

    still : (holds : IfSome j.reach (λ a. IsSomeAnd k.reach (λ b. a ≤ b))) → All (λ (p : PathTask). p.order ≡ Unordered) j.task.paths → is_far i j ≡ true → is_far i l ≡ true → is_within_reach i k ≡ true
    still holds unordered was again = go (far_ready j s before was) (far_ready l u after again)
      where
        go : Ready j s → Ready l u → is_within_reach i k ≡ true
        go a c =
            let is_a = id_parts i a.path.path a.message a.named in
            let is_c = id_parts i c.path.path c.message c.named in
            let same_path : c.path.path ≡ a.path.path = is_c.0 ∙ sym is_a.0 in
            let same_kind : c.message.kind ≡ a.message.kind = is_c.1 ∙ sym is_a.1 in
            let same_sequence : c.message.sequence ≡ a.message.sequence = is_c.2 ∙ sym is_a.2 in
            let here = later.paths a.path.path a.owed.state a.owed.is_state in
            let there = last.paths a.path.path here.0 here.1 in
            let same_state : c.owed.state ≡ there.0 = same_Some c.owed.state there.0 (sym c.owed.is_state ∙ ap (slice_get u.paths) same_path ∙ there.1) in
            let q = here.2.packets a.message.sequence a.owed.packet a.owed.is_packet in
            let w = there.2.packets a.message.sequence q.0 q.1 in
            let same_packet : c.owed.packet ≡ w.0 =
            same_Some c.owed.packet w.0 (sym c.owed.is_packet ∙ ap (λ (x : PathState). find (has c.message.sequence) x.packets) same_state ∙ ap (λ n. find (has n) there.0.packets) same_sequence ∙ w.1) in
            let chain = a.owed.state.config.destination in
            let config_here : here.0.config ≡ a.owed.state.config = here.2.config in
            let config_there : there.0.config ≡ a.owed.state.config = there.2.config ∙ config_here in
            let floor_after : floor_of (known_at u.books chain) a.message.kind w.0 ≡ Some c.message.floor =
            sym (λ e. floor_of (known_at u.books ((ap (λ (x : PathState). x.config.destination) same_state ∙ ap (λ x. x.destination) config_there) e)) (same_kind e) (same_packet e)) ∙ c.owed.floor in
            let floor = between (known_at s.books chain) (known_at t.books chain) (known_at u.books chain) a.owed.packet q.0 w.0 q.2 w.2
            (later.books chain) (last.books chain) (rises (book_at t.books chain) (now.books chain)) (rises (book_at u.books chain) (after.books chain))
            a.message.kind a.message.floor c.message.floor a.owed.floor floor_after in
            let m : PacketMsg = record { kind = a.message.kind; sequence = q.0.sequence; floor = floor.0; expires = expires_for a.message.kind q.0; since = since_for a.message.kind q.0; timeout = timeout_for a.message.kind q.0 } in
            let made : message_of (known_at t.books here.0.config.destination) a.message.kind q.0 ≡ Some m =
            ap (λ c. message_of (known_at t.books c.destination) a.message.kind q.0) config_here
            ∙ ap (option_map (λ (floor : ℕ). record { kind = a.message.kind; sequence = q.0.sequence; floor = floor; expires = expires_for a.message.kind q.0; since = since_for a.message.kind q.0; timeout = timeout_for a.message.kind q.0 })) floor.1 in
            let order_s : a.path.order ≡ a.owed.state.config.order =
            (all_in (IsOrdered s) j.task.paths a.path (subst (λ ps. AllByRecursion (IsOrdered s) ps) (sym before.tasks) (are_ordered s place)) a.is_path a.owed.state a.owed.is_state).0 in
            let plain : a.path.order ≡ Unordered = all_in (λ (p : PathTask). p.order ≡ Unordered) j.task.paths a.path (recursion_from_All (λ (p : PathTask). p.order ≡ Unordered) j.task.paths unordered) a.is_path in
            let order_t : here.0.config.order ≡ Unordered = ap (λ x. x.order) config_here ∙ sym order_s ∙ plain in
            let open_t : here.0.closed ≡ false = still_open here.0 there.0 there.2 (ap (λ (x : PathState). x.closed) (sym same_state) ∙ c.owed.open_now) in
            let owed : In (owed_at t a.path.path (part_of a.message.kind)) m =
            subst (λ o. In (option_map_or (λ v. owed_part v (part_of a.message.kind)) (option_map (view_of_path t.books) o) []) m) (sym here.1)
            (in_part (view_of_path t.books here.0) a.message.kind m
            (in_messages (view_of_path t.books here.0) a.message.kind q.0 m order_t open_t (in_found (has a.message.sequence) here.0.packets q.0 q.1) made)) in
            let part : part_for here.0.config place ≡ Some (part_of a.message.kind) = ap (λ x. part_for x place) config_here ∙ a.owed.is_part ∙ ap (λ x. Some x) (sym a.owed.of_part) in
            let task : PathTask = record { path = a.path.path; order = here.0.config.order; gas = here.0.config.gas; waits = here.0.config.waits; owed = owed_at t a.path.path (part_of a.message.kind) } in
            let listed : In k.task.paths task =
            subst (λ ps. In ps task) (sym now.tasks)
            (in_filter_map (path_task (owed_at t) place) (enumerate_from 0 t.paths) (a.path.path, here.0) task
            (let same : 0 + a.path.path ≡ a.path.path = omega arith in subst (λ n. In (enumerate_from 0 t.paths) (n, here.0)) same (in_places 0 t.paths a.path.path here.0 here.1))
            (ap (option_map (λ part. record { path = a.path.path; order = here.0.config.order; gas = here.0.config.gas; waits = here.0.config.waits; owed = owed_at t a.path.path part })) part)) in
            let goes = in_going k.task task m order_t owed (λ by_gain. can_go_now c here.0.config task refl m same_kind order_t
            (sym c.owed.timeout ∙ (λ e. timeout_for (same_kind e) (same_packet e)) ∙ same_timeout a.message.kind q.0 w.0 w.2)
            (ap (λ (x : PathState). x.config) same_state ∙ there.2.config) by_gain) in
            let ready_now : In (ready (going_on k.task task) task.order k.reach) m = within_k j.reach k.reach m (going_on k.task task) task.order order_t goes a.message.floor a.within holds floor.2 in
            test_from (λ (x : Message). has_id i x.path x.packet) (ready_messages k.task k.reach) (message_on task m)
            (in_flat_map (ready_on k.task k.reach) k.task.paths task (message_on task m) listed (in_map (message_on task) (ready (going_on k.task task) task.order k.reach) m ready_now))
            (has_id_from i a.path.path m is_a.0 is_a.1 (q.2.sequence ∙ found_number ∙ is_a.2))
          where
            found_number : a.owed.packet.sequence ≡ a.message.sequence
            found_number = found_sequence a.owed.state.packets a.message.sequence a.owed.packet a.owed.is_packet

            still_open : (p r : PathState) → GrownPath p r → r.closed ≡ false → p.closed ≡ false
            still_open p r grown open_now = backwards p.closed r.closed grown.closed open_now

            within_k : (x y : Option ℕ) (m : PacketMsg) (ms : List PacketMsg) (order : Order) → order ≡ Unordered → In ms m → (f : ℕ) → IsSomeAnd x (λ reach. f ≤ reach) → IfSome x (λ a. IsSomeAnd y (λ b. a ≤ b)) → m.floor ≤ f
                → In (ready ms order y) m
            within_k None y m ms order plain there f low holds less = absurd low
            within_k (Some a) None m ms order plain there f low holds less = absurd holds
            within_k (Some a) (Some b) m ms order plain there f low holds less = in_ready ms order b m plain there (omega (arith, low, holds, less))

-- ---- turn after turn

pub record One (place : ℕ) (k : ClientTurn) (s : Standing) : Type 0 where
  pub standing : Standing
  pub stands : Stands place k standing
  pub later : Later s standing
  pub kept : Kept s standing
  pub paths : length standing.paths ≡ length s.paths

record Two (place : ℕ) (k l : ClientTurn) (s : Standing) : Type 0 where
  first : Standing
  stands_first : Stands place k first
  later : Later s first
  kept : Kept s first
  rest : One place l first

record Three (place : ℕ) (j k l : ClientTurn) : Type 0 where
  first : Standing
  stands_first : Stands place j first
  rest : Two place k l first

module _ (stays : StaysABook) (config : Config) (place : ℕ) where
  stands_of : (turn : Turn) (r : TurnReport) (s : Standing) (x : ClientTurn) → IsPlannedIn s turn r place x.client x.report x.task x.reach → AreFound (before_plans s turn) → AreBooks (before_plans s turn)
      → Stands place x (before_plans s turn)
  stands_of turn r s x is found books = record {
    tasks = ap (λ (t : Task). t.paths) is.task;
    client = is.is_client;
    config = ap (λ (t : Task). t.config) is.task;
    window = ap (option_or x.client.window) is.is_window ∙ own_or x.client.window is.window ∙ ap (λ (t : Task). Some t.window) (sym is.task);
    found = found;
    books = books;
  }
    where
      own_or : (o : Option Span) (w : Span) → option_or o (Some w) ≡ Some (unwrap_or o w)
      own_or None w = refl
      own_or (Some v) w = refl

  here_stands : (turn : Turn) (r : TurnReport) (s : Standing) (x k : ClientTurn) → IsTurn config turn → IsPlannedIn s turn r place x.client x.report x.task x.reach → AreFound s → AreBooks s → x ≡ k → One place k s
  here_stands turn r s x k right is found books same =
      let later = before_later stays config s turn right books in
      record {
        standing = before_plans s turn;
        stands = subst (λ y. Stands place y (before_plans s turn)) same (stands_of turn r s x is (later.found found) (later.are_books books));
        later = later;
        kept = before_kept s turn;
        paths = paths_before s turn;
      }

  pub one_of_turns : (turns : List Turn) (rs : List TurnReport) (ks : List ClientTurn) (s : Standing) → AllByRecursion (IsTurn config) turns → AreTurnsOf place s turns rs ks → AreFound s → AreBooks s
      → (n : ℕ) (k : ClientTurn) → slice_get ks n ≡ Some k → One place k s
  one_of_turns [] rs [] s right are found books n k at = absurd (none-some k at)
  one_of_turns [] rs (x ∷ ks) s right are found books n k at = absurd are
  one_of_turns (turn ∷ turns) [] ks s right are found books n k at = absurd are
  one_of_turns (turn ∷ turns) (r ∷ rs) [] s right are found books n k at = absurd are
  one_of_turns (turn ∷ turns) (r ∷ rs) (x ∷ ks) s right are found books zero k at = here_stands turn r s x k right.0 are.0 found books (same_Some x k at)
  one_of_turns (turn ∷ turns) (r ∷ rs) (x ∷ ks) s right are found books (suc n) k at =
      let first = before_later stays config s turn right.0 books in
      let whole = later_trans s (before_plans s turn) (after_turn s turn r) first (rest_later s turn r) in
      let rest = one_of_turns turns rs ks (after_turn s turn r) right.1 are.1 (whole.found found) (whole.are_books books) n k at in
      record {
        standing = rest.standing;
        stands = rest.stands;
        later = later_trans s (after_turn s turn r) rest.standing whole rest.later;
        kept = kept_trans s (after_turn s turn r) rest.standing (kept_trans s (before_plans s turn) (after_turn s turn r) (before_kept s turn) (rest_kept s turn r)) rest.kept;
        paths = rest.paths ∙ paths_after s turn r;
      }

  two_of_turns : (turns : List Turn) (rs : List TurnReport) (ks : List ClientTurn) (s : Standing) → AllByRecursion (IsTurn config) turns → AreTurnsOf place s turns rs ks → AreFound s → AreBooks s
      → (n o : ℕ) (k l : ClientTurn) → n < o → slice_get ks n ≡ Some k → slice_get ks o ≡ Some l → Two place k l s
  two_of_turns [] rs [] s right are found books n o k l lt at next = absurd (none-some k at)
  two_of_turns [] rs (x ∷ ks) s right are found books n o k l lt at next = absurd are
  two_of_turns (turn ∷ turns) [] ks s right are found books n o k l lt at next = absurd are
  two_of_turns (turn ∷ turns) (r ∷ rs) [] s right are found books n o k l lt at next = absurd are
  two_of_turns (turn ∷ turns) (r ∷ rs) (x ∷ ks) s right are found books n zero k l lt at next = absurd (omega (arith, lt))
  two_of_turns (turn ∷ turns) (r ∷ rs) (x ∷ ks) s right are found books zero (suc o) k l lt at next =
      let one = here_stands turn r s x k right.0 are.0 found books (same_Some x k at) in
      let first = before_later stays config s turn right.0 books in
      let after = rest_later s turn r in
      let rest = one_of_turns turns rs ks (after_turn s turn r) right.1 are.1 (after.found (first.found found)) (after.are_books (first.are_books books)) o l next in
      record {
        first = before_plans s turn;
        stands_first = subst (λ y. Stands place y (before_plans s turn)) (same_Some x k at) (stands_of turn r s x are.0 (first.found found) (first.are_books books));
        later = first;
        kept = before_kept s turn;
        rest = record {
          standing = rest.standing;
          stands = rest.stands;
          later = later_trans (before_plans s turn) (after_turn s turn r) rest.standing after rest.later;
          kept = kept_trans (before_plans s turn) (after_turn s turn r) rest.standing (rest_kept s turn r) rest.kept;
          paths = rest.paths ∙ paths_after s turn r ∙ sym (paths_before s turn);
        };
      }
  two_of_turns (turn ∷ turns) (r ∷ rs) (x ∷ ks) s right are found books (suc n) (suc o) k l lt at next =
      let first = before_later stays config s turn right.0 books in
      let whole = later_trans s (before_plans s turn) (after_turn s turn r) first (rest_later s turn r) in
      let rest = two_of_turns turns rs ks (after_turn s turn r) right.1 are.1 (whole.found found) (whole.are_books books) n o k l (omega (arith, lt)) at next in
      record {
        first = rest.first;
        stands_first = rest.stands_first;
        later = later_trans s (after_turn s turn r) rest.first whole rest.later;
        kept = kept_trans s (after_turn s turn r) rest.first (kept_trans s (before_plans s turn) (after_turn s turn r) (before_kept s turn) (rest_kept s turn r)) rest.kept;
        rest = rest.rest;
      }

  three_of_turns : (turns : List Turn) (rs : List TurnReport) (ks : List ClientTurn) (s : Standing) → AllByRecursion (IsTurn config) turns → AreTurnsOf place s turns rs ks → AreFound s → AreBooks s
      → (m n o : ℕ) (j k l : ClientTurn) → m < n → n < o → slice_get ks m ≡ Some j → slice_get ks n ≡ Some k → slice_get ks o ≡ Some l → Three place j k l
  three_of_turns [] rs [] s right are found books m n o j k l one two at next last = absurd (none-some j at)
  three_of_turns [] rs (x ∷ ks) s right are found books m n o j k l one two at next last = absurd are
  three_of_turns (turn ∷ turns) [] ks s right are found books m n o j k l one two at next last = absurd are
  three_of_turns (turn ∷ turns) (r ∷ rs) [] s right are found books m n o j k l one two at next last = absurd are
  three_of_turns (turn ∷ turns) (r ∷ rs) (x ∷ ks) s right are found books m zero o j k l one two at next last = absurd (omega (arith, one))
  three_of_turns (turn ∷ turns) (r ∷ rs) (x ∷ ks) s right are found books m (suc n) zero j k l one two at next last = absurd (omega (arith, two))
  three_of_turns (turn ∷ turns) (r ∷ rs) (x ∷ ks) s right are found books zero (suc n) (suc o) j k l one two at next last =
      let first = before_later stays config s turn right.0 books in
      let after = rest_later s turn r in
      let rest = two_of_turns turns rs ks (after_turn s turn r) right.1 are.1 (after.found (first.found found)) (after.are_books (first.are_books books)) n o k l (omega (arith, two)) next last in
      record {
        first = before_plans s turn;
        stands_first = subst (λ y. Stands place y (before_plans s turn)) (same_Some x j at) (stands_of turn r s x are.0 (first.found found) (first.are_books books));
        rest = record {
          first = rest.first;
          stands_first = rest.stands_first;
          later = later_trans (before_plans s turn) (after_turn s turn r) rest.first after rest.later;
          kept = kept_trans (before_plans s turn) (after_turn s turn r) rest.first (rest_kept s turn r) rest.kept;
          rest = rest.rest;
        };
      }
  three_of_turns (turn ∷ turns) (r ∷ rs) (x ∷ ks) s right are found books (suc m) (suc n) (suc o) j k l one two at next last =
      let first = before_later stays config s turn right.0 books in
      let whole = later_trans s (before_plans s turn) (after_turn s turn r) first (rest_later s turn r) in
      three_of_turns turns rs ks (after_turn s turn r) right.1 are.1 (whole.found found) (whole.are_books books) m n o j k l (omega (arith, one)) (omega (arith, two)) at next last

-- ---- the laws

pub stay_ready : StaysABook → MessagesStayReady
stay_ready stays script report place ks is unordered holds i before update after earlier later was updates again =
    let j = tested (is_ready i) (slice_get ks before) was in
    let k = tested is_update (slice_get ks update) updates in
    let l = tested (is_ready i) (slice_get ks after) again in
    let three = three_of_turns stays script.config place script.turns report ks opening (recursion_from_All (IsTurn script.config) script.turns is.is_script.turns) is.turns
    (new_found script.config.paths) (empty_books script.config.limit (length script.config.chains) is.is_script.config.rules.limit) before update after j.0 k.0 l.0 earlier later j.1 k.1 l.1 in
    ap (λ o. option_map_or (is_within_reach i) o false) k.1
    ∙ still place i j.0 k.0 l.0 three.first three.rest.first three.rest.rest.standing three.stands_first three.rest.stands_first three.rest.rest.stands three.rest.later three.rest.rest.later three.rest.rest.kept
    (holds before update j.0 k.0 earlier j.1 k.1 k.2)
    (all_in (λ (x : ClientTurn). All (λ (p : PathTask). p.order ≡ Unordered) x.task.paths) ks j.0 (recursion_from_All (λ (x : ClientTurn). All (λ (p : PathTask). p.order ≡ Unordered) x.task.paths) ks unordered) (from_get ks before j.0 j.1))
    (and_parts (is_far i j.0) (not (is_in_batch i j.0)) j.2).0 (and_parts (is_far i l.0) (not (is_in_batch i l.0)) l.2).0
  where
    opening : Standing
    opening = opening_standing script.config

-- where nothing is settled but what is taken, all is settled whole
nothing_settled : (client : ℕ) (turns : List Turn) (rs : List TurnReport) (s : Standing) → AllByRecursion (λ (turn : Turn). turn.settlements ≡ []) turns → SettlesWhole client s turns rs
nothing_settled client [] rs s none = tt
nothing_settled client (turn ∷ turns) [] s none = tt
nothing_settled client (turn ∷ turns) (r ∷ rs) s none =
    (subst (AreWholeFor client (after_plans s turn r)) (sym none.0) tt, nothing_settled client turns rs (after_turn s turn r) none.1)

pub taken_fewest : UpdatesAreFewest → MessagesStayReady → TakenUpdatesAreFewest
taken_fewest fewest stay script report place ks choice is nothing unordered holds punctual =
    fewest script report place ks choice is
    (nothing_settled place script.turns report (opening_standing script.config) (recursion_from_All (λ (turn : Turn). turn.settlements ≡ []) script.turns nothing))
    (stay script report place ks is unordered holds) punctual
