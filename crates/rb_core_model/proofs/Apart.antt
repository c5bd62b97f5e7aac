-- No message stands twice among those that are ready.
use Rattle.std.proofs.Common.{◌≡◌, ℕ, zero, suc, ◌+◌, ◌<◌, ◌≤◌, Bool, true, false, cond, List, [], ◌∷◌, ◌++◌, length, map, Option, Some, None, refl, sym, ap, ◌∙◌, subst, arith, add-zero}
use Rattle.std.specs.List.{filter, filter_map, flat_map, cons_option, enumerate_from, range_with_len, slice_get, AllByRecursion}
use Rattle.std.specs.Option.{option_map, option_map_or, option_and_then, option_to_list, some_prefix}
use Rattle.std.proofs.lemmas.Option.{none-some}
use Rattle.rb_script_types.specs.declared.config.RefreshTo.{RefreshTo}
use Rattle.rb_script_types.specs.declared.config.RefreshTo.TheVariants.{Lowest, Highest, Newer}
use Rattle.rb_scan.specs.Going.{can_go, is_going}
use Rattle.rb_scan.specs.Owed.{expires_for, since_for, timeout_for, floor_of, message_of, packet_at, message_at, next_sequence, open_messages, messages, owed_part, is_ready, ready}
use Rattle.rb_scan.specs.Packet.{Packet}
use Rattle.rb_scan.specs.Path.{Path}
use Rattle.rb_scan.specs.declared.message.Kind.{Kind}
use Rattle.rb_scan.specs.declared.message.Kind.TheVariants.{Receive, Acknowledge, Timeout}
use Rattle.rb_scan.specs.declared.message.PacketMsg.{PacketMsg}
use Rattle.rb_scan.specs.declared.path.Order.{Order}
use Rattle.rb_scan.specs.declared.path.Order.TheVariants.{Ordered, Unordered}
use Rattle.rb_base.specs.declared.gate.Part.{Part}
use Rattle.rb_base.specs.declared.gate.Part.TheVariants.{Packets, Channel}
use Rattle.rb_core_model.specs.Fits.{AreApart}
use Rattle.rb_core_model.specs.Config.{part_for}
use Rattle.rb_core_model.specs.Standing.{PathState, Standing, view_of_path, owed_at, path_task, path_tasks}
use Rattle.rb_plan_client.specs.Task.{Task, PathTask, Message, message_on, bars_of, going_by, going_on, ready_on}
use Rattle.rb_book.proofs.Rising.{Up}
use Rattle.rb_core_model.proofs.Options.{mapped}
use Rattle.rb_core_model.proofs.Owed.{append_all, found_sequence, kept_all}

-- ---- lists

up_append : {X : Type 0} (R : X → X → Type 0) (xs ys : List X) → Up R xs → Up R ys → AllByRecursion (λ x. AllByRecursion (R x) ys) xs → Up R (xs ++ ys)
up_append R [] ys a b c = b
up_append R (x ∷ xs) ys a b c = (append_all (R x) xs ys a.0 c.0, up_append R xs ys a.1 b c.1)

module _ {X : Type 0} (R : X → X → Type 0) (test : ℕ × X → Bool) where
  up_kept : (n : ℕ) (xs : List X) → Up R xs → Up R (map (λ (p : ℕ × X). p.1) (filter test (enumerate_from n xs)))
  up_kept n [] up = tt
  up_kept n (x ∷ xs) up = go (test (n, x)) (up_kept (n + 1) xs up.1) (kept_all (R x) test (n + 1) xs up.0)
    where
      go : (b : Bool) → Up R (map (λ (p : ℕ × X). p.1) (filter test (enumerate_from (n + 1) xs))) → AllByRecursion (R x) (map (λ (p : ℕ × X). p.1) (filter test (enumerate_from (n + 1) xs)))
          → Up R (map (λ (p : ℕ × X). p.1) (cond b ((n, x) ∷ filter test (enumerate_from (n + 1) xs)) (filter test (enumerate_from (n + 1) xs))))
      go true rest all = (all, rest)
      go false rest all = rest

-- ---- what is owed

Differ : PacketMsg → PacketMsg → Type 0
Differ a b = (a.kind ≡ b.kind) × (a.sequence ≡ b.sequence) → ⊥

-- the message is of the kind, and from the sequence on
abbrev Is : Kind → ℕ → PacketMsg → Type 0
Is kind least m = (m.kind ≡ kind) × (least ≤ m.sequence)

made : (records : List (ℕ × ℕ)) (kind : Kind) (q : Packet) (m : PacketMsg) → message_of records kind q ≡ Some m → (m.kind ≡ kind) × (m.sequence ≡ q.sequence)
made records kind q m e =
    let is = mapped (λ (floor : ℕ). record { kind = kind; sequence = q.sequence; floor = floor; expires = expires_for kind q; since = since_for kind q; timeout = timeout_for kind q }) (floor_of records kind q) m e in
    (sym (ap (λ (x : PacketMsg). x.kind) is.2), sym (ap (λ (x : PacketMsg). x.sequence) is.2))

apart_above : (kind : Kind) (m : PacketMsg) (ms : List PacketMsg) → AllByRecursion (Is kind (suc m.sequence)) ms → AllByRecursion (Differ m) ms
unfolding Differ
apart_above kind m [] all = tt
apart_above kind m (n ∷ ms) all = (λ same. (let e = same.1 in let le = all.0.1 in omega arith), apart_above kind m ms all.1)

lower : (kind : Kind) (m n : ℕ) (ms : List PacketMsg) → n ≤ m → AllByRecursion (Is kind m) ms → AllByRecursion (Is kind n) ms
lower kind m n [] le all = tt
lower kind m n (x ∷ ms) le all = ((all.0.0, (let high = all.0.1 in omega arith)), lower kind m n ms le all.1)

-- messages of one kind from a sequence on, none twice
record Fine (kind : Kind) (least : ℕ) (ms : List PacketMsg) : Type 0 where
  all : AllByRecursion (Is kind least) ms
  apart : Up Differ ms

fine_none : (kind : Kind) (least : ℕ) → Fine kind least []
fine_none kind least = record { all = tt; apart = tt }

fine_more : (kind : Kind) (least : ℕ) (m : PacketMsg) (ms : List PacketMsg) → m.kind ≡ kind → least ≤ m.sequence → Fine kind (suc m.sequence) ms → Fine kind least (m ∷ ms)
fine_more kind least m ms is le rest = record {
  all = ((is, le), lower kind (suc m.sequence) least ms (omega arith) rest.all);
  apart = (apart_above kind m ms rest.all, rest.apart);
}

module _ (v : Path) (kind : Kind) where
  from_packets : (least : ℕ) (ps : List Packet) → Up (λ (p q : Packet). p.sequence < q.sequence) ps → AllByRecursion (λ (q : Packet). least ≤ q.sequence) ps → Fine kind least (filter_map (message_of v.destination kind) ps)
  from_packets least [] up from = fine_none kind least
  from_packets least (q ∷ ps) up from = go (message_of v.destination kind q) refl (from_packets (suc q.sequence) ps up.1 (above ps up.0)) (from_packets least ps up.1 from.1)
    where
      above : (ps : List Packet) → AllByRecursion (λ (p : Packet). q.sequence < p.sequence) ps → AllByRecursion (λ (p : Packet). suc q.sequence ≤ p.sequence) ps
      above [] a = tt
      above (p ∷ ps) a = (a.0, above ps a.1)

      go : (o : Option PacketMsg) → message_of v.destination kind q ≡ o → Fine kind (suc q.sequence) (filter_map (message_of v.destination kind) ps) → Fine kind least (filter_map (message_of v.destination kind) ps)
          → Fine kind least (cons_option o (filter_map (message_of v.destination kind) ps))
      go None e high low = low
      go (Some m) e high low =
          let is = made v.destination kind q m e in
          fine_more kind least m _ is.0 (subst (λ n. least ≤ n) (sym is.1) from.0) (subst (λ n. Fine kind (suc n) (filter_map (message_of v.destination kind) ps)) (sym is.1) high)

  at_is : (s : ℕ) (m : PacketMsg) → message_at v kind s ≡ Some m → (m.kind ≡ kind) × (m.sequence ≡ s)
  at_is s m e = go (packet_at v s) refl e
    where
      go : (o : Option Packet) → packet_at v s ≡ o → option_and_then (message_of v.destination kind) o ≡ Some m → (m.kind ≡ kind) × (m.sequence ≡ s)
      go None at f = absurd (none-some m f)
      go (Some q) at f = (let is = made v.destination kind q m f in (is.0, is.1 ∙ found_sequence v.packets s q at))

  from_run : (count s : ℕ) → Fine kind s (some_prefix (map (message_at v kind) (range_with_len s count)))
  from_run zero s = fine_none kind s
  from_run (suc count) s = go (message_at v kind s) refl (from_run count (s + 1))
    where
      go : (o : Option PacketMsg) → message_at v kind s ≡ o → Fine kind (s + 1) (some_prefix (map (message_at v kind) (range_with_len (s + 1) count)))
          → Fine kind s (some_prefix (o ∷ map (message_at v kind) (range_with_len (s + 1) count)))
      go None e rest = fine_none kind s
      go (Some m) e rest =
          let is = at_is s m e in
          let next : s + 1 ≡ suc m.sequence = (let at = is.1 in omega arith) in
          fine_more kind s m _ is.0 (let at = is.1 in omega arith) (subst (λ n. Fine kind n (some_prefix (map (message_at v kind) (range_with_len (s + 1) count)))) next rest)

  from_one : (s : ℕ) → Fine kind 0 (option_to_list (message_at v kind s))
  from_one s = go (message_at v kind s) refl
    where
      go : (o : Option PacketMsg) → message_at v kind s ≡ o → Fine kind 0 (option_to_list o)
      go None e = fine_none kind 0
      go (Some m) e = fine_more kind 0 m [] (at_is s m e).0 (omega arith) (fine_none kind (suc m.sequence))

  from_low : (least : ℕ) (ms : List PacketMsg) → Fine kind least ms → Fine kind 0 ms
  from_low least ms f = record { all = lower kind least 0 ms (omega arith) f.all; apart = f.apart }

by_order : (v : Path) (order : Order) (kind : Kind) → Up (λ (p q : Packet). p.sequence < q.sequence) v.packets → AllByRecursion (λ (q : Packet). 0 ≤ q.sequence) v.packets → Fine kind 0 (open_messages order v kind)
by_order v Unordered kind up from = from_packets v kind 0 v.packets up from
by_order v Ordered Receive up from = from_low v Receive _ _ (from_run v Receive (length v.packets) (next_sequence v Receive))
by_order v Ordered Acknowledge up from = from_low v Acknowledge _ _ (from_run v Acknowledge (length v.packets) (next_sequence v Acknowledge))
by_order v Ordered Timeout up from = from_one v Timeout (next_sequence v Timeout)

from_zero : (ps : List Packet) → AllByRecursion (λ (q : Packet). 0 ≤ q.sequence) ps
from_zero [] = tt
from_zero (p ∷ ps) = (omega arith, from_zero ps)

fine_kind : (v : Path) (kind : Kind) → Up (λ (p q : Packet). p.sequence < q.sequence) v.packets → Fine kind 0 (messages v kind)
fine_kind v kind up = go v.closed
  where
    go : (b : Bool) → Fine kind 0 (cond b [] (open_messages v.order v kind))
    go true = fine_none kind 0
    go false = by_order v v.order kind up (from_zero v.packets)

-- an acknowledgement is no timeout
across : (xs ys : List PacketMsg) → AllByRecursion (Is Acknowledge 0) xs → AllByRecursion (Is Timeout 0) ys → AllByRecursion (λ x. AllByRecursion (Differ x) ys) xs
unfolding Differ
across [] ys a b = tt
across (x ∷ xs) ys a b = (each ys b, across xs ys a.1 b)
  where
    each : (ys : List PacketMsg) → AllByRecursion (Is Timeout 0) ys → AllByRecursion (λ (y : PacketMsg). (x.kind ≡ y.kind) × (x.sequence ≡ y.sequence) → ⊥) ys
    each [] c = tt
    each (y ∷ ys) c = (λ same. (let kinds : Acknowledge ≡ Timeout = sym a.0.0 ∙ same.0 ∙ c.0.0 in cc), each ys c.1)

apart_part : (v : Path) (part : Part) → Up (λ (p q : Packet). p.sequence < q.sequence) v.packets → Up Differ (owed_part v part)
apart_part v Packets up = (fine_kind v Receive up).apart
apart_part v Channel up =
    let acks = fine_kind v Acknowledge up in
    let timeouts = fine_kind v Timeout up in
    up_append Differ (messages v Acknowledge) (messages v Timeout) acks.apart timeouts.apart (across (messages v Acknowledge) (messages v Timeout) acks.all timeouts.all)

-- ---- messages of paths

on_path : (t : PathTask) (ms : List PacketMsg) → AllByRecursion (λ (m : Message). m.path ≡ t.path) (map (message_on t) ms)
on_path t [] = tt
on_path t (m ∷ ms) = (refl, on_path t ms)

apart_on : (t : PathTask) (ms : List PacketMsg) → Up Differ ms → Up AreApart (map (message_on t) ms)
unfolding Differ
apart_on t [] up = tt
apart_on t (m ∷ ms) up = (each ms up.0, apart_on t ms up.1)
  where
    each : (ms : List PacketMsg) → AllByRecursion (λ (n : PacketMsg). (m.kind ≡ n.kind) × (m.sequence ≡ n.sequence) → ⊥) ms → AllByRecursion (AreApart (message_on t m)) (map (message_on t) ms)
    each [] a = tt
    each (n ∷ ms) a = (λ same. a.0 (same.1, same.2), each ms a.1)

up_ready : (ms : List PacketMsg) (order : Order) (reach : Option ℕ) → Up Differ ms → Up Differ (ready ms order reach)
up_ready ms order None up = tt
up_ready ms order (Some reach) up = up_kept Differ (λ (p : ℕ × PacketMsg). is_ready order reach ms p.0 p.1) 0 ms up

up_going : (u : Task) (t : PathTask) (to : RefreshTo) → Up Differ t.owed → Up Differ (going_by u t to)
up_going u t Lowest up = up
up_going u t Highest up = up
up_going u t Newer up = up_kept Differ (λ (x : ℕ × PacketMsg). is_going t.order (can_go (bars_of u t)) t.owed x.0 x.1) 0 t.owed up

apart_paths : (n : ℕ) (xs ys : List Message) → AllByRecursion (λ (m : Message). m.path ≡ n) xs → AllByRecursion (λ (m : Message). n < m.path) ys → AllByRecursion (λ x. AllByRecursion (AreApart x) ys) xs
apart_paths n [] ys a b = tt
apart_paths n (x ∷ xs) ys a b = (each ys b, apart_paths n xs ys a.1 b)
  where
    each : (ys : List Message) → AllByRecursion (λ (m : Message). n < m.path) ys → AllByRecursion (AreApart x) ys
    each [] c = tt
    each (y ∷ ys) c = (λ same. (let here = a.0 in let there = c.0 in let e = same.0 in omega arith), each ys c.1)

module _ (s : Standing) (sound : (n : ℕ) (p : PathState) → slice_get s.paths n ≡ Some p → Up (λ (p q : Packet). p.sequence < q.sequence) p.packets) (client : ℕ) (u : Task) (reach : Option ℕ) where
  abbrev ready_from : ℕ → List PathState → List Message
  ready_from n rest = flat_map (ready_on u reach) (filter_map (path_task (owed_at s) client) (enumerate_from n rest))

  record FineFrom (n : ℕ) (ms : List Message) : Type 0 where
    above : AllByRecursion (λ (m : Message). n ≤ m.path) ms
    apart : Up AreApart ms

  higher : (n : ℕ) (ms : List Message) → AllByRecursion (λ (m : Message). n + 1 ≤ m.path) ms → AllByRecursion (λ (m : Message). n < m.path) ms
  higher n [] a = tt
  higher n (m ∷ ms) a = ((let le = a.0 in omega arith), higher n ms a.1)

  least : (n : ℕ) (ms : List Message) → AllByRecursion (λ (m : Message). n + 1 ≤ m.path) ms → AllByRecursion (λ (m : Message). n ≤ m.path) ms
  least n [] a = tt
  least n (m ∷ ms) a = ((let le = a.0 in omega arith), least n ms a.1)

  equal : (n : ℕ) (ms : List Message) → AllByRecursion (λ (m : Message). m.path ≡ n) ms → AllByRecursion (λ (m : Message). n ≤ m.path) ms
  equal n [] a = tt
  equal n (m ∷ ms) a = ((let e = a.0 in omega arith), equal n ms a.1)

  from_place : (n : ℕ) (rest : List PathState) → ((k : ℕ) (p : PathState) → slice_get rest k ≡ Some p → slice_get s.paths (n + k) ≡ Some p) → FineFrom n (ready_from n rest)
  from_place n [] places = record { above = tt; apart = tt }
  from_place n (p ∷ rest) places =
      go (part_for p.config client) (from_place (n + 1) rest (λ k q e. let same : (n + 1) + k ≡ n + suc k = omega arith in ap (slice_get s.paths) same ∙ places (suc k) q e))
    where
      at : slice_get s.paths n ≡ Some p
      at = ap (slice_get s.paths) (sym (add-zero n)) ∙ places 0 p refl

      go : (o : Option Part) → FineFrom (n + 1) (ready_from (n + 1) rest)
          → FineFrom n (flat_map (ready_on u reach) (cons_option (option_map (λ part. record { path = n; order = p.config.order; gas = p.config.gas; waits = p.config.waits; owed = owed_at s n part }) o) (filter_map (path_task (owed_at s) client) (enumerate_from (n + 1) rest))))
      go None f = record { above = least n (ready_from (n + 1) rest) f.above; apart = f.apart }
      go (Some part) f =
          let t : PathTask = record { path = n; order = p.config.order; gas = p.config.gas; waits = p.config.waits; owed = owed_at s n part } in
          let own : Up Differ (owed_at s n part) = subst (λ o. Up Differ (option_map_or (λ v. owed_part v part) (option_map (view_of_path s.books) o) [])) (sym at) (apart_part (view_of_path s.books p) part (sound n p at)) in
          let kept = ready (going_on u t) p.config.order reach in
          record {
            above = append_all (λ (m : Message). n ≤ m.path) (ready_on u reach t) (ready_from (n + 1) rest) (equal n (ready_on u reach t) (on_path t kept)) (least n (ready_from (n + 1) rest) f.above);
            apart = up_append AreApart (ready_on u reach t) (ready_from (n + 1) rest) (apart_on t kept (up_ready (going_on u t) p.config.order reach (up_going u t u.config.refresh_to own))) f.apart
                (apart_paths n (ready_on u reach t) (ready_from (n + 1) rest) (on_path t kept) (higher n (ready_from (n + 1) rest) f.above));
          }

  pub messages_apart : Up AreApart (flat_map (ready_on u reach) (path_tasks (owed_at s) s.paths client))
  messages_apart = (from_place 0 s.paths (λ k p e. let same : 0 + k ≡ k = omega arith in ap (slice_get s.paths) same ∙ e)).apart
