-- what is true of ready messages
use Rattle.std.proofs.Common.{ℕ, ◌+◌, ◌-◌, ◌<◌, ◌≤◌, ◌≡◌, ◌∷◌, ◌&&◌, suc, zero, Bool, true, false, ltb, leb, eqb, cond, List, [], length, map, take, get_or, Option, Some, None, refl, sym, ap, subst, ◌∙◌, inl, inr, zero-add, arith}
use Rattle.std.specs.Bool.{⊤}
use Rattle.std.specs.List.{All, find, filter, enumerate_from, range_with_len}
use Rattle.std.specs.Option.{option_map, some_prefix}
use Rattle.std.proofs.lemmas.Bool.{cases_lt, lt-ltb, le-ltb, eqb-true, leb-true, ltb-true, ltb-false}
use Rattle.std.proofs.lemmas.Option.{option_and_then_some, same_Some}
use Rattle.std.proofs.lemmas.List.{length-map, take-map, get_or_default}
use Rattle.std.proofs.Math.Seq.{take-nil}
use Rattle.std.proofs.lemmas.List.Elements.{All-map, All-filter, filter_passes}
use Rattle.std.proofs.lemmas.List.Sums.{fails_before_first}
use Rattle.std.proofs.lemmas.List.FromFn.{length-enumerate_from, get_or-enumerate_from}
use Rattle.rb_scan.specs.Packet.{Packet}
use Rattle.rb_scan.specs.Path.{Path}
use Rattle.rb_scan.specs.Going.{going_end, is_going, going}
use Rattle.rb_scan.specs.Owed.{expires_for, since_for, timeout_for, message_of, message_at, floor_of, packet_at, next_sequence, open_messages, messages, same_kind, run_end, is_ready, ready}
use Rattle.rb_scan.specs.declared.path.Order.{Order}
use Rattle.rb_scan.specs.declared.path.Order.TheVariants.{Ordered, Unordered}
use Rattle.rb_scan.specs.declared.message.Kind.{Kind}
use Rattle.rb_scan.specs.declared.message.Kind.TheVariants.{Receive, Acknowledge, Timeout}
use Rattle.rb_scan.specs.declared.message.PacketMsg.{PacketMsg}

-- ---- a ready message is within reach
not_late : (kind : Kind) (floor reach : ℕ) → (same_kind kind kind && ltb reach floor) ≡ false → floor ≤ reach
not_late Receive floor reach e = ltb-false reach floor e
not_late Acknowledge floor reach e = ltb-false reach floor e
not_late Timeout floor reach e = ltb-false reach floor e

within : (order : Order) (reach : ℕ) (ms : List PacketMsg) (place : ℕ) (m : PacketMsg) → get_or ms place m ≡ m → is_ready order reach ms place m ≡ true → m.floor ≤ reach
within Unordered reach ms place m is e = leb-true m.floor reach e
within Ordered reach ms place m is e =
    elim (same_kind m.kind Timeout) as (λ b. cond b (leb m.floor reach) (ltb place (run_end reach m.kind ms)) ≡ true → m.floor ≤ reach) [
      | true ↦ λ t. leb-true m.floor reach t
      | false ↦ λ t.
          let late = λ (n : PacketMsg). same_kind n.kind m.kind && ltb reach n.floor in
          not_late m.kind m.floor reach (ap late (sym is) ∙ fails_before_first late ms place m (ltb-true _ _ t))
    ]
    e

-- each place of a list has the message there
placed : (ms : List PacketMsg) → All (λ (p : ℕ × PacketMsg). get_or ms p.0 p.1 ≡ p.1) (enumerate_from 0 ms)
placed ms = λ k d less.
    let inside : k < length ms = omega (arith, length-enumerate_from 0 ms) in
    let same = get_or_default ms k (get_or ms k d.1) d.1 inside in
    rw (get_or-enumerate_from 0 ms k d inside, zero-add) same

pub ready-within : (ms : List PacketMsg) (order : Order) (reach : ℕ) → All (λ (m : PacketMsg). m.floor ≤ reach) (ready ms order (Some reach))
ready-within ms order reach =
    let test = λ (p : ℕ × PacketMsg). is_ready order reach ms p.0 p.1 in
    let ps = enumerate_from 0 ms in
    let here = All-filter test (λ (p : ℕ × PacketMsg). get_or ms p.0 p.1 ≡ p.1) ps (placed ms) in
    let passes = filter_passes test ps in
    All-map (λ (m : PacketMsg). m.floor ≤ reach) (λ (p : ℕ × PacketMsg). p.1) (filter test ps) (λ k d less. within order reach ms _ _ (here k d less) (passes k d less))

-- ---- the ready receives of an ORDERED path
find-passes : (test : Packet → Bool) (ps : List Packet) (p : Packet) → find test ps ≡ Some p → test p ≡ true
find-passes test [] p is = cc
find-passes test (q ∷ ps) p is =
    (elim (test q) as (λ b. test q ≡ b → cond b (Some q) (find test ps) ≡ Some p → test p ≡ true) [
      | true ↦ λ e here. ap test (sym (same_Some q p here)) ∙ e
      | false ↦ λ e later. find-passes test ps p later
    ])
    refl is

-- a message that is found for a sequence has that sequence and its kind
found : (path : Path) (kind : Kind) (s : ℕ) (m : PacketMsg) → message_at path kind s ≡ Some m → (m.sequence ≡ s) × (m.kind ≡ kind)
found path kind s m e =
    option_and_then_some (message_of path.destination kind) (packet_at path s) m e (λ p at made.
    let numbered : p.sequence ≡ s = eqb-true p.sequence s (find-passes (λ (q : Packet). eqb q.sequence s) path.packets p at) in
    (elim (floor_of path.destination kind p) as (λ o. option_map (λ (floor : ℕ). record { kind = kind; sequence = p.sequence; floor = floor; expires = expires_for kind p; since = since_for kind p; timeout = timeout_for kind p }) o ≡ Some m → (m.sequence ≡ s) × (m.kind ≡ kind)) [
      | None ↦ λ none. cc
      | Some floor ↦ λ some. let is = same_Some _ _ some in (ap (λ (n : PacketMsg). n.sequence) (sym is) ∙ numbered, ap (λ (n : PacketMsg). n.kind) (sym is))
    ])
    made)

abbrev AreReceives : List PacketMsg → Type 0
AreReceives [] = ⊤
AreReceives (m ∷ ms) = (m.kind ≡ Receive) × AreReceives ms

-- the messages that numbers from s on find, as far as they find any
run-receives : (f : ℕ → Option PacketMsg) → ((s : ℕ) (m : PacketMsg) → f s ≡ Some m → (m.sequence ≡ s) × (m.kind ≡ Receive))
    → (s n : ℕ) → let ms = some_prefix (map f (range_with_len s n)) in AreReceives ms × (map (λ (m : PacketMsg). m.sequence) ms ≡ range_with_len s (length ms))
run-receives f tells s zero = (tt, refl)
run-receives f tells s (suc n) =
    (elim (f s) as (λ o. f s ≡ o → let ms = some_prefix (o ∷ map f (range_with_len (s + 1) n)) in AreReceives ms × (map (λ (m : PacketMsg). m.sequence) ms ≡ range_with_len s (length ms))) [
      | None ↦ λ e. (tt, refl)
      | Some m ↦ λ e.
          let told = tells s m e in
          let rest = run-receives f tells (s + 1) n in
          ((told.1, rest.0), λ i. told.0 i ∷ rest.1 i)
    ])
    refl

-- receives are ready up to the end of their run
ready-receives : (reach : ℕ) (all ms : List PacketMsg) (n : ℕ) → AreReceives ms
    → map (λ (p : ℕ × PacketMsg). p.1) (filter (λ (p : ℕ × PacketMsg). is_ready Ordered reach all p.0 p.1) (enumerate_from n ms)) ≡ take (run_end reach Receive all - n) ms
ready-receives reach all [] n h = sym (take-nil (run_end reach Receive all - n))
ready-receives reach all (m ∷ ms) n h =
    let end = run_end reach Receive all in
    let later = ready-receives reach all ms (n + 1) h.1 in
    elim (cases_lt n end) [
      | inl less ↦
          let test : is_ready Ordered reach all n m ≡ true = rw h.0 (lt-ltb n end less) in
          let more : end - n ≡ suc (end - (n + 1)) = omega arith in
          rw (test, more) (ap (λ ns. m ∷ ns) later)
      | inr past ↦
          let test : is_ready Ordered reach all n m ≡ false = rw h.0 (le-ltb n end past) in
          let none : end - n ≡ 0 = omega arith in
          let none_later : end - (n + 1) ≡ 0 = omega arith in
          rw (test, none) (later ∙ rw none_later refl)
    ]

-- the front of a run of numbers
take-range : (s n k : ℕ) → take k (range_with_len s n) ≡ range_with_len s (length (take k (range_with_len s n)))
take-range s n zero = refl
take-range s zero (suc k) = refl
take-range s (suc n) (suc k) = ap (λ ns. s ∷ ns) (take-range (s + 1) n k)

ready-consecutive : (reach s : ℕ) (all : List PacketMsg) → AreReceives all → map (λ (m : PacketMsg). m.sequence) all ≡ range_with_len s (length all)
    → let kept = ready all Ordered (Some reach) in map (λ (m : PacketMsg). m.sequence) kept ≡ range_with_len s (length kept)
ready-consecutive reach s all h e =
    let sequence = λ (m : PacketMsg). m.sequence in
    let end = run_end reach Receive all - 0 in
    let kept = ready all Ordered (Some reach) in
    let front : map sequence kept ≡ take end (range_with_len s (length all)) =
    ap (map sequence) (ready-receives reach all all 0 h) ∙ sym (take-map sequence end all) ∙ ap (take end) e in
    let count : length kept ≡ length (take end (range_with_len s (length all))) = sym (length-map kept sequence) ∙ ap length front in
    front ∙ take-range s (length all) end ∙ ap (range_with_len s) (sym count)

-- the receives that an ORDERED path owes
owed-receives : (path : Path) → path.order ≡ Ordered
    → AreReceives (messages path Receive)
    × (map (λ (m : PacketMsg). m.sequence) (messages path Receive) ≡ range_with_len (next_sequence path Receive) (length (messages path Receive)))
owed-receives path ordered =
    let next = next_sequence path Receive in
    elim path.closed as (λ b. let ms = cond b [] (open_messages path.order path Receive) in AreReceives ms × (map (λ (m : PacketMsg). m.sequence) ms ≡ range_with_len next (length ms))) [
      | true ↦ (tt, refl)
      | false ↦ rw ordered (run-receives (message_at path Receive) (found path Receive) next (length path.packets))
    ]

pub receives-consecutive : (path : Path) (reach : ℕ) → path.order ≡ Ordered
    → let kept = ready (messages path Receive) Ordered (Some reach)
    in map (λ (m : PacketMsg). m.sequence) kept ≡ range_with_len (next_sequence path Receive) (length kept)
receives-consecutive path reach ordered =
    let told = owed-receives path ordered in
    ready-consecutive reach (next_sequence path Receive) (messages path Receive) told.0 told.1

-- ---- those that go

-- receives go up to the first that can't
going-receives : (can : PacketMsg → Bool) (all ms : List PacketMsg) (n : ℕ) → AreReceives ms
    → map (λ (p : ℕ × PacketMsg). p.1) (filter (λ (p : ℕ × PacketMsg). is_going Ordered can all p.0 p.1) (enumerate_from n ms)) ≡ take (going_end can Receive all - n) ms
going-receives can all [] n h = sym (take-nil (going_end can Receive all - n))
going-receives can all (m ∷ ms) n h =
    let end = going_end can Receive all in
    let later = going-receives can all ms (n + 1) h.1 in
    elim (cases_lt n end) [
      | inl less ↦
          let test : is_going Ordered can all n m ≡ true = rw h.0 (lt-ltb n end less) in
          let more : end - n ≡ suc (end - (n + 1)) = omega arith in
          rw (test, more) (ap (λ ns. m ∷ ns) later)
      | inr past ↦
          let test : is_going Ordered can all n m ≡ false = rw h.0 (le-ltb n end past) in
          let none : end - n ≡ 0 = omega arith in
          let none_later : end - (n + 1) ≡ 0 = omega arith in
          rw (test, none) (later ∙ rw none_later refl)
    ]

front-receives : (k : ℕ) (ms : List PacketMsg) → AreReceives ms → AreReceives (take k ms)
front-receives zero ms h = tt
front-receives (suc k) [] h = tt
front-receives (suc k) (m ∷ ms) h = (h.0, front-receives k ms h.1)

front-consecutive : (k s : ℕ) (ms : List PacketMsg) → map (λ (m : PacketMsg). m.sequence) ms ≡ range_with_len s (length ms)
    → map (λ (m : PacketMsg). m.sequence) (take k ms) ≡ range_with_len s (length (take k ms))
front-consecutive k s ms e =
    let sequence = λ (m : PacketMsg). m.sequence in
    let front : map sequence (take k ms) ≡ take k (range_with_len s (length ms)) = sym (take-map sequence k ms) ∙ ap (take k) e in
    let count : length (take k ms) ≡ length (take k (range_with_len s (length ms))) = sym (length-map (take k ms) sequence) ∙ ap length front in
    front ∙ take-range s (length ms) k ∙ ap (range_with_len s) (sym count)

pub going-consecutive : (path : Path) (can : PacketMsg → Bool) (reach : ℕ) → path.order ≡ Ordered
    → let kept = ready (going Ordered can (messages path Receive)) Ordered (Some reach)
    in map (λ (m : PacketMsg). m.sequence) kept ≡ range_with_len (next_sequence path Receive) (length kept)
going-consecutive path can reach ordered =
    let told = owed-receives path ordered in
    let all = messages path Receive in
    let end = going_end can Receive all - 0 in
    let front : going Ordered can all ≡ take end all = going-receives can all all 0 told.0 in
    subst (λ ms. let kept = ready ms Ordered (Some reach) in map (λ (m : PacketMsg). m.sequence) kept ≡ range_with_len (next_sequence path Receive) (length kept)) (sym front)
    (ready-consecutive reach (next_sequence path Receive) (take end all) (front-receives end all told.0) (front-consecutive end (next_sequence path Receive) all told.1))
