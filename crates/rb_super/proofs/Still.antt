-- What is ready of the messages that go, by its place in a path's list: as fewer of them can go, no other one becomes ready.
use Rattle.std.proofs.Common.{◌≡◌, ℕ, zero, suc, ◌+◌, ◌<◌, ◌≤◌, Bool, true, false, cond, not, ◌&&◌, nat_le, nat_lt, List, [], ◌∷◌, map, Some, refl, sym, ap, ◌∙◌, subst, arith}
use Rattle.std.specs.List.{enumerate_from, filter, position_or_len, slice_get}
use Rattle.std.proofs.lemmas.Bool.{true≢false, and_parts, and_from, not-true, not-false, not_from_false, lt-ltb, ltb-true}
use Rattle.std.proofs.lemmas.Option.{none-some, same_Some}
use Rattle.rb_scan.specs.Going.{going_end, is_going, going}
use Rattle.rb_scan.specs.Owed.{same_kind, run_end, is_ready, ready}
use Rattle.rb_scan.specs.declared.message.Kind.{Kind}
use Rattle.rb_scan.specs.declared.message.Kind.TheVariants.{Receive, Timeout}
use Rattle.rb_scan.specs.declared.message.PacketMsg.{PacketMsg}
use Rattle.rb_scan.specs.declared.path.Order.{Order}
use Rattle.rb_scan.specs.declared.path.Order.TheVariants.{Ordered, Unordered}
use Rattle.rb_plan_client.specs.Same.{kinds_Decides}
use Rattle.rb_super.proofs.Going.{to_going}
use Rattle.rb_super.proofs.Members.{In, from_map, from_passing, from_places, from_get, to_get, in_map, in_passing, in_places}
use Rattle.rb_super.proofs.Packets.{backwards}

-- ---- places up to which no message passes a test

abbrev NoneUpTo : (PacketMsg → Bool) → List PacketMsg → ℕ → Type 0
NoneUpTo bad ms k = (i : ℕ) (x : PacketMsg) → i ≤ k → slice_get ms i ≡ Some x → bad x ≡ false

none_here : (bad : PacketMsg → Bool) (x : PacketMsg) (xs : List PacketMsg) → bad x ≡ false → NoneUpTo bad (x ∷ xs) zero
none_here bad x xs e zero y le at = ap bad (sym (same_Some x y at)) ∙ e
none_here bad x xs e (suc i) y le at = absurd (omega (arith, le))

none_more : (bad : PacketMsg → Bool) (x : PacketMsg) (xs : List PacketMsg) (k : ℕ) → bad x ≡ false → NoneUpTo bad xs k → NoneUpTo bad (x ∷ xs) (suc k)
none_more bad x xs k e none zero y le at = ap bad (sym (same_Some x y at)) ∙ e
none_more bad x xs k e none (suc i) y le at = none i y (omega (arith, le)) at

none_rest : (bad : PacketMsg → Bool) (x : PacketMsg) (xs : List PacketMsg) (k : ℕ) → NoneUpTo bad (x ∷ xs) (suc k) → NoneUpTo bad xs k
none_rest bad x xs k none i y le at = none (suc i) y (omega (arith, le)) at

-- so the first that does stands behind
before_end : (bad : PacketMsg → Bool) (ms : List PacketMsg) (k : ℕ) (m : PacketMsg) → slice_get ms k ≡ Some m → NoneUpTo bad ms k → k < position_or_len bad ms
before_end bad [] k m at none = absurd (none-some m at)
before_end bad (x ∷ xs) zero m at none =
    subst (λ b. 0 < cond (not b) (1 + position_or_len bad xs) 0) (sym (none 0 x (omega arith) refl)) (omega arith)
before_end bad (x ∷ xs) (suc k) m at none =
    let rest = before_end bad xs k m at (none_rest bad x xs k none) in
    subst (λ b. suc k < cond (not b) (1 + position_or_len bad xs) 0) (sym (none 0 x (omega arith) refl)) (omega (arith, rest))

none_before : (bad : PacketMsg → Bool) (ms : List PacketMsg) (k : ℕ) → k < position_or_len bad ms → NoneUpTo bad ms k
none_before bad [] k lt = absurd (omega (arith, lt))
none_before bad (x ∷ xs) k lt = go (bad x) refl lt (λ j less. none_before bad xs j less)
  where
    go : (b : Bool) → bad x ≡ b → k < cond (not b) (1 + position_or_len bad xs) 0 → ((j : ℕ) → j < position_or_len bad xs → NoneUpTo bad xs j) → NoneUpTo bad (x ∷ xs) k
    go true e less rest i y le at = absurd (omega (arith, less))
    go false e less rest zero y le at = ap bad (sym (same_Some x y at)) ∙ e
    go false e less rest (suc i) y le at = rest i (omega (arith, le, less)) i y (omega arith) at

-- ---- a list whose messages of one kind are kept up to a place

module _ (kind : Kind) (end : ℕ) (test : ℕ → PacketMsg → Bool) (by_end : (n : ℕ) (x : PacketMsg) → x.kind ≡ kind → test n x ≡ nat_lt n end)
    (bad : PacketMsg → Bool) (of_kind : (x : PacketMsg) → bad x ≡ true → x.kind ≡ kind)
  where
    abbrev passes : ℕ × PacketMsg → Bool
    passes p = test p.0 p.1

    abbrev kept : ℕ → List PacketMsg → List PacketMsg
    kept from ms = map (λ (p : ℕ × PacketMsg). p.1) (filter passes (enumerate_from from ms))

    abbrev tail_kept : Bool → ℕ → PacketMsg → List PacketMsg → List PacketMsg
    tail_kept b from x xs = map (λ (p : ℕ × PacketMsg). p.1) (cond b ((from, x) ∷ filter passes (enumerate_from (from + 1) xs)) (filter passes (enumerate_from (from + 1) xs)))

    -- where a kept one stands in the whole list
    stands : (from : ℕ) (ms : List PacketMsg) (k : ℕ) (m : PacketMsg) → m.kind ≡ kind → slice_get (kept from ms) k ≡ Some m → NoneUpTo bad (kept from ms) k
        → (j : ℕ) × (slice_get ms j ≡ Some m) × (from + j < end) × NoneUpTo bad ms j
    stands from [] k m is at none = absurd (none-some m at)
    stands from (x ∷ xs) k m is at none = go (test from x) refl k at none (λ j there clear. stands (from + 1) xs j m is there clear)
      where
        go : (b : Bool) → test from x ≡ b → (k : ℕ) → slice_get (tail_kept b from x xs) k ≡ Some m → NoneUpTo bad (tail_kept b from x xs) k
            → ((k : ℕ) → slice_get (kept (from + 1) xs) k ≡ Some m → NoneUpTo bad (kept (from + 1) xs) k → (j : ℕ) × (slice_get xs j ≡ Some m) × ((from + 1) + j < end) × NoneUpTo bad xs j)
            → (j : ℕ) × (slice_get (x ∷ xs) j ≡ Some m) × (from + j < end) × NoneUpTo bad (x ∷ xs) j
        go true t zero there clear rest =
            let same = same_Some x m there in
            let low = ltb-true from end (sym (by_end from x (ap (λ (y : PacketMsg). y.kind) same ∙ is)) ∙ t) in
            (0, there, omega (arith, low), none_here bad x xs (clear 0 x (omega arith) refl))
        go true t (suc k) there clear rest =
            let one = rest k there (none_rest bad x (kept (from + 1) xs) k clear) in
            (suc one.0, one.1, omega (arith, one.2), none_more bad x xs one.0 (clear 0 x (omega arith) refl) one.3)
        go false t k there clear rest =
            let one = rest k there clear in
            (suc one.0, one.1, omega (arith, one.2), none_more bad x xs one.0 (good (bad x) refl one.0 one.2) one.3)
          where
            good : (b : Bool) → bad x ≡ b → (j : ℕ) → (from + 1) + j < end → bad x ≡ false
            good false e j low = e
            good true e j low = absurd (true≢false (sym (lt-ltb from end (omega (arith, low))) ∙ sym (by_end from x (of_kind x e)) ∙ t))

    -- and where it is kept
    is_kept : (from : ℕ) (ms : List PacketMsg) (j : ℕ) (m : PacketMsg) → m.kind ≡ kind → slice_get ms j ≡ Some m → from + j < end → NoneUpTo bad ms j
        → (k : ℕ) × (slice_get (kept from ms) k ≡ Some m) × NoneUpTo bad (kept from ms) k
    is_kept from [] j m is at low none = absurd (none-some m at)
    is_kept from (x ∷ xs) zero m is at low none = go (test from x) refl
      where
        passed : test from x ≡ true
        passed = by_end from x (ap (λ (y : PacketMsg). y.kind) (same_Some x m at) ∙ is) ∙ lt-ltb from end (omega (arith, low))

        go : (b : Bool) → test from x ≡ b → (k : ℕ) × (slice_get (tail_kept b from x xs) k ≡ Some m) × NoneUpTo bad (tail_kept b from x xs) k
        go true t = (0, at, none_here bad x (kept (from + 1) xs) (none 0 x (omega arith) refl))
        go false t = absurd (true≢false (sym passed ∙ t))
    is_kept from (x ∷ xs) (suc j) m is at low none = go (test from x) (is_kept (from + 1) xs j m is at (omega (arith, low)) (none_rest bad x xs j none))
      where
        go : (b : Bool) → ((k : ℕ) × (slice_get (kept (from + 1) xs) k ≡ Some m) × NoneUpTo bad (kept (from + 1) xs) k)
            → (k : ℕ) × (slice_get (tail_kept b from x xs) k ≡ Some m) × NoneUpTo bad (tail_kept b from x xs) k
        go true rest = (suc rest.0, rest.1, none_more bad x (kept (from + 1) xs) rest.0 (none 0 x (omega arith) refl) rest.2)
        go false rest = rest

-- ---- what is ready, by its place

ready_place : (order : Order) (reach : ℕ) (ms : List PacketMsg) (m : PacketMsg) → In (ready ms order (Some reach)) m
    → (k : ℕ) × (slice_get ms k ≡ Some m) × (is_ready order reach ms k m ≡ true)
ready_place order reach ms m there =
    let test = λ (p : ℕ × PacketMsg). is_ready order reach ms p.0 p.1 in
    let at = from_map (λ (p : ℕ × PacketMsg). p.1) (filter test (enumerate_from 0 ms)) m there in
    let both = from_passing test (enumerate_from 0 ms) at.0 at.1 in
    let place = from_places 0 ms at.0.0 at.0.1 both.0 in
    let here : at.0.0 ≡ place.0 = (let same = place.1 in omega arith) in
    (place.0, place.2 ∙ ap (λ x. Some x) at.2, sym (λ i. is_ready order reach ms (here i) (at.2 i)) ∙ both.1)

at_ready : (order : Order) (reach : ℕ) (ms : List PacketMsg) (k : ℕ) (m : PacketMsg) → slice_get ms k ≡ Some m → is_ready order reach ms k m ≡ true → In (ready ms order (Some reach)) m
at_ready order reach ms k m at e =
    let test = λ (p : ℕ × PacketMsg). is_ready order reach ms p.0 p.1 in
    let same : 0 + k ≡ k = omega arith in
    in_map (λ (p : ℕ × PacketMsg). p.1) (filter test (enumerate_from 0 ms)) (0 + k, m)
    (in_passing test (enumerate_from 0 ms) (0 + k, m) (in_places 0 ms k m at) (ap (λ n. is_ready order reach ms n m) same ∙ e))

-- ---- of the messages of an ORDERED list that go

-- one of a kind that can't go, and one that is out of reach
abbrev stuck : (PacketMsg → Bool) → Kind → PacketMsg → Bool
stuck can kind x = same_kind x.kind kind && not (can x)

abbrev far : ℕ → Kind → PacketMsg → Bool
far reach kind x = same_kind x.kind kind && nat_lt reach x.floor

is_of : (kind : Kind) (b : Bool) (x : PacketMsg) → (same_kind x.kind kind && b) ≡ true → x.kind ≡ kind
is_of kind b x e = (kinds_Decides x.kind kind).0 (and_parts (same_kind x.kind kind) b e).0

is_kind : (kind : Kind) → same_kind kind kind ≡ true
is_kind kind = (kinds_Decides kind kind).1 refl

-- all of its kind up to it can go, and are within reach, or it is a timeout that is
record IsKept (can : PacketMsg → Bool) (ms : List PacketMsg) (reach : ℕ) (m : PacketMsg) : Type 0 where
  place : ℕ
  at : slice_get ms place ≡ Some m
  goes : NoneUpTo (stuck can m.kind) ms place
  run : same_kind m.kind Timeout ≡ false → NoneUpTo (far reach m.kind) ms place
  alone : same_kind m.kind Timeout ≡ true → nat_le m.floor reach ≡ true

module _ (can : PacketMsg → Bool) (ms : List PacketMsg) (reach : ℕ) (m : PacketMsg) where
  abbrev gone : List PacketMsg
  gone = going Ordered can ms

  going_by_end : (n : ℕ) (x : PacketMsg) → x.kind ≡ m.kind → is_going Ordered can ms n x ≡ nat_lt n (going_end can m.kind ms)
  going_by_end n x e = ap (λ k. nat_lt n (going_end can k ms)) e

  kept_of : In (ready gone Ordered (Some reach)) m → IsKept can ms reach m
  kept_of there = (let k = ready_place Ordered reach gone m there in by_kind (same_kind m.kind Timeout) refl k.0 k.1 k.2)
    where
      by_kind : (b : Bool) → same_kind m.kind Timeout ≡ b → (k : ℕ) → slice_get gone k ≡ Some m → cond b (nat_le m.floor reach) (nat_lt k (run_end reach m.kind gone)) ≡ true → IsKept can ms reach m
      by_kind true is k at e =
          let j = stands m.kind (going_end can m.kind ms) (is_going Ordered can ms) going_by_end (λ x. false) (λ x t. absurd (true≢false (sym t))) 0 ms k m refl at (λ i x le there. refl) in
          record {
            place = j.0;
            at = j.1;
            goes = none_before (stuck can m.kind) ms j.0 (omega (arith, j.2));
            run = λ no. absurd (true≢false (sym is ∙ no));
            alone = λ yes_. e;
          }
      by_kind false is k at e =
          let j = stands m.kind (going_end can m.kind ms) (is_going Ordered can ms) going_by_end (far reach m.kind) (λ x t. is_of m.kind (nat_lt reach x.floor) x t) 0 ms k m refl at
          (none_before (far reach m.kind) gone k (ltb-true k (run_end reach m.kind gone) e)) in
          record {
            place = j.0;
            at = j.1;
            goes = none_before (stuck can m.kind) ms j.0 (omega (arith, j.2));
            run = λ no. j.3;
            alone = λ yes_. absurd (true≢false (sym yes_ ∙ is));
          }

  of_kept : IsKept can ms reach m → In (ready gone Ordered (Some reach)) m
  of_kept kept = by_kind (same_kind m.kind Timeout) refl
    where
      low : kept.place < going_end can m.kind ms
      low = before_end (stuck can m.kind) ms kept.place m kept.at kept.goes

      by_kind : (b : Bool) → same_kind m.kind Timeout ≡ b → In (ready gone Ordered (Some reach)) m
      by_kind true is =
          let k = is_kept m.kind (going_end can m.kind ms) (is_going Ordered can ms) going_by_end (λ x. false) (λ x t. absurd (true≢false (sym t))) 0 ms kept.place m refl kept.at (omega (arith, low)) (λ i x le there. refl) in
          at_ready Ordered reach gone k.0 m k.1 (ap (λ b. cond b (nat_le m.floor reach) (nat_lt k.0 (run_end reach m.kind gone))) is ∙ kept.alone is)
      by_kind false is =
          let k = is_kept m.kind (going_end can m.kind ms) (is_going Ordered can ms) going_by_end (far reach m.kind) (λ x t. is_of m.kind (nat_lt reach x.floor) x t) 0 ms kept.place m refl kept.at (omega (arith, low)) (kept.run is) in
          at_ready Ordered reach gone k.0 m k.1
          (ap (λ b. cond b (nat_le m.floor reach) (nat_lt k.0 (run_end reach m.kind gone))) is
          ∙ lt-ltb k.0 (run_end reach m.kind gone) (before_end (far reach m.kind) gone k.0 m k.1 k.2))

-- ---- of the messages of an UNORDERED list that go

gone_from : (can : PacketMsg → Bool) (ms : List PacketMsg) (m : PacketMsg) → In (going Unordered can ms) m → In ms m × (can m ≡ true)
gone_from can ms m there =
    let test = λ (p : ℕ × PacketMsg). is_going Unordered can ms p.0 p.1 in
    let at = from_map (λ (p : ℕ × PacketMsg). p.1) (filter test (enumerate_from 0 ms)) m there in
    let both = from_passing test (enumerate_from 0 ms) at.0 at.1 in
    let place = from_places 0 ms at.0.0 at.0.1 both.0 in
    (subst (In ms) at.2 (from_get ms place.0 at.0.1 place.2), ap can (sym at.2) ∙ both.1)

-- ---- fewer can go

module _ (can can_then : PacketMsg → Bool) (ms : List PacketMsg) (reach : ℕ) where
  -- what is ready of the fewer that go is ready of all
  pub fewer : (order : Order) → ((x : PacketMsg) → can_then x ≡ true → can x ≡ true) → (m : PacketMsg) → In (ready (going order can_then ms) order (Some reach)) m
      → In (ready (going order can ms) order (Some reach)) m
  fewer Unordered less m there =
      let k = ready_place Unordered reach (going Unordered can_then ms) m there in
      let owed = gone_from can_then ms m (from_get (going Unordered can_then ms) k.0 m k.1) in
      let j = to_get (going Unordered can ms) m (to_going can ms m owed.0 (less m owed.1)) in
      at_ready Unordered reach (going Unordered can ms) j.0 m j.1 k.2
  fewer Ordered less m there =
      let kept = kept_of can_then ms reach m there in
      of_kept can ms reach m (record {
        place = kept.place;
        at = kept.at;
        goes = λ i x le at. backwards (stuck can m.kind x) (stuck can_then m.kind x) (stays_stuck x) (kept.goes i x le at);
        run = kept.run;
        alone = kept.alone;
      })
    where
      stays_stuck : (x : PacketMsg) → stuck can m.kind x ≡ true → stuck can_then m.kind x ≡ true
      stays_stuck x e =
          let parts = and_parts (same_kind x.kind m.kind) (not (can x)) e in
          and_from (same_kind x.kind m.kind) (not (can_then x)) parts.0 (not_from_false (can_then x) (backwards (can_then x) (can x) (less x) (not-true (can x) parts.1)))

  -- what stands before it, of its kind, is ready too
  before : (m : PacketMsg) (kept : IsKept can ms reach m) (i : ℕ) (x : PacketMsg) → i ≤ kept.place → slice_get ms i ≡ Some x → x.kind ≡ m.kind → x.kind ≡ Receive → IsKept can ms reach x
  before m kept i x le at same receive = record {
    place = i;
    at = at;
    goes = λ j y less there. subst (λ k. stuck can k y ≡ false) (sym same) (kept.goes j y (omega (arith, less, le)) there);
    run = λ no j y less there. subst (λ k. far reach k y ≡ false) (sym same) (kept.run (ap (λ k. same_kind k Timeout) (sym same) ∙ no) j y (omega (arith, less, le)) there);
    alone = λ timeout. absurd (true≢false (sym timeout ∙ ap (λ k. same_kind k Timeout) receive));
  }

  module _ (order : Order) (each : (x : PacketMsg) → In ms x → can x ≡ true → (x.kind ≡ Receive → In (ready (going order can ms) order (Some reach)) x) → can_then x ≡ true) where
    -- so nothing keeps it back
    free : (m : PacketMsg) (kept : IsKept can ms reach m) → order ≡ Ordered → (i : ℕ) (x : PacketMsg) → i ≤ kept.place → slice_get ms i ≡ Some x → (b : Bool) → same_kind x.kind m.kind ≡ b
        → stuck can_then m.kind x ≡ false
    free m kept is i x le at false e = ap (λ b. b && not (can_then x)) e
    free m kept is i x le at true e =
        let same = (kinds_Decides x.kind m.kind).0 e in
        let goes = not-false (can x) (sym (ap (λ b. b && not (can x)) e) ∙ kept.goes i x le at) in
        let then_goes = each x (from_get ms i x at) goes
        (λ receive. subst (λ o. In (ready (going o can ms) o (Some reach)) x) (sym is) (of_kept can ms reach x (before m kept i x le at same receive))) in
        (λ j. e j && not (then_goes j))

  -- what was ready is still so, where all that can go can go then, if it is ready or no receive
  pub still : (order : Order) → ((x : PacketMsg) → In ms x → can x ≡ true → (x.kind ≡ Receive → In (ready (going order can ms) order (Some reach)) x) → can_then x ≡ true)
      → (m : PacketMsg) → In (ready (going order can ms) order (Some reach)) m → In (ready (going order can_then ms) order (Some reach)) m
  still Unordered each m there =
      let k = ready_place Unordered reach (going Unordered can ms) m there in
      let owed = gone_from can ms m (from_get (going Unordered can ms) k.0 m k.1) in
      let j = to_get (going Unordered can_then ms) m (to_going can_then ms m owed.0 (each m owed.0 owed.1 (λ _. there))) in
      at_ready Unordered reach (going Unordered can_then ms) j.0 m j.1 k.2
  still Ordered each m there =
      let kept = kept_of can ms reach m there in
      of_kept can_then ms reach m (record {
        place = kept.place;
        at = kept.at;
        goes = λ i x le at. free Ordered each m kept refl i x le at (same_kind x.kind m.kind) refl;
        run = kept.run;
        alone = kept.alone;
      })
