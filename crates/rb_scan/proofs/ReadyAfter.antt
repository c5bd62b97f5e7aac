-- A message is kept exactly where its floor and, in an ORDERED run, each earlier floor of its kind are within reach.
use Rattle.std.proofs.Common.{ℕ, ◌+◌, ◌<◌, ◌≤◌, ◌≡◌, ◌≢◌, ◌&&◌, Bool, true, false, cond, nat_lt, nat_le, eqb, List, [], ◌∷◌, ◌++◌, Some, length, map, get_or, refl, sym, ap, ◌∙◌, inl, inr, arith}
use Rattle.std.specs.List.{All, filter, enumerate_from}
use Rattle.std.proofs.lemmas.Bool.{false≢true, cases_eq, eq-eqb, ne_eqb, lt-ltb, leb-true, leb-false, ltb-true, ltb-false}
use Rattle.std.proofs.lemmas.List.{map-append}
use Rattle.std.proofs.lemmas.List.Elements.{filter-append}
use Rattle.std.proofs.lemmas.List.Folds.{position_or_len_push}
use Rattle.std.proofs.lemmas.List.Sums.{fails_before_first, passes_at_first, prefix_len-le-length}
use Rattle.rb_scan.specs.Owed.{same_kind, run_end, is_ready, ready}
use Rattle.rb_scan.specs.Laws.{IsReadyAfter, ReadyIsAllBefore}
use Rattle.rb_scan.specs.declared.path.Order.{Order}
use Rattle.rb_scan.specs.declared.path.Order.TheVariants.{Ordered, Unordered}
use Rattle.rb_scan.specs.declared.message.Kind.{Kind}
use Rattle.rb_scan.specs.declared.message.Kind.TheVariants.{Receive, Acknowledge, Timeout}
use Rattle.rb_scan.specs.declared.message.PacketMsg.{PacketMsg}

kind_is : (k j : Kind) → same_kind k j ≡ true → k ≡ j
kind_is Receive Receive e = refl
kind_is Receive Acknowledge e = absurd (false≢true e)
kind_is Receive Timeout e = absurd (false≢true e)
kind_is Acknowledge Receive e = absurd (false≢true e)
kind_is Acknowledge Acknowledge e = refl
kind_is Acknowledge Timeout e = absurd (false≢true e)
kind_is Timeout Receive e = absurd (false≢true e)
kind_is Timeout Acknowledge e = absurd (false≢true e)
kind_is Timeout Timeout e = refl

is_kind : (k : Kind) → same_kind k k ≡ true
is_kind Receive = refl
is_kind Acknowledge = refl
is_kind Timeout = refl

-- ---- one more element
enumerate_push : {X : Type 0} (n : ℕ) (xs : List X) (y : X) (k : ℕ) → n + length xs ≡ k → enumerate_from n (xs ++ y ∷ []) ≡ enumerate_from n xs ++ (k, y) ∷ []
enumerate_push {X} n [] y k e = let here : n ≡ k = omega (arith, e) in ap (λ (i : ℕ). (i, y) ∷ []) here
enumerate_push n (x ∷ xs) y k e = ap (λ ps. (n, x) ∷ ps) (enumerate_push (n + 1) xs y k (omega (arith, e)))

-- two tests that agree below a place keep the same of what stands below it
same_kept : {X : Type 0} (p q : ℕ × X → Bool) (n end : ℕ) (xs : List X) → n + length xs ≤ end → ((i : ℕ) (x : X) → i < end → p (i, x) ≡ q (i, x))
    → filter p (enumerate_from n xs) ≡ filter q (enumerate_from n xs)
same_kept p q n end [] within agree = refl
same_kept p q n end (x ∷ xs) within agree =
    let rest = same_kept p q (n + 1) end xs (omega (arith, within)) agree in
    rw (agree n x (omega (arith, within))) (ap (λ ps. cond (q (n, x)) ((n, x) ∷ ps) ps) rest)

module _ (reach : ℕ) (earlier : List PacketMsg) (m : PacketMsg) where
  abbrev all : List PacketMsg
  all = earlier ++ m ∷ []

  -- a message of the kind that is out of reach
  abbrev late : Kind → PacketMsg → Bool
  late kind n = same_kind n.kind kind && nat_lt reach n.floor

  end_push : (kind : Kind) → run_end reach kind all ≡ cond (eqb (run_end reach kind earlier) (length earlier)) (length earlier + cond (late kind m) 0 1) (run_end reach kind earlier)
  end_push kind = position_or_len_push (late kind) earlier m

  within : (kind : Kind) → run_end reach kind earlier ≤ length earlier
  within kind = prefix_len-le-length _ earlier

  -- what is kept of the earlier ones stays
  agree_by : (kind : Kind) (i : ℕ) → i < length earlier → nat_lt i (run_end reach kind all) ≡ nat_lt i (run_end reach kind earlier)
  agree_by kind i less =
      elim (cases_eq (run_end reach kind earlier) (length earlier)) [
        | inl same ↦
            let more : run_end reach kind all ≡ length earlier + cond (late kind m) 0 1 = end_push kind ∙ ap (λ (t : Bool). cond t (length earlier + cond (late kind m) 0 1) (run_end reach kind earlier)) (eq-eqb _ _ same) in
            lt-ltb i (run_end reach kind all) (omega (arith, more, less)) ∙ sym (lt-ltb i (run_end reach kind earlier) (omega (arith, same, less)))
        | inr other ↦
            let stays : run_end reach kind all ≡ run_end reach kind earlier = end_push kind ∙ ap (λ (t : Bool). cond t (length earlier + cond (late kind m) 0 1) (run_end reach kind earlier)) (ne_eqb _ _ other) in
            ap (nat_lt i) stays
      ]

  agree : (order : Order) (i : ℕ) (x : PacketMsg) → i < length earlier → is_ready order reach all i x ≡ is_ready order reach earlier i x
  agree Unordered i x less = refl
  agree Ordered i x less = ap (λ (t : Bool). cond (same_kind x.kind Timeout) (nat_le x.floor reach) t) (agree_by x.kind i less)

  -- the last one
  abbrev test : Order → Bool
  test order = is_ready order reach all (length earlier) m

  ready_push : (order : Order) → ready all order (Some reach) ≡ ready earlier order (Some reach) ++ cond (test order) (m ∷ []) []
  ready_push order =
      let p = λ (q : ℕ × PacketMsg). is_ready order reach all q.0 q.1 in
      let q = λ (q : ℕ × PacketMsg). is_ready order reach earlier q.0 q.1 in
      let front : filter p (enumerate_from 0 earlier) ≡ filter q (enumerate_from 0 earlier) = same_kept p q 0 (length earlier) earlier (omega arith) (agree order) in
      ap (λ ps. map (λ (x : ℕ × PacketMsg). x.1) (filter p ps)) (enumerate_push 0 earlier m (length earlier) (omega arith))
      ∙ ap (map (λ (x : ℕ × PacketMsg). x.1)) (filter-append p (enumerate_from 0 earlier) ((length earlier, m) ∷ []))
      ∙ map-append (λ (x : ℕ × PacketMsg). x.1) (filter p (enumerate_from 0 earlier)) _
      ∙ ap (λ ps. map (λ (x : ℕ × PacketMsg). x.1) ps ++ map (λ (x : ℕ × PacketMsg). x.1) (filter p ((length earlier, m) ∷ []))) front
      ∙ ap (λ ms. ready earlier order (Some reach) ++ ms) (elim (test order) as (λ b. map (λ (x : ℕ × PacketMsg). x.1) (cond b ((length earlier, m) ∷ []) []) ≡ cond b (m ∷ []) []) [ true ↦ refl | false ↦ refl ])

  -- the earlier floors of a kind are within reach where its run goes on to their end
  near : (kind : Kind) → run_end reach kind earlier ≡ length earlier → All (λ (e : PacketMsg). e.kind ≡ kind → e.floor ≤ reach) earlier
  near kind same = λ k d less is.
      let fails : late kind (get_or earlier k d) ≡ false = fails_before_first (late kind) earlier k d (omega (arith, same, less)) in
      let one : same_kind (get_or earlier k d).kind kind ≡ true = ap (λ (j : Kind). same_kind j kind) is ∙ is_kind kind in
      ltb-false reach (get_or earlier k d).floor (sym (ap (λ (t : Bool). t && nat_lt reach (get_or earlier k d).floor) one) ∙ fails)

  and_parts : (a b : Bool) → (a && b) ≡ true → (a ≡ true) × (b ≡ true)
  and_parts true true e = (refl, refl)
  and_parts true false e = absurd (false≢true e)
  and_parts false b e = absurd (false≢true e)

  far : (kind : Kind) → run_end reach kind earlier ≢ length earlier → ¬ All (λ (e : PacketMsg). e.kind ≡ kind → e.floor ≤ reach) earlier
  far kind other near =
      let at = run_end reach kind earlier in
      let less : at < length earlier = omega (arith, within kind, other) in
      let passes = and_parts _ _ (passes_at_first (late kind) earlier m less) in
      let low = near at m less (kind_is _ _ passes.0) in
      let high = ltb-true reach (get_or earlier at m).floor passes.1 in
      absurd (omega (arith, low, high))

  runs : (t : Bool) → nat_lt (length earlier) (run_end reach m.kind all) ≡ t
      → cond t ((m.floor ≤ reach) × All (λ (e : PacketMsg). e.kind ≡ m.kind → e.floor ≤ reach) earlier)
      (¬ ((m.floor ≤ reach) × All (λ (e : PacketMsg). e.kind ≡ m.kind → e.floor ≤ reach) earlier))
  runs t e = elim (cases_eq (run_end reach m.kind earlier) (length earlier)) [
    | inl same ↦ runs_on t (nat_lt reach m.floor) refl same e
    | inr other ↦ ended t other e
  ]
    where
      ended : (t : Bool) → run_end reach m.kind earlier ≢ length earlier → nat_lt (length earlier) (run_end reach m.kind all) ≡ t
          → cond t ((m.floor ≤ reach) × All (λ (e : PacketMsg). e.kind ≡ m.kind → e.floor ≤ reach) earlier)
          (¬ ((m.floor ≤ reach) × All (λ (e : PacketMsg). e.kind ≡ m.kind → e.floor ≤ reach) earlier))
      ended true other e =
          let stays : run_end reach m.kind all ≡ run_end reach m.kind earlier = end_push m.kind ∙ ap (λ (t : Bool). cond t (length earlier + cond (late m.kind m) 0 1) (run_end reach m.kind earlier)) (ne_eqb _ _ other) in
          let less = ltb-true _ _ e in
          absurd (omega (arith, stays, less, within m.kind))
      ended false other e = λ both. far m.kind other both.1

      runs_on : (t out : Bool) → nat_lt reach m.floor ≡ out → run_end reach m.kind earlier ≡ length earlier → nat_lt (length earlier) (run_end reach m.kind all) ≡ t
          → cond t ((m.floor ≤ reach) × All (λ (e : PacketMsg). e.kind ≡ m.kind → e.floor ≤ reach) earlier)
          (¬ ((m.floor ≤ reach) × All (λ (e : PacketMsg). e.kind ≡ m.kind → e.floor ≤ reach) earlier))
      runs_on t out floor same e = by t out floor (ends out floor) e
        where
          ends : (out : Bool) → nat_lt reach m.floor ≡ out → run_end reach m.kind all ≡ length earlier + cond out 0 1
          ends out floor =
              end_push m.kind
              ∙ ap (λ (t : Bool). cond t (length earlier + cond (late m.kind m) 0 1) (run_end reach m.kind earlier)) (eq-eqb _ _ same)
              ∙ ap (λ (t : Bool). length earlier + cond (t && nat_lt reach m.floor) 0 1) (is_kind m.kind)
              ∙ ap (λ (t : Bool). length earlier + cond t 0 1) floor

          by : (t out : Bool) → nat_lt reach m.floor ≡ out → run_end reach m.kind all ≡ length earlier + cond out 0 1 → nat_lt (length earlier) (run_end reach m.kind all) ≡ t
              → cond t ((m.floor ≤ reach) × All (λ (e : PacketMsg). e.kind ≡ m.kind → e.floor ≤ reach) earlier)
              (¬ ((m.floor ≤ reach) × All (λ (e : PacketMsg). e.kind ≡ m.kind → e.floor ≤ reach) earlier))
          by true true floor end e = absurd (let less = ltb-true _ _ e in omega (arith, end, less))
          by true false floor end e = (ltb-false _ _ floor, near m.kind same)
          by false true floor end e = λ both. (let high = ltb-true _ _ floor in absurd (omega (arith, both.0, high)))
          by false false floor end e = absurd (let more = ltb-false _ _ e in omega (arith, end, more))

  told : (order : Order) (t : Bool) → test order ≡ t → cond t (IsReadyAfter order reach earlier m) (¬ IsReadyAfter order reach earlier m)
  told Unordered true e = leb-true m.floor reach e
  told Unordered false e = λ low. (let high = leb-false m.floor reach e in absurd (omega (arith, low, high)))
  told Ordered t e = by m.kind refl t e
    where
      by : (kind : Kind) → m.kind ≡ kind → (t : Bool) → test Ordered ≡ t → cond t (IsReadyAfter Ordered reach earlier m) (¬ IsReadyAfter Ordered reach earlier m)
      by Timeout is true e = (leb-true m.floor reach (sym (ap (λ (k : Kind). cond (same_kind k Timeout) (nat_le m.floor reach) (nat_lt (length earlier) (run_end reach m.kind all))) is) ∙ e), λ other. absurd (other is))
      by Timeout is false e = λ both.
          let high = leb-false m.floor reach (sym (ap (λ (k : Kind). cond (same_kind k Timeout) (nat_le m.floor reach) (nat_lt (length earlier) (run_end reach m.kind all))) is) ∙ e) in
          absurd (omega (arith, both.0, high))
      by Receive is true e =
          let run = runs true (sym (ap (λ (k : Kind). cond (same_kind k Timeout) (nat_le m.floor reach) (nat_lt (length earlier) (run_end reach m.kind all))) is) ∙ e) in
          (run.0, λ _. run.1)
      by Receive is false e = λ both.
          runs false (sym (ap (λ (k : Kind). cond (same_kind k Timeout) (nat_le m.floor reach) (nat_lt (length earlier) (run_end reach m.kind all))) is) ∙ e) (both.0, both.1 (λ same. (let no_one : Receive ≡ Timeout = sym is ∙ same in cc)))
      by Acknowledge is true e =
          let run = runs true (sym (ap (λ (k : Kind). cond (same_kind k Timeout) (nat_le m.floor reach) (nat_lt (length earlier) (run_end reach m.kind all))) is) ∙ e) in
          (run.0, λ _. run.1)
      by Acknowledge is false e = λ both.
          runs false (sym (ap (λ (k : Kind). cond (same_kind k Timeout) (nat_le m.floor reach) (nat_lt (length earlier) (run_end reach m.kind all))) is) ∙ e) (both.0, both.1 (λ same. (let no_one : Acknowledge ≡ Timeout = sym is ∙ same in cc)))

append_nothing : (ms : List PacketMsg) → ms ++ [] ≡ ms
append_nothing [] = refl
append_nothing (m ∷ ms) = ap (λ ns. m ∷ ns) (append_nothing ms)

pub ready_is_all_before_lem : ReadyIsAllBefore
ready_is_all_before_lem order reach earlier m = (refl, by (is_ready order reach (earlier ++ m ∷ []) (length earlier) m) refl)
  where
    by : (t : Bool) → is_ready order reach (earlier ++ m ∷ []) (length earlier) m ≡ t
        → (IsReadyAfter order reach earlier m → ready (earlier ++ m ∷ []) order (Some reach) ≡ ready earlier order (Some reach) ++ m ∷ [])
        × ((¬ IsReadyAfter order reach earlier m) → ready (earlier ++ m ∷ []) order (Some reach) ≡ ready earlier order (Some reach))
    by true e = (
      λ _. ready_push reach earlier m order ∙ ap (λ (t : Bool). ready earlier order (Some reach) ++ cond t (m ∷ []) []) e,
      λ never. absurd (never (told reach earlier m order true e)),
    )
    by false e = (
      λ is. absurd (told reach earlier m order false e is),
      λ _. ready_push reach earlier m order ∙ ap (λ (t : Bool). ready earlier order (Some reach) ++ cond t (m ∷ []) []) e ∙ append_nothing (ready earlier order (Some reach)),
    )
