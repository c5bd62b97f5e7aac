-- What is expired stays so, and the height from which on it can be proved only falls, as more records are known.
use Rattle.std.proofs.Common.{◌≡◌, ◌⊎◌, ℕ, ◌-◌, ◌<◌, ◌≤◌, Bool, true, false, cond, ◌||◌, List, [], ◌∷◌, length, Option, Some, None, refl, sym, ap, ◌∙◌, inl, inr, arith}
use Rattle.std.specs.List.{find}
use Rattle.std.specs.Option.{option_map}
use Rattle.std.proofs.lemmas.Bool.{false≢true, cases_Bool, or_left, or_right, leb-true, le-leb}
use Rattle.std.proofs.lemmas.Option.{none-some, same_Some}
use Rattle.rb_book.proofs.Rising.{Up}
use Rattle.rb_core_model.proofs.Options.{mapped}
use Rattle.rb_scan.specs.Expiry.{top, has_come, is_height_expired, is_time_expired, is_expired, height_floor, time_floor, timeout_floor}
use Rattle.rb_scan.specs.Packet.{Packet}
use Rattle.rb_super.proofs.Members.{In, all_in, from_get, last_above}
use Rattle.rb_super.proofs.Moments.{one_of, lesser_left, lesser_right}

-- ---- lists of heights and times that rise

abbrev pub Rising : List (ℕ × ℕ) → Type 0
Rising rs = Up (λ (a b : ℕ × ℕ). (a.0 < b.0) × (a.1 < b.1)) rs

-- all that is known stays known
abbrev pub Extends : List (ℕ × ℕ) → List (ℕ × ℕ) → Type 0
Extends rs ss = (r : ℕ × ℕ) → In rs r → In ss r

-- the first record that passes a test is no higher than another that does
first_no_higher : (test : ℕ × ℕ → Bool) (rs : List (ℕ × ℕ)) → Rising rs → (r : ℕ × ℕ) → In rs r → test r ≡ true → (f : ℕ × ℕ) × (find test rs ≡ Some f) × (f.0 ≤ r.0)
first_no_higher test [] up r h e = absurd h
first_no_higher test (x ∷ rs) up r h e = go (cases_Bool (test x)) h (λ there. first_no_higher test rs up.1 r there e)
  where
    go : (test x ≡ true) ⊎ (test x ≡ false) → In (x ∷ rs) r → (In rs r → (f : ℕ × ℕ) × (find test rs ≡ Some f) × (f.0 ≤ r.0)) → (f : ℕ × ℕ) × (find test (x ∷ rs) ≡ Some f) × (f.0 ≤ r.0)
    go (inl t) (inl same) rest = (x, ap (λ b. cond b (Some x) (find test rs)) t, (let one : x.0 ≡ r.0 = ap (λ (p : ℕ × ℕ). p.0) same in omega arith))
    go (inl t) (inr there) rest = (x, ap (λ b. cond b (Some x) (find test rs)) t, (let above = all_in (λ (y : ℕ × ℕ). (x.0 < y.0) × (x.1 < y.1)) rs r up.0 there in omega (arith, above.0)))
    go (inr t) (inl same) rest = absurd (false≢true (sym t ∙ ap test same ∙ e))
    go (inr t) (inr there) rest =
        let one = rest there in
        (one.0, ap (λ b. cond b (Some x) (find test rs)) t ∙ one.1, one.2)

found_in : (test : ℕ × ℕ → Bool) (rs : List (ℕ × ℕ)) (r : ℕ × ℕ) → find test rs ≡ Some r → In rs r × (test r ≡ true)
found_in test [] r e = absurd (none-some r e)
found_in test (x ∷ rs) r e = go (cases_Bool (test x)) (λ f. found_in test rs r f)
  where
    go : (test x ≡ true) ⊎ (test x ≡ false) → (find test rs ≡ Some r → In rs r × (test r ≡ true)) → In (x ∷ rs) r × (test r ≡ true)
    go (inl t) rest =
        let same : x ≡ r = same_Some x r (sym (ap (λ b. cond b (Some x) (find test rs)) t) ∙ e) in
        (inl same, ap test (sym same) ∙ t)
    go (inr t) rest =
        let there = rest (sym (ap (λ b. cond b (Some x) (find test rs)) t) ∙ e) in
        (inr there.0, there.1)

-- ---- limits

module _ (rs ss : List (ℕ × ℕ)) (more : Extends rs ss) (up : Rising ss) where
  top_grows : (r : ℕ × ℕ) → top rs ≡ Some r → (l : ℕ × ℕ) × (top ss ≡ Some l) × (r.0 ≤ l.0) × (r.1 ≤ l.1)
  top_grows r e = go (last_above (λ (a b : ℕ × ℕ). (a.0 < b.0) × (a.1 < b.1)) ss up r (more r (from_get rs (length rs - 1) r e)))
    where
      low : (l : ℕ × ℕ) → (r ≡ l) ⊎ ((r.0 < l.0) × (r.1 < l.1)) → (r.0 ≤ l.0) × (r.1 ≤ l.1)
      low l (inl same) = ((let one : r.0 ≡ l.0 = ap (λ (p : ℕ × ℕ). p.0) same in omega arith), (let two : r.1 ≡ l.1 = ap (λ (p : ℕ × ℕ). p.1) same in omega arith))
      low l (inr less) = (omega (arith, less.0), omega (arith, less.1))

      go : (l : ℕ × ℕ) × (top ss ≡ Some l) × ((r ≡ l) ⊎ ((r.0 < l.0) × (r.1 < l.1))) → (l : ℕ × ℕ) × (top ss ≡ Some l) × (r.0 ≤ l.0) × (r.1 ≤ l.1)
      go (l, at, above) = let both = low l above in (l, at, both.0, both.1)

  comes : (limit : Option ℕ) (part : ℕ × ℕ → ℕ) → ((r l : ℕ × ℕ) → r.0 ≤ l.0 → r.1 ≤ l.1 → part r ≤ part l) → has_come limit (option_map part (top rs)) ≡ true → has_come limit (option_map part (top ss)) ≡ true
  comes None part grows e = absurd (false≢true e)
  comes (Some limit) part grows e = go (top rs) refl e
    where
      go : (o : Option (ℕ × ℕ)) → top rs ≡ o → has_come (Some limit) (option_map part o) ≡ true → has_come (Some limit) (option_map part (top ss)) ≡ true
      go None at f = absurd (false≢true f)
      go (Some r) at f =
          let l = top_grows r at in
          ap (λ o. has_come (Some limit) (option_map part o)) l.1 ∙ le-leb limit (part l.0) (omega (arith, leb-true limit (part r) f, grows r l.0 l.2 l.3))

  height_comes : (p : Packet) → is_height_expired rs p ≡ true → is_height_expired ss p ≡ true
  height_comes p e = comes p.timeout_height (λ (r : ℕ × ℕ). r.0) (λ r l high late. high) e

  time_comes : (p : Packet) → is_time_expired rs p ≡ true → is_time_expired ss p ≡ true
  time_comes p e = comes p.timeout_time (λ (r : ℕ × ℕ). r.1) (λ r l high late. late) e

  pub expired_stays : (p : Packet) → is_expired rs p ≡ true → is_expired ss p ≡ true
  expired_stays p e = go (cases_Bool (is_height_expired rs p))
    where
      go : (is_height_expired rs p ≡ true) ⊎ (is_height_expired rs p ≡ false) → is_expired ss p ≡ true
      go (inl h) = or_left (is_height_expired ss p) (is_time_expired ss p) (height_comes p h)
      go (inr n) = or_right (is_height_expired ss p) (is_time_expired ss p) (time_comes p (sym (ap (λ b. b || is_time_expired rs p) n) ∙ e))

  -- ---- floors

  height_falls : (p : Packet) (f : ℕ) → height_floor rs p ≡ Some f → (g : ℕ) × (height_floor ss p ≡ Some g) × (g ≤ f)
  height_falls p f e = go (cases_Bool (is_height_expired rs p))
    where
      go : (is_height_expired rs p ≡ true) ⊎ (is_height_expired rs p ≡ false) → (g : ℕ) × (height_floor ss p ≡ Some g) × (g ≤ f)
      go (inl h) = (f, ap (λ b. cond b p.timeout_height None) (height_comes p h) ∙ sym (ap (λ b. cond b p.timeout_height None) h) ∙ e, omega arith)
      go (inr n) = absurd (none-some f (sym (ap (λ b. cond b p.timeout_height None) n) ∙ e))

  time_falls : (p : Packet) (f : ℕ) → time_floor rs p ≡ Some f → (g : ℕ) × (time_floor ss p ≡ Some g) × (g ≤ f)
  time_falls p f e = go (cases_Bool (is_time_expired rs p))
    where
      test : ℕ × ℕ → Bool
      test = λ (r : ℕ × ℕ). has_come p.timeout_time (Some r.1)

      go : (is_time_expired rs p ≡ true) ⊎ (is_time_expired rs p ≡ false) → (g : ℕ) × (time_floor ss p ≡ Some g) × (g ≤ f)
      go (inr n) = absurd (none-some f (sym (ap (λ b. cond b (option_map (λ (r : ℕ × ℕ). r.0) (find (λ (r : ℕ × ℕ). has_come p.timeout_time (Some r.1)) rs)) None) n) ∙ e))
      go (inl t) =
          let some = mapped (λ (r : ℕ × ℕ). r.0) (find (λ (r : ℕ × ℕ). has_come p.timeout_time (Some r.1)) rs) f
          (sym (ap (λ b. cond b (option_map (λ (r : ℕ × ℕ). r.0) (find (λ (r : ℕ × ℕ). has_come p.timeout_time (Some r.1)) rs)) None) t) ∙ e) in
          let there = found_in (λ (r : ℕ × ℕ). has_come p.timeout_time (Some r.1)) rs some.0 some.1 in
          let first = first_no_higher (λ (r : ℕ × ℕ). has_come p.timeout_time (Some r.1)) ss up some.0 (more some.0 there.0) there.1 in (
            first.0.0,
            ap (λ b. cond b (option_map (λ (r : ℕ × ℕ). r.0) (find (λ (r : ℕ × ℕ). has_come p.timeout_time (Some r.1)) ss)) None) (time_comes p t)
                ∙ ap (option_map (λ (r : ℕ × ℕ). r.0)) first.1,
            omega (arith, first.2, some.2),
          )

  pub floor_falls : (p : Packet) (f : ℕ) → timeout_floor rs p ≡ Some f → (g : ℕ) × (timeout_floor ss p ≡ Some g) × (g ≤ f)
  floor_falls p f e = go (one_of (height_floor rs p) (time_floor rs p) f e)
    where
      go : (height_floor rs p ≡ Some f) ⊎ (time_floor rs p ≡ Some f) → (g : ℕ) × (timeout_floor ss p ≡ Some g) × (g ≤ f)
      go (inl h) =
          let one = height_falls p f h in
          let both = lesser_left (height_floor ss p) (time_floor ss p) one.0 one.1 in
          (both.0, both.1, omega (arith, both.2, one.2))
      go (inr h) =
          let one = time_falls p f h in
          let both = lesser_right (height_floor ss p) (time_floor ss p) one.0 one.1 in
          (both.0, both.1, omega (arith, both.2, one.2))
