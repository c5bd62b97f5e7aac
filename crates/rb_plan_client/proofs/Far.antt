-- Messages that are ready, near and far.
use Rattle.std.proofs.Common.{◌≡◌, ℕ, ◌+◌, ◌≤◌, Bool, true, false, cond, not, ◌&&◌, nat_lt, nat_le, List, [], ◌∷◌, map, Option, Some, None, refl, sym, ap, ◌∙◌, arith}
use Rattle.std.specs.List.{filter, enumerate_from, prefix_len}
use Rattle.std.proofs.lemmas.Bool.{true≢false, leb-true, le-leb, ltb-true, lt-ltb}
use Rattle.rb_scan.specs.Owed.{same_kind, run_end, is_ready, ready, ready_beyond}
use Rattle.rb_scan.specs.declared.path.Order.{Order}
use Rattle.rb_scan.specs.declared.path.Order.TheVariants.{Ordered, Unordered}
use Rattle.rb_scan.specs.declared.message.Kind.{Kind}
use Rattle.rb_scan.specs.declared.message.Kind.TheVariants.{Timeout}
use Rattle.rb_scan.specs.declared.message.PacketMsg.{PacketMsg}

-- ---- lists

-- a test that fails wherever another fails stops a run no later
run_no_longer : {X : Type 0} (p q : X → Bool) → ((x : X) → p x ≡ true → q x ≡ true) → (xs : List X) → prefix_len p xs ≤ prefix_len q xs
run_no_longer p q implies [] = omega arith
run_no_longer p q implies (x ∷ xs) = go (run_no_longer p q implies xs) (p x) refl (q x) refl
  where
    go : prefix_len p xs ≤ prefix_len q xs → (a : Bool) → p x ≡ a → (b : Bool) → q x ≡ b → cond a (1 + prefix_len p xs) 0 ≤ cond b (1 + prefix_len q xs) 0
    go rest true e true f = omega (arith, rest)
    go rest true e false f = absurd (true≢false (sym (implies x e) ∙ f))
    go rest false e b f = omega arith

-- where one test implies another, and nothing passes the other alone, both pass the same
same_passed : {X Y : Type 0} (f : X → Y) (p q : X → Bool) → ((x : X) → p x ≡ true → q x ≡ true) → (xs : List X)
    → map f (filter (λ x. q x && not (p x)) xs) ≡ [] → map f (filter p xs) ≡ map f (filter q xs)
same_passed f p q implies [] none = refl
same_passed {X} {Y} f p q implies (x ∷ xs) none = go (same_passed f p q implies xs) (p x) refl (q x) refl none
  where
    go : (map f (filter (λ y. q y && not (p y)) xs) ≡ [] → map f (filter p xs) ≡ map f (filter q xs)) → (a : Bool) → p x ≡ a → (b : Bool) → q x ≡ b
        → map f (cond (b && not a) (x ∷ filter (λ y. q y && not (p y)) xs) (filter (λ y. q y && not (p y)) xs)) ≡ []
        → map f (cond a (x ∷ filter p xs) (filter p xs)) ≡ map f (cond b (x ∷ filter q xs) (filter q xs))
    go rest true e true g h = ap (λ ys. f x ∷ ys) (rest h)
    go rest true e false g h = absurd (true≢false (sym (implies x e) ∙ g))
    go rest false e true g h = absurd cc
    go rest false e false g h = rest h

-- ---- what is ready at a height is ready at a higher one

late_later : (near reach : ℕ) → near ≤ reach → (kind : Kind) (m : PacketMsg)
    → not (same_kind m.kind kind && nat_lt near m.floor) ≡ true → not (same_kind m.kind kind && nat_lt reach m.floor) ≡ true
late_later near reach le kind m = go (same_kind m.kind kind)
  where
    past : (a b : Bool) → nat_lt near m.floor ≡ a → nat_lt reach m.floor ≡ b → not a ≡ true → not b ≡ true
    past true b e f h = absurd (true≢false (sym h))
    past false true e f h = absurd (true≢false (sym (lt-ltb near m.floor (omega (arith, ltb-true reach m.floor f))) ∙ e))
    past false false e f h = refl

    go : (k : Bool) → not (k && nat_lt near m.floor) ≡ true → not (k && nat_lt reach m.floor) ≡ true
    go true h = past (nat_lt near m.floor) (nat_lt reach m.floor) refl refl h
    go false h = refl

ends_later : (near reach : ℕ) → near ≤ reach → (kind : Kind) (ms : List PacketMsg) → run_end near kind ms ≤ run_end reach kind ms
ends_later near reach le kind ms =
    run_no_longer (λ m. not (same_kind m.kind kind && nat_lt near m.floor)) (λ m. not (same_kind m.kind kind && nat_lt reach m.floor)) (late_later near reach le kind) ms

floor_later : (near reach floor : ℕ) → near ≤ reach → nat_le floor near ≡ true → nat_le floor reach ≡ true
floor_later near reach floor le e = le-leb floor reach (omega (arith, leb-true floor near e))

pub ready_later : (order : Order) (near reach : ℕ) (ms : List PacketMsg) (place : ℕ) (m : PacketMsg) → near ≤ reach → is_ready order near ms place m ≡ true → is_ready order reach ms place m ≡ true
ready_later Unordered near reach ms place m le e = floor_later near reach m.floor le e
ready_later Ordered near reach ms place m le e = go (same_kind m.kind Timeout) e
  where
    go : (b : Bool) → cond b (nat_le m.floor near) (nat_lt place (run_end near m.kind ms)) ≡ true → cond b (nat_le m.floor reach) (nat_lt place (run_end reach m.kind ms)) ≡ true
    go true h = floor_later near reach m.floor le h
    go false h = lt-ltb place (run_end reach m.kind ms) (omega (arith, ltb-true place (run_end near m.kind ms) h, ends_later near reach le m.kind ms))

-- ---- where nothing is far, what is near is all that is ready

-- the near reach, if there is one, is no higher than the reach
abbrev pub NoHigher : Option ℕ → Option ℕ → Type 0
NoHigher None reach = Unit {0}
NoHigher (Some near) None = ⊥
NoHigher (Some near) (Some reach) = near ≤ reach

pub near_is_all : (ms : List PacketMsg) (order : Order) (near reach : Option ℕ) → NoHigher near reach → ready_beyond ms order near reach ≡ [] → ready ms order near ≡ ready ms order reach
near_is_all ms order None None le none = refl
near_is_all ms order (Some near) None le none = absurd le
near_is_all ms order None (Some reach) le none =
    same_nothing (enumerate_from 0 ms) ∙ same_passed (λ (p : ℕ × PacketMsg). p.1) (λ p. false) (λ p. is_ready order reach ms p.0 p.1) (λ p e. absurd (true≢false (sym e))) (enumerate_from 0 ms) none
  where
    same_nothing : (ps : List (ℕ × PacketMsg)) → ◌≡◌ {A = List PacketMsg} [] (map (λ (p : ℕ × PacketMsg). p.1) (filter (λ p. false) ps))
    same_nothing [] = refl
    same_nothing (p ∷ ps) = same_nothing ps
near_is_all ms order (Some near) (Some reach) le none =
    same_passed (λ (p : ℕ × PacketMsg). p.1) (λ p. is_ready order near ms p.0 p.1) (λ p. is_ready order reach ms p.0 p.1)
    (λ p e. ready_later order near reach ms p.0 p.1 le e) (enumerate_from 0 ms) none
