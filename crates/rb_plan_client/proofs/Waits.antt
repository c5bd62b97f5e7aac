-- Where no message may wait, all that are ready go at once.
use Rattle.std.proofs.Common.{◌≡◌, ◌⊎◌, ℕ, zero, suc, ◌+◌, ◌-◌, ◌<◌, ◌≤◌, Bool, true, false, cond, eqb, min, nat_le, nat_lt, List, [], ◌∷◌, ◌++◌, length, map, Option, Some, None, IsSomeAnd, is_some, refl, sym, ap, ◌∙◌, inl, inr, arith, if◌then◌else◌}
use Rattle.std.specs.List.{Contains, flat_map, fold, slice_get, AllByRecursion}
use Rattle.std.specs.Option.{option_map, option_map_or, option_and_then}
use Rattle.std.proofs.lemmas.Bool.{true≢false, ltb-true, le-leb}
use Rattle.std.proofs.lemmas.Option.{none-some, same_Some}
use Rattle.std.proofs.lemmas.List.Elements.{recursion_from_All}
use Rattle.rb_book.specs.Header.{Record}
use Rattle.rb_book.specs.Book.{record_at}
use Rattle.rb_scan.specs.Expiry.{lesser}
use Rattle.rb_scan.specs.Owed.{ready, ready_beyond, wanted}
use Rattle.rb_scan.specs.declared.message.Kind.{Kind}
use Rattle.rb_scan.specs.declared.message.Kind.TheVariants.{Receive, Acknowledge, Timeout}
use Rattle.rb_scan.specs.declared.message.PacketMsg.{PacketMsg}
use Rattle.rb_script_types.specs.Waits.{wait_for}
use Rattle.rb_script_types.specs.declared.waits.Waits.{Waits}
use Rattle.rb_step.specs.View.{client_of}
use Rattle.rb_plan_client.specs.Laws.{WaitsNot, NoneWaits}
use Rattle.rb_plan_client.specs.Reach.{IsReachable, IsReach}
use Rattle.rb_plan_client.specs.Task.{PathTask, Task, Message, view_of, message_on, going_on, ready_on, ready_messages, is_live, near_reach, since, press_moment, press_moments_on, first_press, presses, due_messages, first_goal}
use Rattle.rb_plan_client.proofs.Ages.{first_is_goal, messages_are_due}
use Rattle.rb_plan_client.proofs.Far.{NoHigher, near_is_all}

-- ---- what may not wait presses at once

no_wait : (w : Waits) (k : Kind) → WaitsNot w → wait_for w k ≡ 0
no_wait w Receive not_waiting = not_waiting.0
no_wait w Acknowledge not_waiting = not_waiting.1
no_wait w Timeout not_waiting = not_waiting.2

at_once : (t : Task) (w : Waits) (m : PacketMsg) → WaitsNot w → press_moment t w m ≡ Some 0
at_once t w m not_waiting =
    ap (λ n. if eqb n 0 then Some 0 else lesser (option_map (λ moment. moment + n) (since t m)) (option_map (λ moment. moment - n) m.expires))
    (no_wait w m.kind not_waiting)

-- ---- the first moment is 0 as soon as one is

zero_or : (a : Option ℕ) → lesser a (Some 0) ≡ Some 0
zero_or None = refl
zero_or (Some n) = (let same : min n 0 ≡ 0 = omega arith in ap (λ x. Some x) same)

or_zero : (b : Option ℕ) → lesser (Some 0) b ≡ Some 0
or_zero None = refl
or_zero (Some n) = (let same : min 0 n ≡ 0 = omega arith in ap (λ x. Some x) same)

stays_zero : (xs : List (Option ℕ)) → fold lesser (Some 0) xs ≡ Some 0
stays_zero [] = refl
stays_zero (x ∷ xs) = ap (λ a. fold lesser a xs) (or_zero x) ∙ stays_zero xs

once_zero : (a x : Option ℕ) (xs : List (Option ℕ)) → x ≡ Some 0 → fold lesser a (x ∷ xs) ≡ Some 0
once_zero a x xs e = ap (λ y. fold lesser (lesser a y) xs) e ∙ ap (λ b. fold lesser b xs) (zero_or a) ∙ stays_zero xs

module _ (t : Task) (reach : Option ℕ) where
  abbrev far : PathTask → List PacketMsg
  far p = ready_beyond (going_on t p) p.order (near_reach t) reach

  one_presses : (p : PathTask) (a : Option ℕ) (rest : List (Option ℕ)) → WaitsNot p.waits → (m : PacketMsg) (ms : List PacketMsg)
      → fold lesser a (map (press_moment t p.waits) (m ∷ ms) ++ rest) ≡ Some 0
  one_presses p a rest not_waiting m ms = once_zero a (press_moment t p.waits m) (map (press_moment t p.waits) ms ++ rest) (at_once t p.waits m not_waiting)

  -- something presses at once, or nothing is far
  press_or_near : (ps : List PathTask) (a : Option ℕ) → AllByRecursion (λ (p : PathTask). WaitsNot p.waits) ps
      → (fold lesser a (flat_map (press_moments_on t reach) ps) ≡ Some 0) ⊎ AllByRecursion (λ p. far p ≡ []) ps
  press_or_near [] a all = inr tt
  press_or_near (p ∷ ps) a all = go (flat_map (press_moments_on t reach) ps) (press_or_near ps a all.1) (far p) refl
    where
      go : (rest : List (Option ℕ)) → (fold lesser a rest ≡ Some 0) ⊎ AllByRecursion (λ q. far q ≡ []) ps
          → (ms : List PacketMsg) → far p ≡ ms → (fold lesser a (map (press_moment t p.waits) (far p) ++ rest) ≡ Some 0) ⊎ AllByRecursion (λ q. far q ≡ []) (p ∷ ps)
      go rest left (m ∷ ms) e = inl (ap (λ xs. fold lesser a (map (press_moment t p.waits) xs ++ rest)) e ∙ one_presses p a rest all.0 m ms)
      go rest left [] e = elim left [
        | inl zero_first ↦ inl (ap (λ xs. fold lesser a (map (press_moment t p.waits) xs ++ rest)) e ∙ zero_first)
        | inr none ↦ inr (e, none)
      ]

  all_near : NoHigher (near_reach t) reach → (ps : List PathTask) → AllByRecursion (λ p. far p ≡ []) ps → flat_map (ready_on t (near_reach t)) ps ≡ flat_map (ready_on t reach) ps
  all_near le [] none = refl
  all_near le (p ∷ ps) none =
      (λ i. map (message_on p) (near_is_all (going_on t p) p.order (near_reach t) reach le none.0 i) ++ flat_map (ready_on t (near_reach t)) ps)
      ∙ ap (λ ms. map (message_on p) (ready (going_on t p) p.order reach) ++ ms) (all_near le ps none.1)

-- ---- the near reach can be reached

contained : (xs : List ℕ) (i h : ℕ) → slice_get xs i ≡ Some h → Contains xs h
contained [] i h e = absurd (none-some h e)
contained (x ∷ xs) zero h e = (0, omega arith, same_Some x h e)
contained (x ∷ xs) (suc i) h e = (let c = contained xs i h e in (suc c.0, omega (arith, c.1), c.2))

live_is : (t : Task) (h : ℕ) → is_live t h ≡ true → (client_of (view_of t)).IsLive h
unfolding client_of
live_is t h e = go (record_at t.book h) e
  where
    go : (o : Option Record) → option_map_or (λ (r : Record). nat_lt t.window.until (r.time + t.config.options.period)) o false ≡ true
        → IsSomeAnd o (λ r. t.window.until < r.time + t.config.options.period)
    go None f = absurd (true≢false (sym f))
    go (Some r) f = ltb-true t.window.until (r.time + t.config.options.period) f

stored_is : (t : Task) (h : ℕ) → Contains t.stored h → Contains (client_of (view_of t)).stored h
unfolding client_of
stored_is t h c = c

-- the near reach is the greatest stored height, and live
pub near_is : (t : Task) (h : ℕ) → near_reach t ≡ Some h → (slice_get t.stored (length t.stored - 1) ≡ Some h) × (is_live t h ≡ true)
near_is t h e = go (slice_get t.stored (length t.stored - 1)) refl e
  where
    test : (k : ℕ) (b : Bool) → is_live t k ≡ b → cond b (Some k) None ≡ Some h → (k ≡ h) × (is_live t k ≡ true)
    test k true live f = (same_Some k h f, live)
    test k false live f = absurd (none-some h f)

    go : (o : Option ℕ) → slice_get t.stored (length t.stored - 1) ≡ o → option_and_then (λ k. if is_live t k then Some k else None) o ≡ Some h
        → (slice_get t.stored (length t.stored - 1) ≡ Some h) × (is_live t h ≡ true)
    go None at f = absurd (none-some h f)
    go (Some k) at f = let is = test k (is_live t k) refl f in (at ∙ ap (λ n. Some n) is.0, ap (is_live t) (sym is.0) ∙ is.1)

pub near_reachable : (t : Task) (h : ℕ) → near_reach t ≡ Some h → IsReachable (client_of (view_of t)) h
near_reachable t h e =
    let is = near_is t h e in
    ([], tt, (stored_is t h (contained t.stored (length t.stored - 1) h is.0), live_is t h is.1))

pub near_no_higher : (t : Task) (reach : Option ℕ) → IsReach (client_of (view_of t)) reach → NoHigher (near_reach t) reach
near_no_higher t reach is = go (near_reach t) refl
  where
    below : (r : Option ℕ) (h : ℕ) → IsSomeAnd r (λ top. h ≤ top) → NoHigher (Some h) r
    below None h le = absurd le
    below (Some top) h le = le

    go : (o : Option ℕ) → near_reach t ≡ o → NoHigher o reach
    go None e = tt
    go (Some h) e = below reach h (is.greatest h (near_reachable t h e))

-- ---- the law

due_are_ready : (t : Task) (reach : Option ℕ) → IsReach (client_of (view_of t)) reach → AllByRecursion (λ (p : PathTask). WaitsNot p.waits) t.paths → due_messages t reach ≡ ready_messages t reach
due_are_ready t reach is all = elim (press_or_near t reach t.paths None all) [
  | inl pressed ↦
      let moment : first_press t reach ≡ Some 0 = pressed in
      let now : presses t reach ≡ true = ap (λ o. option_map_or (λ m. nat_le m t.window.until) o false) moment ∙ le-leb 0 t.window.until (omega arith) in
      ap (λ b. ready_messages t (if b then reach else near_reach t)) now
  | inr none ↦ go (presses t reach) none
]
  where
    go : (b : Bool) → AllByRecursion (λ p. far t reach p ≡ []) t.paths → ready_messages t (if b then reach else near_reach t) ≡ ready_messages t reach
    go true none = refl
    go false none = all_near t reach (near_no_higher t reach is) t.paths none

pub none_waits : NoneWaits
none_waits t reach by_age is all =
    let same = due_are_ready t reach is (recursion_from_All (λ (p : PathTask). WaitsNot p.waits) t.paths all) in
    record {
      goal = first_is_goal t reach by_age ∙ ap (λ ms. first_goal t reach (wanted (map (λ (m : Message). m.packet) ms))) same;
      messages = λ proof. messages_are_due t reach proof by_age ∙ ap (λ ms. if is_some t.asked then [] else ms) same;
    }
