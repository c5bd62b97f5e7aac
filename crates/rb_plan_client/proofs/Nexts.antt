-- When a client that has no goal has one next.
use Rattle.std.proofs.Common.{◌≡◌, ◌≢◌, ◌⊎◌, ℕ, suc, ◌+◌, ◌-◌, ◌<◌, ◌≤◌, Bool, true, false, cond, not, ◌&&◌, eqb, min, nat_le, nat_lt, List, [], ◌∷◌, ◌++◌, length, map, Option, Some, None, refl, sym, ap, ◌∙◌, subst, inl, inr, arith, if◌then◌else◌}
use Rattle.std.specs.List.{filter, enumerate_from, find, flat_map, fold, slice_get, slice_index, AllByRecursion}
use Rattle.std.specs.List.Sorted.{IsStrictlyIncreasing}
use Rattle.std.specs.Option.{option_map, option_map_or, option_and_then, option_or}
use Rattle.std.proofs.lemmas.Bool.{true≢false, and_parts, cases_lt, leb-true, leb-false, le-leb, ltb-true, lt-ltb, le-ltb, ltb-false}
use Rattle.std.proofs.lemmas.Option.{none-some, same_Some}
use Rattle.std.proofs.Math.Nat.{min-le_left, min-le_right}
use Rattle.rb_base.specs.Window.{Span}
use Rattle.rb_book.specs.Header.{Record}
use Rattle.rb_book.specs.Book.{RecordAt, record_at, is_at, height_of, time_of}
use Rattle.rb_book.specs.Invariant.{IsBook}
use Rattle.rb_scan.specs.Expiry.{lesser}
use Rattle.rb_scan.specs.Owed.{is_ready, is_near, ready, ready_beyond, wanted}
use Rattle.rb_scan.specs.declared.message.PacketMsg.{PacketMsg}
use Rattle.rb_scan.specs.declared.path.Order.{Order}
use Rattle.rb_script_types.specs.declared.config.RefreshTo.{RefreshTo}
use Rattle.rb_script_types.specs.declared.config.RefreshTo.TheVariants.{Lowest, Highest, Newer}
use Rattle.rb_script_types.specs.declared.goal.Goal.TheVariants.{AtLeast}
use Rattle.rb_plan_client.specs.Laws.{in_window, NextIsNext}
use Rattle.rb_plan_client.specs.Task.{PathTask, Task, Message, message_on, going_on, ready_on, ready_messages, is_live, near_reach, press_moment, press_moments_on, first_press, presses, due_messages, wanted_height, newest_stored, is_due, is_fresh, lowest_fresh, fresh_reach, sending_reach, greater, newest_after, is_overtaken, refresh_moment, if_later}
use Rattle.rb_plan_client.proofs.Ages.{age_height, age_refresh, age_goal, age_next, goal_is_age, next_is_age, going_same}
use Rattle.rb_plan_client.proofs.Waits.{near_is}

-- ---- options and lists

pub neither : {X : Type 0} (a b : Option X) → option_or a b ≡ None → (a ≡ None) × (b ≡ None)
neither None b e = (refl, e)
neither (Some x) b e = absurd (none-some x (sym e))

pub unmapped : {X Y : Type 0} (f : X → Y) (o : Option X) → option_map f o ≡ None → o ≡ None
unmapped f None e = refl
unmapped f (Some x) e = absurd (none-some (f x) (sym e))

pub none_wanted : (ms : List Message) → wanted (map (λ (m : Message). m.packet) ms) ≡ None → ms ≡ []
none_wanted [] e = refl
none_wanted (m ∷ ms) e = absurd (none-some _ (sym e))

unmapped_list : {X Y : Type 0} (f : X → Y) (xs : List X) → map f xs ≡ [] → xs ≡ []
unmapped_list f [] e = refl
unmapped_list f (x ∷ xs) e = absurd cc

both_empty : {X : Type 0} (xs ys : List X) → xs ++ ys ≡ [] → (xs ≡ []) × (ys ≡ [])
both_empty [] ys e = (refl, e)
both_empty (x ∷ xs) ys e = absurd cc

lesser_left : (a b : Option ℕ) (n : ℕ) → a ≡ Some n → (m : ℕ) × (lesser a b ≡ Some m) × (m ≤ n)
lesser_left (Some a) None n e = (a, refl, (let same : a ≡ n = same_Some a n e in omega arith))
lesser_left (Some a) (Some b) n e = (min a b, refl, (let same : a ≡ n = same_Some a n e in omega (arith, min-le_left a b)))
lesser_left None b n e = absurd (none-some n e)

lesser_right : (a b : Option ℕ) (n : ℕ) → b ≡ Some n → (m : ℕ) × (lesser a b ≡ Some m) × (m ≤ n)
lesser_right None (Some b) n e = (b, refl, (let same : b ≡ n = same_Some b n e in omega arith))
lesser_right (Some a) (Some b) n e = (min a b, refl, (let same : b ≡ n = same_Some b n e in omega (arith, min-le_right a b)))
lesser_right a None n e = absurd (none-some n e)

least_of : (a b : ℕ) → (min a b ≡ a) ⊎ (min a b ≡ b)
least_of a b = elim (cases_lt a b) [ inl less ↦ inl (omega (arith, less)) | inr no_less ↦ inr (omega (arith, no_less)) ]

either_moment : (a b : Option ℕ) (n : ℕ) → lesser a b ≡ Some n → (a ≡ Some n) ⊎ (b ≡ Some n)
either_moment None b n e = inr e
either_moment (Some a) None n e = inl e
either_moment (Some a) (Some b) n e =
    let is : min a b ≡ n = same_Some (min a b) n e in
    elim (least_of a b) [ inl f ↦ inl (ap (λ x. Some x) (sym f ∙ is)) | inr f ↦ inr (ap (λ x. Some x) (sym f ∙ is)) ]

-- ---- what is far where nothing is near

only_far : (f g : ℕ × PacketMsg → Bool) (ps : List (ℕ × PacketMsg)) → filter f ps ≡ [] → filter (λ p. g p && not (f p)) ps ≡ filter g ps
only_far f g [] e = refl
only_far f g (p ∷ ps) e = go (only_far f g ps) (f p) refl e (g p) refl
  where
    go : (filter f ps ≡ [] → filter (λ q. g q && not (f q)) ps ≡ filter g ps) → (a : Bool) → f p ≡ a → cond a (p ∷ filter f ps) (filter f ps) ≡ [] → (b : Bool) → g p ≡ b
        → cond (b && not a) (p ∷ filter (λ q. g q && not (f q)) ps) (filter (λ q. g q && not (f q)) ps) ≡ cond b (p ∷ filter g ps) (filter g ps)
    go rest true h none b i = absurd cc
    go rest false h none true i = ap (λ qs. p ∷ qs) (rest none)
    go rest false h none false i = rest none

far_alone : (ms : List PacketMsg) (order : Order) (near reach : Option ℕ) → ready ms order near ≡ [] → ready_beyond ms order near reach ≡ ready_beyond ms order None reach
far_alone ms order near None none = refl
far_alone ms order None (Some reach) none = refl
far_alone ms order (Some near) (Some reach) none =
    let f : ℕ × PacketMsg → Bool = λ p. is_ready order near ms p.0 p.1 in
    let g : ℕ × PacketMsg → Bool = λ p. is_ready order reach ms p.0 p.1 in
    let here = only_far f g (enumerate_from 0 ms) (unmapped_list (λ (p : ℕ × PacketMsg). p.1) (filter f (enumerate_from 0 ms)) none) in
    let there = only_far (λ p. false) g (enumerate_from 0 ms) (nothing (enumerate_from 0 ms)) in
    ap (map (λ (p : ℕ × PacketMsg). p.1)) (here ∙ sym there)
  where
    nothing : (ps : List (ℕ × PacketMsg)) → filter (λ (p : ℕ × PacketMsg). false) ps ≡ []
    nothing [] = refl
    nothing (p ∷ ps) = nothing ps

-- what is far is ready
far_is_ready : (ms : List PacketMsg) (order : Order) (near reach : Option ℕ) → ready ms order reach ≡ [] → ready_beyond ms order near reach ≡ []
far_is_ready ms order near None none = refl
far_is_ready ms order near (Some reach) none =
    ap (map (λ (p : ℕ × PacketMsg). p.1)) (go (enumerate_from 0 ms) (unmapped_list (λ (p : ℕ × PacketMsg). p.1) _ none))
  where
    go : (ps : List (ℕ × PacketMsg)) → filter (λ (p : ℕ × PacketMsg). is_ready order reach ms p.0 p.1) ps ≡ []
        → filter (λ (p : ℕ × PacketMsg). is_ready order reach ms p.0 p.1 && not (is_near order near ms p.0 p.1)) ps ≡ []
    go [] e = refl
    go (p ∷ ps) e = step (go ps) (is_ready order reach ms p.0 p.1) e
      where
        step : (filter (λ (q : ℕ × PacketMsg). is_ready order reach ms q.0 q.1) ps ≡ []
            → filter (λ (q : ℕ × PacketMsg). is_ready order reach ms q.0 q.1 && not (is_near order near ms q.0 q.1)) ps ≡ []) → (b : Bool) → cond b (p ∷ filter (λ (q : ℕ × PacketMsg). is_ready order reach ms q.0 q.1) ps) (filter (λ (q : ℕ × PacketMsg). is_ready order reach ms q.0 q.1) ps) ≡ []
            → cond (b && not (is_near order near ms p.0 p.1)) (p ∷ filter (λ (q : ℕ × PacketMsg). is_ready order reach ms q.0 q.1 && not (is_near order near ms q.0 q.1)) ps)
            (filter (λ (q : ℕ × PacketMsg). is_ready order reach ms q.0 q.1 && not (is_near order near ms q.0 q.1)) ps) ≡ []
        step rest true f = absurd cc
        step rest false f = rest f

-- ---- records that are fresh later are fresh now

none_fresh : (t : Task) (window : Span) → t.window.until ≤ window.until → (ks : List RecordAt) → find (is_fresh t) ks ≡ None → find (is_fresh (in_window t window)) ks ≡ None
none_fresh t window le [] e = refl
none_fresh t window le (k ∷ ks) e = go (none_fresh t window le ks) (is_fresh t k) refl (is_fresh (in_window t window) k) refl e
  where
    go : (find (is_fresh t) ks ≡ None → find (is_fresh (in_window t window)) ks ≡ None) → (a : Bool) → is_fresh t k ≡ a → (b : Bool) → is_fresh (in_window t window) k ≡ b → cond a (Some k) (find (is_fresh t) ks) ≡ None
        → cond b (Some k) (find (is_fresh (in_window t window)) ks) ≡ None
    go rest true f b g h = absurd (none-some k (sym h))
    go rest false f true g h =
        let late = ltb-true window.until (time_of k + t.config.refresh) g in
        absurd (true≢false (sym (lt-ltb t.window.until (time_of k + t.config.refresh) (omega (arith, late, le))) ∙ f))
    go rest false f false g h = rest h

-- where no record is fresh, the reach's is not
not_fresh_reach : (t : Task) (ks : List RecordAt) (h : ℕ) → find (is_fresh t) ks ≡ None
    → option_map_or (λ (r : Record). nat_lt t.window.until (r.time + t.config.refresh)) (option_map (λ (k : RecordAt). k.record_of) (find (is_at h) ks)) false ≡ false
not_fresh_reach t [] h e = refl
not_fresh_reach t (k ∷ ks) h e = go (not_fresh_reach t ks h) (is_fresh t k) refl (is_at h k) e
  where
    go : (find (is_fresh t) ks ≡ None
        → option_map_or (λ (r : Record). nat_lt t.window.until (r.time + t.config.refresh)) (option_map (λ (k : RecordAt). k.record_of) (find (is_at h) ks)) false ≡ false)
        → (a : Bool) → is_fresh t k ≡ a → (b : Bool) → cond a (Some k) (find (is_fresh t) ks) ≡ None
        → option_map_or (λ (r : Record). nat_lt t.window.until (r.time + t.config.refresh)) (option_map (λ (k : RecordAt). k.record_of) (cond b (Some k) (find (is_at h) ks))) false ≡ false
    go rest true f b g = absurd (none-some k (sym g))
    go rest false f true g = f
    go rest false f false g = rest g

no_refresh_height : (t : Task) (reach : Option ℕ) → find (is_fresh t) t.book.records ≡ None → (to : RefreshTo) → age_height t reach to ≡ None
no_refresh_height t reach none Lowest = ap (option_map height_of) none
no_refresh_height t reach none Newer = ap (option_map height_of) none
no_refresh_height t reach none Highest = ap (λ o. option_or o (lowest_fresh t)) (low reach) ∙ ap (option_map height_of) none
  where
    low : (o : Option ℕ) → fresh_reach t o ≡ None
    low None = refl
    low (Some h) = ap (λ b. if b then Some h else None) (not_fresh_reach t t.book.records h none)

fresh_found : (t : Task) (reach : Option ℕ) (to : RefreshTo) → age_height t reach to ≡ None → find (is_fresh t) t.book.records ≡ None
fresh_found t reach Lowest e = unmapped height_of (find (is_fresh t) t.book.records) e
fresh_found t reach Newer e = unmapped height_of (find (is_fresh t) t.book.records) e
fresh_found t reach Highest e = unmapped height_of (find (is_fresh t) t.book.records) (neither (fresh_reach t reach) (lowest_fresh t) e).1

-- ---- times rise, so the last record is the latest

rising_tail : (x : ℕ) (xs : List ℕ) → IsStrictlyIncreasing (x ∷ xs) → IsStrictlyIncreasing xs
rising_tail x xs rising = λ i lt.
    let same : suc i + 1 ≡ suc (i + 1) = omega arith in
    subst (λ n. slice_index xs i < slice_index (x ∷ xs) n) same (rising (suc i) (omega (arith, lt)))

last_same : (k l : RecordAt) (ks : List RecordAt) → slice_get (k ∷ l ∷ ks) (length (k ∷ l ∷ ks) - 1) ≡ slice_get (l ∷ ks) (length (l ∷ ks) - 1)
last_same k l ks = (let same : length (k ∷ l ∷ ks) - 1 ≡ suc (length (l ∷ ks) - 1) = omega arith in ap (slice_get (k ∷ l ∷ ks)) same)

last_latest : (ks : List RecordAt) → IsStrictlyIncreasing (map time_of ks) → (r : ℕ) → option_map_or (λ k. nat_lt r (time_of k)) (slice_get ks (length ks - 1)) false ≡ false
    → AllByRecursion (λ k. time_of k ≤ r) ks
last_latest [] rising r late = tt
last_latest (k ∷ []) rising r late = (ltb-false r (time_of k) late, tt)
last_latest (k ∷ l ∷ ks) rising r late =
    let late_too = sym (ap (λ o. option_map_or (λ m. nat_lt r (time_of m)) o false) (last_same k l ks)) ∙ late in
    let rest = last_latest (l ∷ ks) (rising_tail (time_of k) (map time_of (l ∷ ks)) rising) r late_too in
    let first : time_of k < time_of l = rising 0 (omega arith) in
    (omega (arith, first, rest.0), rest)

none_later : (t : Task) (window : Span) (r : ℕ) (ks : List RecordAt) → AllByRecursion (λ k. time_of k ≤ r) ks → r + t.config.refresh ≤ window.until → find (is_fresh (in_window t window)) ks ≡ None
none_later t window r [] all due = refl
none_later t window r (k ∷ ks) all due =
    ap (λ b. cond b (Some k) (find (is_fresh (in_window t window)) ks)) (le-ltb window.until (time_of k + t.config.refresh) (omega (arith, all.0, due))) ∙ none_later t window r ks all.1 due

some_later : (t : Task) (window : Span) (r : ℕ) (ks : List RecordAt) → option_map_or (λ k. nat_lt r (time_of k)) (slice_get ks (length ks - 1)) false ≡ true → window.until ≡ r + t.config.refresh
    → find (is_fresh (in_window t window)) ks ≢ None
some_later t window r [] late same = λ e. true≢false (sym late)
some_later t window r (k ∷ []) late same = λ e.
    let fresh : is_fresh (in_window t window) k ≡ true = lt-ltb window.until (time_of k + t.config.refresh) (omega (arith, ltb-true r (time_of k) late, same)) in
    none-some k (sym (ap (λ b. cond b (Some k) None) (sym fresh) ∙ e))
some_later t window r (k ∷ l ∷ ks) late same = λ e.
    go (some_later t window r (l ∷ ks) (sym (ap (λ o. option_map_or (λ m. nat_lt r (time_of m)) o false) (last_same k l ks)) ∙ late) same) (is_fresh (in_window t window) k) e
  where
    go : find (is_fresh (in_window t window)) (l ∷ ks) ≢ None → (b : Bool) → cond b (Some k) (find (is_fresh (in_window t window)) (l ∷ ks)) ≡ None → ⊥
    go rest true f = none-some k (sym f)
    go rest false f = rest f

-- without updates the newest record is that of the greatest stored height
newest_now : (t : Task) → newest_after t [] ≡ newest_stored t
newest_now t = ap (option_and_then (record_at t.book)) (alone (slice_get t.stored (length t.stored - 1)))
  where
    alone : (o : Option ℕ) → greater o None ≡ o
    alone None = refl
    alone (Some n) = refl

-- ---- nothing is ready at a height

nothing_at : Task → Option ℕ → List PathTask → Type 0
nothing_at t height ps = AllByRecursion (λ (p : PathTask). ready (going_on t p) p.order height ≡ []) ps

all_empty : (t : Task) (height : Option ℕ) (ps : List PathTask) → flat_map (ready_on t height) ps ≡ [] → nothing_at t height ps
unfolding nothing_at
all_empty t height [] e = tt
all_empty t height (p ∷ ps) e =
    let parts = both_empty (map (message_on p) (ready (going_on t p) p.order height)) (flat_map (ready_on t height) ps) e in
    (unmapped_list (message_on p) (ready (going_on t p) p.order height) parts.0, all_empty t height ps parts.1)

empty_all : (t : Task) (height : Option ℕ) (ps : List PathTask) → nothing_at t height ps → flat_map (ready_on t height) ps ≡ []
unfolding nothing_at
empty_all t height [] all = refl
empty_all t height (p ∷ ps) all = (λ i. map (message_on p) (all.0 i) ++ flat_map (ready_on t height) ps) ∙ empty_all t height ps all.1

no_height : (t : Task) (ps : List PathTask) → nothing_at t None ps
unfolding nothing_at
no_height t [] = tt
no_height t (p ∷ ps) = (refl, no_height t ps)

-- what isn't ready has no moment from which on it presses
no_moment : (t : Task) (reach : Option ℕ) (ps : List PathTask) → nothing_at t reach ps → flat_map (press_moments_on t reach) ps ≡ []
unfolding nothing_at
no_moment t reach [] all = refl
no_moment t reach (p ∷ ps) all = (λ i. map (press_moment t p.waits) (far_is_ready (going_on t p) p.order (near_reach t) reach all.0 i) ++ flat_map (press_moments_on t reach) ps) ∙ no_moment t reach ps all.1

pub none_first : (t : Task) (reach : Option ℕ) → ready_messages t reach ≡ [] → first_press t reach ≡ None
none_first t reach none = ap (fold lesser None) (no_moment t reach t.paths (all_empty t reach t.paths none))

-- ---- the law

module _ (t : Task) (reach : Option ℕ) (window : Span) (by_age : t.config.refresh_to ≢ Newer) (later : t.window.until ≤ window.until)
    (in_range : window.until ≤ 100000000000000000000) where
  abbrev then_ : Task
  then_ = in_window t window

  -- what is ready at a height is so then
  ready_then : (height : Option ℕ) (ps : List PathTask) → flat_map (ready_on then_ height) ps ≡ flat_map (ready_on t height) ps
  ready_then height [] = refl
  ready_then height (p ∷ ps) = (λ i. map (message_on p) (ready (going_same t window p by_age i) p.order height) ++ ready_then height ps i)

  -- the near reach is as it was, or there is none any more
  near_then : (near_reach then_ ≡ near_reach t) ⊎ (near_reach then_ ≡ None)
  near_then = go (near_reach then_) refl
    where
      stays : (h : ℕ) → is_live then_ h ≡ true → is_live t h ≡ true
      stays h live = step (record_at t.book h) live
        where
          step : (o : Option Record) → option_map_or (λ (r : Record). nat_lt window.until (r.time + t.config.options.period)) o false ≡ true
              → option_map_or (λ (r : Record). nat_lt t.window.until (r.time + t.config.options.period)) o false ≡ true
          step None e = e
          step (Some r) e = lt-ltb t.window.until (r.time + t.config.options.period) (omega (arith, ltb-true window.until (r.time + t.config.options.period) e, later))

      go : (o : Option ℕ) → near_reach then_ ≡ o → (near_reach then_ ≡ near_reach t) ⊎ (near_reach then_ ≡ None)
      go None e = inr e
      go (Some h) e =
          let is = near_is then_ h e in
          inl (e ∙ sym (ap (option_and_then (λ k. if is_live t k then Some k else None)) is.0 ∙ ap (λ b. cond b (Some h) None) (stays h is.1)))

  -- so what is far is the same, and presses from the same moment on
  same_press : (ps : List PathTask) → nothing_at t (near_reach t) ps → nothing_at t (near_reach then_) ps
      → flat_map (press_moments_on then_ reach) ps ≡ flat_map (press_moments_on t reach) ps
  unfolding nothing_at
  same_press [] now next = refl
  same_press (p ∷ ps) now next =
      let same = ap (λ ms. ready_beyond ms p.order (near_reach then_) reach) (going_same t window p by_age) in
      let far = same ∙ far_alone (going_on t p) p.order (near_reach then_) reach next.0 ∙ sym (far_alone (going_on t p) p.order (near_reach t) reach now.0) in
      (λ i. map (press_moment t p.waits) (far i) ++ same_press ps now.1 next.1 i)

  -- ---- of a client without a goal

  module _ (idle : age_goal t reach ≡ None) where
    asked_none : t.asked ≡ None
    asked_none = (neither t.asked _ idle).0

    nothing_due : due_messages t reach ≡ []
    nothing_due =
        none_wanted (due_messages t reach) (unmapped (λ h. AtLeast h) (wanted_height t reach) (neither (option_map (λ h. AtLeast h) (wanted_height t reach)) (age_refresh t reach) (neither t.asked _ idle).1).0)

    no_refresh : age_refresh t reach ≡ None
    no_refresh = (neither (option_map (λ h. AtLeast h) (wanted_height t reach)) (age_refresh t reach) (neither t.asked _ idle).1).1

    -- where one pressed it would be far, and go
    not_pressed : presses t reach ≡ false
    not_pressed = go (presses t reach) refl
      where
        go : (b : Bool) → presses t reach ≡ b → presses t reach ≡ false
        go false e = e
        go true e =
            let none : ready_messages t reach ≡ [] = ap (λ b. ready_messages t (if b then reach else near_reach t)) (sym e) ∙ nothing_due in
            ap (λ o. option_map_or (λ m. nat_le m t.window.until) o false) (none_first t reach none)

    nothing_near : nothing_at t (near_reach t) t.paths
    nothing_near = all_empty t (near_reach t) t.paths (ap (λ b. ready_messages t (if b then reach else near_reach t)) (sym not_pressed) ∙ nothing_due)

    nothing_near_then : nothing_at t (near_reach then_) t.paths
    nothing_near_then = elim near_then [
      | inl same ↦ subst (λ h. nothing_at t h t.paths) (sym same) nothing_near
      | inr none ↦ subst (λ h. nothing_at t h t.paths) (sym none) (no_height t t.paths)
    ]

    same_first : first_press then_ reach ≡ first_press t reach
    same_first = ap (fold lesser None) (same_press t.paths nothing_near nothing_near_then)

    -- a moment after the window that is told is told as the next one, or an earlier one is
    told : (n : ℕ) → t.window.until < n → n ≤ window.until → if_later t (Some n) ≡ Some n
    told n after before =
        ap (λ b. if b then Some n else None) (λ i. lt-ltb t.window.until n after i && le-leb n 100000000000000000000 (omega (arith, before, in_range)) i)

    module _ (none_yet : (next : ℕ) → age_next t reach ≡ Some next → window.until < next) where
      not_pressed_then : presses then_ reach ≡ false
      not_pressed_then = ap (λ o. option_map_or (λ m. nat_le m window.until) o false) same_first ∙ go (first_press t reach) refl
        where
          go : (o : Option ℕ) → first_press t reach ≡ o → option_map_or (λ m. nat_le m window.until) o false ≡ false
          go None e = refl
          go (Some n) e = step (nat_le n window.until) refl
            where
              after : t.window.until < n
              after = leb-false n t.window.until (ap (λ o. option_map_or (λ m. nat_le m t.window.until) o false) (sym e) ∙ not_pressed)

              step : (b : Bool) → nat_le n window.until ≡ b → nat_le n window.until ≡ false
              step false f = f
              step true f =
                  let before = leb-true n window.until f in
                  let first : if_later t (first_press t reach) ≡ Some n = ap (if_later t) e ∙ told n after before in
                  let next = lesser_left (if_later t (first_press t reach)) (if_later t (refresh_moment t [])) n first in
                  let still = none_yet next.0 next.1 in
                  absurd (omega (arith, still, next.2, before))

      nothing_due_then : due_messages then_ reach ≡ []
      nothing_due_then =
          ready_then (sending_reach then_ reach) t.paths ∙ ap (λ b. ready_messages t (if b then reach else near_reach then_)) not_pressed_then
          ∙ empty_all t (near_reach then_) t.paths nothing_near_then

      no_refresh_then : IsBook t.book → age_refresh then_ reach ≡ None
      no_refresh_then book = go (is_due then_) refl
        where
          to : RefreshTo
          to = t.config.refresh_to

          -- the newest record was due before: then none was fresh
          was_due : is_due t ≡ true → find (is_fresh then_) t.book.records ≡ None
          was_due e =
              let goal : option_map (λ h. AtLeast h) (age_height t reach to) ≡ None =
              ap (λ b. if b then option_map (λ h. AtLeast h) (age_height t reach to) else None) (sym e) ∙ no_refresh in
              none_fresh t window later t.book.records (fresh_found t reach to (unmapped (λ h. AtLeast h) (age_height t reach to) goal))

          -- it is due only now: then no record is later, or its moment was told
          is_now_due : (r : Record) → newest_stored t ≡ Some r → not (eqb t.config.refresh 0) ≡ true → t.window.until < r.time + t.config.refresh → r.time + t.config.refresh ≤ window.until
              → find (is_fresh then_) t.book.records ≡ None
          is_now_due r newest some after before = step (is_overtaken t r) refl
            where
              n : ℕ
              n = r.time + t.config.refresh

              moment : (b : Bool) → is_overtaken t r ≡ b → refresh_moment t [] ≡ (if b then Some n else None)
              moment b e =
                  ap (option_and_then (λ (x : Record). if not (eqb t.config.refresh 0) && is_overtaken t x then Some (x.time + t.config.refresh) else None)) (newest_now t ∙ newest)
                  ∙ (λ i. if some i && e i then Some n else None)

              step : (b : Bool) → is_overtaken t r ≡ b → find (is_fresh then_) t.book.records ≡ None
              step false e = none_later t window r.time t.book.records (last_latest t.book.records book.records.times r.time e) before
              step true e =
                  let due : if_later t (refresh_moment t []) ≡ Some n = ap (if_later t) (moment true e) ∙ told n after before in
                  let next = lesser_right (if_later t (first_press t reach)) (if_later t (refresh_moment t [])) n due in
                  let still = none_yet next.0 next.1 in
                  absurd (omega (arith, still, next.2, before))

          by_newest : (o : Option Record) → newest_stored t ≡ o → not (eqb t.config.refresh 0) ≡ true
              → option_map_or (λ (r : Record). nat_le (r.time + t.config.refresh) window.until) o false ≡ true
              → option_map_or (λ (r : Record). nat_le (r.time + t.config.refresh) t.window.until) o false ≡ false
              → find (is_fresh then_) t.book.records ≡ None
          by_newest None newest some due not_before = absurd (true≢false (sym due))
          by_newest (Some r) newest some due not_before =
              is_now_due r newest some (leb-false (r.time + t.config.refresh) t.window.until not_before) (leb-true (r.time + t.config.refresh) window.until due)

          none_is_fresh : is_due then_ ≡ true → (b : Bool) → is_due t ≡ b → find (is_fresh then_) t.book.records ≡ None
          none_is_fresh due true e = was_due e
          none_is_fresh due false e =
              let parts = and_parts (not (eqb t.config.refresh 0)) (option_map_or (λ (r : Record). nat_le (r.time + t.config.refresh) window.until) (newest_stored t) false) due in
              by_newest (newest_stored t) refl parts.0 parts.1
              (ap (λ b. b && option_map_or (λ (r : Record). nat_le (r.time + t.config.refresh) t.window.until) (newest_stored t) false) (sym parts.0) ∙ e)

          go : (b : Bool) → is_due then_ ≡ b → age_refresh then_ reach ≡ None
          go false e = ap (λ b. if b then option_map (λ h. AtLeast h) (age_height then_ reach to) else None) e
          go true e =
              ap (λ b. if b then option_map (λ h. AtLeast h) (age_height then_ reach to) else None) e
              ∙ ap (option_map (λ h. AtLeast h)) (no_refresh_height then_ reach (none_is_fresh e (is_due t) refl) to)

      idle_then : IsBook t.book → age_goal then_ reach ≡ None
      idle_then book =
          (λ i. option_or (asked_none i) (option_or (option_map (λ h. AtLeast h) (wanted (map (λ (m : Message). m.packet) (nothing_due_then i)))) (no_refresh_then book i)))

    -- ---- at the moment that is told

    later_is : (o : Option ℕ) (n : ℕ) → if_later t o ≡ Some n → (o ≡ Some n) × (t.window.until < n)
    later_is None n e = absurd (none-some n e)
    later_is (Some m) n e = go (nat_lt t.window.until m) refl (nat_le m 100000000000000000000) e
      where
        go : (a : Bool) → nat_lt t.window.until m ≡ a → (b : Bool) → (if a && b then Some m else None) ≡ Some n → (Some m ≡ Some n) × (t.window.until < n)
        go true f true g = (g, (let same : m ≡ n = same_Some m n g in let lt = ltb-true t.window.until m f in omega arith))
        go true f false g = absurd (none-some n g)
        go false f b g = absurd (none-some n g)

    pressed_then : first_press t reach ≡ Some window.until → age_goal then_ reach ≢ None
    pressed_then first = λ none.
        let now : presses then_ reach ≡ true =
        ap (λ o. option_map_or (λ m. nat_le m window.until) o false) (same_first ∙ first) ∙ le-leb window.until window.until (omega arith) in
        let wanted_none = unmapped (λ h. AtLeast h) (wanted_height then_ reach) (neither (option_map (λ h. AtLeast h) (wanted_height then_ reach)) (age_refresh then_ reach) (neither t.asked _ none).1).0 in
        let due : due_messages then_ reach ≡ [] = none_wanted (due_messages then_ reach) wanted_none in
        let ready_none : ready_messages t reach ≡ [] = sym (ready_then reach t.paths) ∙ ap (λ b. ready_messages then_ (if b then reach else near_reach then_)) (sym now) ∙ due in
        none-some window.until (sym (none_first t reach ready_none) ∙ first)

    refreshed_then : refresh_moment t [] ≡ Some window.until → age_goal then_ reach ≢ None
    refreshed_then moment = λ none.
        let refresh_none : age_refresh then_ reach ≡ None = (neither (option_map (λ h. AtLeast h) (wanted_height then_ reach)) (age_refresh then_ reach) (neither t.asked _ none).1).1 in
        by_newest (newest_stored t) refl (sym (ap (option_and_then (λ (x : Record). if not (eqb t.config.refresh 0) && is_overtaken t x then Some (x.time + t.config.refresh) else None)) (newest_now t)) ∙ moment) refresh_none
      where
        to : RefreshTo
        to = t.config.refresh_to

        by_record : (r : Record) → newest_stored t ≡ Some r → (a : Bool) → not (eqb t.config.refresh 0) ≡ a → (b : Bool) → is_overtaken t r ≡ b
            → (if a && b then Some (r.time + t.config.refresh) else None) ≡ Some window.until → age_refresh then_ reach ≡ None → ⊥
        by_record r newest false f b g e none = none-some window.until e
        by_record r newest true f false g e none = none-some window.until e
        by_record r newest true f true g e none =
            let same : r.time + t.config.refresh ≡ window.until = same_Some (r.time + t.config.refresh) window.until e in
            let due : is_due then_ ≡ true =
            (λ i. f i && option_map_or (λ (x : Record). nat_le (x.time + t.config.refresh) window.until) (newest i) false) ∙ le-leb (r.time + t.config.refresh) window.until (omega (arith, same)) in
            let height : age_height then_ reach to ≡ None =
            unmapped (λ h. AtLeast h) (age_height then_ reach to) (ap (λ b. if b then option_map (λ h. AtLeast h) (age_height then_ reach to) else None) (sym due) ∙ none) in
            some_later t window r.time t.book.records g (sym same) (fresh_found then_ reach to height)

        by_newest : (o : Option Record) → newest_stored t ≡ o
            → option_and_then (λ (x : Record). if not (eqb t.config.refresh 0) && is_overtaken t x then Some (x.time + t.config.refresh) else None) (newest_stored t) ≡ Some window.until
            → age_refresh then_ reach ≡ None → ⊥
        by_newest None newest e none =
            none-some window.until (sym (ap (option_and_then (λ (x : Record). if not (eqb t.config.refresh 0) && is_overtaken t x then Some (x.time + t.config.refresh) else None)) newest) ∙ e)
        by_newest (Some r) newest e none =
            by_record r newest (not (eqb t.config.refresh 0)) refl (is_overtaken t r) refl
            (sym (ap (option_and_then (λ (x : Record). if not (eqb t.config.refresh 0) && is_overtaken t x then Some (x.time + t.config.refresh) else None)) newest) ∙ e) none

    goal_then : age_next t reach ≡ Some window.until → age_goal then_ reach ≢ None
    goal_then e = elim (either_moment (if_later t (first_press t reach)) (if_later t (refresh_moment t [])) window.until e) [
      | inl first ↦ pressed_then (later_is (first_press t reach) window.until first).0
      | inr refresh ↦ refreshed_then (later_is (refresh_moment t []) window.until refresh).0
    ]

pub next_is_next : NextIsNext
next_is_next t reach proof window by_age book is is_then idle later in_range =
    let idle_by_age = sym (goal_is_age t reach by_age) ∙ idle in
    let told = next_is_age t reach proof by_age in
    let goal_then_is = goal_is_age (in_window t window) reach by_age in (
      λ none_yet. goal_then_is ∙ idle_then t reach window by_age later in_range idle_by_age (λ next e. none_yet next (told ∙ e)) book,
      λ e none. goal_then t reach window by_age later in_range idle_by_age (sym told ∙ e) (sym goal_then_is ∙ none),
    )
