-- When a client without a goal has one next.
use Rattle.std.proofs.Common.{◌≡◌, ◌≢◌, ◌⊎◌, ℕ, zero, suc, ◌+◌, ◌-◌, ◌<◌, ◌≤◌, max, Bool, true, false, cond, not, ◌&&◌, eqb, nat_le, nat_lt, List, [], ◌∷◌, length, map, get_or, Option, Some, None, IfSome, IsSomeAnd, refl, sym, ap, ◌∙◌, subst, inl, inr, arith, if◌then◌else◌}
use Rattle.std.specs.List.{All, AllByRecursion, Contains, enumerate_from, filter, find, flat_map, slice_get}
use Rattle.std.specs.Option.{option_map, option_map_or, option_and_then, option_or}
use Rattle.std.proofs.lemmas.Bool.{true≢false, and_parts, and_from, not_from_false, leb-false, le-leb, lt-leb, ltb-true, lt-ltb, ne_eqb, cases_lt}
use Rattle.std.proofs.lemmas.List.Elements.{recursion_from_All}
use Rattle.std.proofs.lemmas.Option.{none-some, same_Some}
use Rattle.rb_base.specs.Window.{Span}
use Rattle.rb_book.specs.Book.{RecordAt, height_of, time_of, record_at}
use Rattle.rb_book.specs.Header.{Record}
use Rattle.rb_scan.specs.Expiry.{lesser}
use Rattle.rb_scan.specs.Going.{can_go, going, is_barred, is_late}
use Rattle.rb_scan.specs.Owed.{is_ready, is_near, ready, ready_beyond, wanted}
use Rattle.rb_scan.specs.declared.message.Kind.TheVariants.{Receive}
use Rattle.rb_scan.specs.declared.message.PacketMsg.{PacketMsg}
use Rattle.rb_scan.specs.declared.path.Order.{Order}
use Rattle.rb_script_types.specs.Goal.{height_in}
use Rattle.rb_script_types.specs.Waits.{wait_for}
use Rattle.rb_script_types.specs.declared.config.RefreshTo.TheVariants.{Newer}
use Rattle.rb_script_types.specs.declared.goal.Goal.{Goal}
use Rattle.rb_script_types.specs.declared.goal.Goal.TheVariants.{AtLeast}
use Rattle.rb_plan_types.specs.ProofHeight.{IsProofHeight}
use Rattle.rb_step.specs.LightClient.{Leaves}
use Rattle.rb_step.specs.View.{IsView, IsLive, client_of}
use Rattle.rb_plan_types.specs.RefreshLaws.{NextRefresh, RefreshIsInReach}
use Rattle.rb_plan_types.specs.Refresh.{needed_time, refresh_moment as moment_of_refresh}
use Rattle.rb_plan_client.proofs.Nexts.{neither, unmapped, none_wanted, none_first}
use Rattle.rb_plan_client.proofs.Waits.{near_is as near_stored}
use Rattle.rb_plan_client.specs.Laws.{in_window, NextIsNext as NextByAge}
use Rattle.rb_plan_client.specs.Task.{PathTask, Task, Message, view_of, message_on, bars_of, going_by, going_on, ready_on, ready_messages, is_live, near_reach, since, press_moment, press_moments_on, first_beyond, first_press, presses, due_messages, wanted_height, newest_stored, terms_of, reach_record, gain_time, newer_height, greater, asked_in_reach, joined_goal, goal_by, goal_of, newest_after, gain_moment, no_earlier, next_by, next_moment}
use Rattle.rb_core_model.proofs.Options.{tested, some_from}
use Rattle.rb_super.specs.Next.{IsTimely, IsFirst, IsLaterWindow, NextIsNext}
use Rattle.rb_super.proofs.Going.{barred_is, can_before}
use Rattle.rb_super.proofs.Joined.{then_some, if_some}
use Rattle.rb_super.proofs.Members.{In, all_in, contains_from, from_get, in_map, in_flat_map, from_map, from_flat_map, from_passing, in_passing, far_is_ready}
use Rattle.rb_super.proofs.Moments.{lesser_left, lesser_right, one_of, no_later, first_is}
use Rattle.rb_super.proofs.Pressing.{newer_or_not, some_wanted}
use Rattle.rb_super.proofs.Records.{found_at, one_reach}
use Rattle.rb_super.proofs.Still.{fewer, still}
use Rattle.rb_super.proofs.Updates.{near_is}

-- ---- lists

none_in : {X : Type 0} (xs : List X) → ((x : X) → In xs x → ⊥) → xs ≡ []
none_in [] none = refl
none_in (x ∷ xs) none = absurd (none x (inl refl))

some_found : {X : Type 0} (test : X → Bool) (xs : List X) (x : X) → In xs x → test x ≡ true → find test xs ≢ None
some_found test [] x there e = absurd there
some_found {X} test (y ∷ ys) x there e = go (test y) refl there (λ g. some_found test ys x g e)
  where
    go : (b : Bool) → test y ≡ b → (y ≡ x) ⊎ In ys x → (In ys x → find test ys ≢ None) → cond b (Some y) (find test ys) ≢ None
    go true t h rest = λ none. none-some y (sym none)
    go false t (inl same) rest = absurd (true≢false (sym e ∙ ap test (sym same) ∙ t))
    go false t (inr g) rest = rest g

-- a moment has come by the end of a window, or it hasn't
pressed_by : (o : Option ℕ) (moment until : ℕ) → o ≡ Some moment → moment ≤ until → option_map_or (λ m. nat_le m until) o false ≡ true
pressed_by o moment until e le = ap (λ x. option_map_or (λ m. nat_le m until) x false) e ∙ le-leb moment until le

not_pressed_by : (o : Option ℕ) (moment until : ℕ) → o ≡ Some moment → until < moment → option_map_or (λ m. nat_le m until) o false ≡ false
not_pressed_by o moment until e less = ap (λ x. option_map_or (λ m. nat_le m until) x false) e ∙ lt-leb moment until less

-- where nothing is near, all that is ready is far
all_far : (ms : List PacketMsg) (order : Order) (near reach : Option ℕ) → ready ms order near ≡ [] → (m : PacketMsg) → In (ready ms order reach) m → In (ready_beyond ms order near reach) m
all_far ms order near None empty m there = absurd there
all_far ms order near (Some reach) empty m there =
    let test = λ (p : ℕ × PacketMsg). is_ready order reach ms p.0 p.1 in
    let test_both = λ (p : ℕ × PacketMsg). is_ready order reach ms p.0 p.1 && not (is_near order near ms p.0 p.1) in
    let at = from_map (λ (p : ℕ × PacketMsg). p.1) (filter test (enumerate_from 0 ms)) m there in
    let both = from_passing test (enumerate_from 0 ms) at.0 at.1 in
    subst (In (ready_beyond ms order near (Some reach))) at.2
    (in_map (λ (p : ℕ × PacketMsg). p.1) (filter test_both (enumerate_from 0 ms)) at.0
    (in_passing test_both (enumerate_from 0 ms) at.0 both.0
    (and_from (test at.0) (not (is_near order near ms at.0.0 at.0.1)) both.1 (not_from_false (is_near order near ms at.0.0 at.0.1) (not_near near empty at.0 both.0)))))
  where
    not_near : (near : Option ℕ) → ready ms order near ≡ [] → (p : ℕ × PacketMsg) → In (enumerate_from 0 ms) p → is_near order near ms p.0 p.1 ≡ false
    not_near None none p inside = refl
    not_near (Some n) none p inside = go (is_ready order n ms p.0 p.1) refl
      where
        go : (b : Bool) → is_ready order n ms p.0 p.1 ≡ b → b ≡ false
        go false e = refl
        go true e =
            absurd (subst (λ xs. In xs p.1) none
            (in_map (λ (q : ℕ × PacketMsg). q.1) (filter (λ (q : ℕ × PacketMsg). is_ready order n ms q.0 q.1) (enumerate_from 0 ms)) p
            (in_passing (λ (q : ℕ × PacketMsg). is_ready order n ms q.0 q.1) (enumerate_from 0 ms) p inside e)))

-- ---- the needs of a client that is refreshed by gain

asked_none : (t : Task) (reach : Option ℕ) → t.asked ≡ None → asked_in_reach t reach ≡ None
asked_none t reach e = ap (option_and_then (λ (g : Goal). if option_map_or (λ r. nat_le (height_in g) r) reach false then Some g else None)) e

no_greater : (a b : Option ℕ) → greater a b ≡ None → (a ≡ None) × (b ≡ None)
no_greater None b e = (refl, e)
no_greater (Some a) None e = absurd (none-some a (sym e))
no_greater (Some a) (Some b) e = absurd (none-some (max a b) (sym e))

-- without a goal it needs nothing
needs_nothing : (t : Task) (reach : Option ℕ) → t.config.refresh_to ≡ Newer → goal_of t reach ≡ None → (t.asked ≡ None) × (wanted_height t reach ≡ None) × (newer_height t reach ≡ None)
needs_nothing t reach by_gain e =
    let both = neither (joined_goal (asked_in_reach t reach) (wanted_height t reach) (newer_height t reach)) t.asked (sym (ap (goal_by t reach) by_gain) ∙ e) in
    let joined : joined_goal None (wanted_height t reach) (newer_height t reach) ≡ None =
    sym (ap (λ a. joined_goal a (wanted_height t reach) (newer_height t reach)) (asked_none t reach both.1)) ∙ both.0 in
    let parts = no_greater (wanted_height t reach) (newer_height t reach) (unmapped (λ h. AtLeast h) (greater (wanted_height t reach) (newer_height t reach)) joined) in
    (both.1, parts.0, parts.1)

-- and where it needs nothing it has none
without_needs : (t : Task) (reach : Option ℕ) → t.config.refresh_to ≡ Newer → t.asked ≡ None → wanted_height t reach ≡ None → newer_height t reach ≡ None → goal_of t reach ≡ None
without_needs t reach by_gain asked wants newer =
    ap (goal_by t reach) by_gain ∙ (λ i. option_or (joined_goal (asked_none t reach asked i) (wants i) (newer i)) (asked i))

-- ---- a refresh by gain

-- without updates the newest record is that of the greatest stored height
newest_now : (t : Task) → newest_after t [] ≡ newest_stored t
newest_now t = ap (option_and_then (record_at t.book)) (alone (slice_get t.stored (length t.stored - 1)))
  where
    alone : (o : Option ℕ) → greater o None ≡ o
    alone None = refl
    alone (Some n) = refl

module _ (law : NextRefresh) (in_reach : RefreshIsInReach) (t : Task) (reach : Option ℕ) where
  abbrev gain_by : Option Record → Option Record → Option ℕ
  gain_by stored highest = option_and_then (λ (s : Record). option_and_then (λ (r : Record). needed_time (terms_of t) s.time r.time t.window.until) highest) stored

  abbrev moment_by : Option Record → Option Record → Option ℕ
  moment_by stored highest = option_and_then (λ (s : Record). option_and_then (λ (r : Record). moment_of_refresh (terms_of t) s.time r.time) highest) stored

  abbrev height_from : Option ℕ → Option ℕ
  height_from gain = option_and_then (λ time. option_map height_of (find (λ (k : RecordAt). nat_le time (time_of k)) t.book.records)) gain

  -- from its moment on one is needed, and a record serves
  needs_refresh : (n : ℕ) → gain_moment t reach [] ≡ Some n → n ≤ t.window.until → newer_height t reach ≢ None
  needs_refresh n e le = λ none.
      let s = then_some (λ (s : Record). option_and_then (λ (r : Record). moment_of_refresh (terms_of t) s.time r.time) (reach_record t reach)) (newest_after t []) n e in
      let r = then_some (λ (r : Record). moment_of_refresh (terms_of t) s.0.time r.time) (reach_record t reach) n s.2 in
      let time = some_from (needed_time (terms_of t) s.0.time r.0.time t.window.until) (law.from_then_on (terms_of t) s.0.time r.0.time t.window.until n r.2 le) in
      let bounds : (s.0.time < time.0) × (time.0 ≤ r.0.time) =
      subst (λ o. IfSome o (λ x. (s.0.time < x) × (x ≤ r.0.time))) time.1 (in_reach (terms_of t) s.0.time r.0.time t.window.until) in
      let stored : newest_stored t ≡ Some s.0 = sym (newest_now t) ∙ s.1 in
      let gain : gain_time t reach ≡ Some time.0 = (λ i. gain_by (stored i) (r.1 i)) ∙ time.1 in
      let top = then_some (record_at t.book) reach r.0 r.1 in
      let k = found_at t.book top.0 r.0 top.2 in
      let late : time_of k.0 ≡ r.0.time = ap (λ (x : Record). x.time) k.3 in
      some_found (λ (x : RecordAt). nat_le time.0 (time_of x)) t.book.records k.0 k.1 (le-leb time.0 (time_of k.0) (let le_time = bounds.1 in omega (arith, late, le_time)))
      (unmapped height_of (find (λ (x : RecordAt). nat_le time.0 (time_of x)) t.book.records) (sym (ap height_from gain) ∙ none))

  -- and none before
  needs_none : ((n : ℕ) → gain_moment t reach [] ≡ Some n → t.window.until < n) → newer_height t reach ≡ None
  needs_none later = ap height_from (gain (newest_stored t) refl (reach_record t reach) refl)
    where
      gain : (a : Option Record) → newest_stored t ≡ a → (b : Option Record) → reach_record t reach ≡ b → gain_time t reach ≡ None
      gain None e b f = ap (λ o. gain_by o (reach_record t reach)) e
      gain (Some s) e None f = λ i. gain_by (e i) (f i)
      gain (Some s) e (Some r) f = (λ i. gain_by (e i) (f i)) ∙ by_moment (moment_of_refresh (terms_of t) s.time r.time) refl
        where
          is : gain_moment t reach [] ≡ moment_of_refresh (terms_of t) s.time r.time
          is = λ i. moment_by ((newest_now t ∙ e) i) (f i)

          by_moment : (o : Option ℕ) → moment_of_refresh (terms_of t) s.time r.time ≡ o → needed_time (terms_of t) s.time r.time t.window.until ≡ None
          by_moment None m = law.never (terms_of t) s.time r.time t.window.until m
          by_moment (Some n) m = law.before (terms_of t) s.time r.time t.window.until n m (later n (is ∙ m))

-- ---- the greatest height that is proved with no update

left_near : (t : Task) (g : ℕ) → near_reach t ≡ Some g → Leaves (client_of (view_of t)) [] g
unfolding client_of
left_near t g e =
    let h = then_some (λ h. if is_live t h then Some h else None) (slice_get t.stored (length t.stored - 1)) g e in
    let b = if_some (is_live t h.0) h.0 g h.2 in
    let r = tested (λ (r : Record). nat_lt t.window.until (r.time + t.config.options.period)) (record_at t.book h.0) b.0 in
    let live : IsLive (view_of t) h.0 =
    subst (λ o. IsSomeAnd o (λ (r : Record). t.window.until < r.time + t.config.options.period)) (sym r.1) (ltb-true t.window.until (r.0.time + t.config.options.period) r.2) in
    subst (λ n. Contains t.stored n × IsLive (view_of t) n) b.1 (contains_from t.stored h.0 (from_get t.stored (length t.stored - 1) h.0 h.1), live)

proof_is_near : (t : Task) → IsView (view_of t) → (proof : Option ℕ) → IsProofHeight (client_of (view_of t)) [] proof → proof ≡ near_reach t
unfolding client_of
proof_is_near t view None is = go (near_reach t) refl
  where
    go : (o : Option ℕ) → near_reach t ≡ o → None ≡ near_reach t
    go None e = sym e
    go (Some g) e = absurd (is.greatest g (left_near t g e))
proof_is_near t view (Some h) is =
    let near = near_is t view h is.left.0 is.left.1 in
    let low : near.0 ≤ h = is.greatest near.0 (left_near t near.0 near.1) in
    let same : h ≡ near.0 = (let high = near.2 in omega (arith, high, low)) in
    ap (λ n. Some n) same ∙ sym near.1

-- ---- in a later window

module _ (t : Task) (window : Span) (later : t.window.until ≤ window.until) (by_gain : t.config.refresh_to ≡ Newer) where
  abbrev then_ : Task
  then_ = in_window t window

  -- the near reach is as it was, or there is none any more
  near_then : (near_reach then_ ≡ near_reach t) ⊎ (near_reach then_ ≡ None)
  near_then = go (near_reach then_) refl
    where
      stays : (h : ℕ) → is_live then_ h ≡ true → is_live t h ≡ true
      stays h live = step (record_at t.book h) live
        where
          step : (o : Option Record) → option_map_or (λ (r : Record). nat_lt window.until (r.time + t.config.options.period)) o false ≡ true
              → option_map_or (λ (r : Record). nat_lt t.window.until (r.time + t.config.options.period)) o false ≡ true
          step None e = e
          step (Some r) e = lt-ltb t.window.until (r.time + t.config.options.period) (omega (arith, ltb-true window.until (r.time + t.config.options.period) e, later))

      go : (o : Option ℕ) → near_reach then_ ≡ o → (near_reach then_ ≡ near_reach t) ⊎ (near_reach then_ ≡ None)
      go None e = inr e
      go (Some h) e =
          let is = near_stored then_ h e in
          inl (e ∙ sym (ap (option_and_then (λ k. if is_live t k then Some k else None)) is.0 ∙ ap (λ b. cond b (Some h) None) (stays h is.1)))

  -- what is ready then is ready now
  ready_before : (p : PathTask) (height : Option ℕ) (m : PacketMsg) → In (ready (going_on then_ p) p.order height) m → In (ready (going_on t p) p.order height) m
  ready_before p None m there = absurd there
  ready_before p (Some height) m there =
      subst (λ ms. In (ready ms p.order (Some height)) m) (sym (ap (going_by t p) by_gain))
      (fewer (can_go (bars_of t p)) (can_go (bars_of then_ p)) p.owed height p.order (λ x. can_before t then_ p p x x refl refl refl refl later) m
      (subst (λ ms. In (ready ms p.order (Some height)) m) (ap (going_by then_ p) by_gain) there))

-- a path has nothing ready where none has
path_none : (t : Task) (height : Option ℕ) → ready_messages t height ≡ [] → (p : PathTask) → In t.paths p → ready (going_on t p) p.order height ≡ []
path_none t height none p inside =
    none_in (ready (going_on t p) p.order height)
    (λ m there. subst (λ ms. In ms (message_on p m)) none
    (in_flat_map (ready_on t height) t.paths p (message_on p m) inside (in_map (message_on p) (ready (going_on t p) p.order height) m there)))

-- ---- of a client without a goal

expires_by : (o : Option ℕ) (time : ℕ) → IsSomeAnd o (λ moment. moment ≤ time) → (moment : ℕ) × (o ≡ Some moment) × (moment ≤ time)
expires_by None time h = absurd h
expires_by (Some moment) time h = (moment, refl, h)

module _ (law : NextRefresh) (in_reach : RefreshIsInReach) (t : Task) (reach : Option ℕ) (window : Span) (later : t.window.until ≤ window.until)
    (by_gain : t.config.refresh_to ≡ Newer) (idle : goal_of t reach ≡ None)
  where
    abbrev next_task : Task
    next_task = in_window t window

    needs : (t.asked ≡ None) × (wanted_height t reach ≡ None) × (newer_height t reach ≡ None)
    needs = needs_nothing t reach by_gain idle

    nothing_due : due_messages t reach ≡ []
    nothing_due = none_wanted (due_messages t reach) needs.1

    -- where one pressed it would be far, and go
    not_pressed : presses t reach ≡ false
    not_pressed = go (presses t reach) refl
      where
        go : (b : Bool) → presses t reach ≡ b → presses t reach ≡ false
        go false e = e
        go true e =
            let none : ready_messages t reach ≡ [] = ap (λ b. ready_messages t (if b then reach else near_reach t)) (sym e) ∙ nothing_due in
            ap (λ o. option_map_or (λ m. nat_le m t.window.until) o false) (none_first t reach none)

    nothing_near : ready_messages t (near_reach t) ≡ []
    nothing_near = ap (λ b. ready_messages t (if b then reach else near_reach t)) (sym not_pressed) ∙ nothing_due

    near_none_then : (p : PathTask) → In t.paths p → ready (going_on next_task p) p.order (near_reach next_task) ≡ []
    near_none_then p inside = none_in (ready (going_on next_task p) p.order (near_reach next_task)) (λ m there. go m (ready_before t window later by_gain p (near_reach next_task) m there) (near_then t window later by_gain))
      where
        go : (m : PacketMsg) → In (ready (going_on t p) p.order (near_reach next_task)) m → (near_reach next_task ≡ near_reach t) ⊎ (near_reach next_task ≡ None) → ⊥
        go m there (inl same) = subst (λ ms. In ms m) (path_none t (near_reach t) nothing_near p inside) (subst (λ h. In (ready (going_on t p) p.order h) m) same there)
        go m there (inr none) = subst (λ h. In (ready (going_on t p) p.order h) m) none there

    -- a message that is ready is far, and so its moment is one of those at which something presses
    pressing_at : (p : PathTask) → In t.paths p → (m : PacketMsg) → In (ready (going_on t p) p.order reach) m → (a : ℕ) → press_moment t p.waits m ≡ Some a
        → (k : ℕ) × (first_press t reach ≡ Some k) × (k ≤ a)
    pressing_at p inside m there a e =
        let far = all_far (going_on t p) p.order (near_reach t) reach (path_none t (near_reach t) nothing_near p inside) m there in
        no_later (flat_map (press_moments_on t reach) t.paths) None a
        (inr (in_flat_map (press_moments_on t reach) t.paths p (Some a) inside
        (subst (In (press_moments_on t reach p)) e (in_map (press_moment t p.waits) (ready_beyond (going_on t p) p.order (near_reach t) reach) m far))))

    -- a moment at which something presses then is one at which it does now
    presses_now : (a : ℕ) → first_press next_task reach ≡ Some a → (k : ℕ) × (first_press t reach ≡ Some k) × (k ≤ a)
    presses_now a e = among (first_is (flat_map (press_moments_on next_task reach) t.paths) None a e)
      where
        among : (None ≡ Some a) ⊎ In (flat_map (press_moments_on next_task reach) t.paths) (Some a) → (k : ℕ) × (first_press t reach ≡ Some k) × (k ≤ a)
        among (inl none) = absurd (none-some a none)
        among (inr there) =
            let p = from_flat_map (press_moments_on next_task reach) t.paths (Some a) there in
            let m = from_map (press_moment next_task p.0.waits) (ready_beyond (going_on next_task p.0) p.0.order (near_reach next_task) reach) (Some a) p.2 in
            let now = ready_before t window later by_gain p.0 reach m.0 (far_is_ready (going_on next_task p.0) p.0.order (near_reach next_task) reach m.0 m.1) in
            pressing_at p.0 p.1 m.0 now a m.2

    -- ---- the moment that is said

    abbrev said : Option ℕ
    said = lesser (first_press t reach) (gain_moment t reach [])

    -- it is later than now
    said_later : (n : ℕ) → said ≡ Some n → t.window.until < n
    said_later n e = by_need (one_of (first_press t reach) (gain_moment t reach []) n e)
      where
        by_need : (first_press t reach ≡ Some n) ⊎ (gain_moment t reach [] ≡ Some n) → t.window.until < n
        by_need (inl first) = leb-false n t.window.until (ap (λ o. option_map_or (λ m. nat_le m t.window.until) o false) (sym first) ∙ not_pressed)
        by_need (inr gain) = go (cases_lt t.window.until n)
          where
            go : (t.window.until < n) ⊎ (n ≤ t.window.until) → t.window.until < n
            go (inl lt) = lt
            go (inr le) = absurd (needs_refresh law in_reach t reach n gain le needs.2)

    -- ---- before it

    module _ (none_yet : (n : ℕ) → said ≡ Some n → window.until < n) where
      not_pressed_then : presses next_task reach ≡ false
      not_pressed_then = go (first_press next_task reach) refl
        where
          go : (o : Option ℕ) → first_press next_task reach ≡ o → presses next_task reach ≡ false
          go None e = ap (λ o. option_map_or (λ m. nat_le m window.until) o false) e
          go (Some a) e =
              let k = presses_now a e in
              let m = lesser_left (first_press t reach) (gain_moment t reach []) k.0 k.1 in
              let still_later = none_yet m.0 m.1 in
              not_pressed_by (first_press next_task reach) a window.until e (let le_a = k.2 in let le_k = m.2 in omega (arith, still_later, le_a, le_k))

      nothing_due_then : due_messages next_task reach ≡ []
      nothing_due_then =
          ap (λ b. ready_messages next_task (if b then reach else near_reach next_task)) not_pressed_then
          ∙ none_in (ready_messages next_task (near_reach next_task)) (λ x there.
          let p = from_flat_map (ready_on next_task (near_reach next_task)) t.paths x there in
          let m = from_map (message_on p.0) (ready (going_on next_task p.0) p.0.order (near_reach next_task)) x p.2 in
          subst (λ ms. In ms m.0) (near_none_then p.0 p.1) m.1)

      none_until : goal_of next_task reach ≡ None
      none_until =
          without_needs next_task reach by_gain needs.0 (ap (λ (ms : List Message). wanted (map (λ (m : Message). m.packet) ms)) nothing_due_then)
          (needs_none law in_reach next_task reach (λ n e.
          let m = lesser_right (first_press t reach) (gain_moment t reach []) n e in
          let still_later = none_yet m.0 m.1 in
          let le_n = m.2 in
          omega (arith, still_later, le_n)))

    -- ---- at it

    module _ (timely : AllByRecursion (λ (p : PathTask). AllByRecursion IsTimely p.owed) t.paths) (is_said : said ≡ Some window.until) where
      -- none of what is ready now presses before
      no_sooner : (a : ℕ) → ((k : ℕ) × (first_press t reach ≡ Some k) × (k ≤ a)) → window.until ≤ a
      no_sooner a k =
          let m = lesser_left (first_press t reach) (gain_moment t reach []) k.0 k.1 in
          let same : m.0 ≡ window.until = same_Some m.0 window.until (sym m.1 ∙ is_said) in
          let le_a = k.2 in
          let le_k = m.2 in
          omega (arith, same, le_a, le_k)

      -- so a receive that is ready comes in time
      in_time : (p : PathTask) → In t.paths p → (x : PacketMsg) → In (ready (going_on t p) p.order reach) x → (time moment : ℕ) → x.expires ≡ Some moment → moment ≤ time → window.until < time
      in_time p inside x there time moment e before = by_wait (wait_for p.waits x.kind) refl
        where
          -- the moment from which on it presses, by how long it may wait
          press_by : ℕ → Option ℕ
          press_by w = if eqb w 0 then Some 0 else lesser (option_map (λ since. since + w) (since t x)) (option_map (λ expires. expires - w) x.expires)

          by_wait : (w : ℕ) → wait_for p.waits x.kind ≡ w → window.until < time
          by_wait zero is =
              let low = no_sooner 0 (pressing_at p inside x there 0 (ap press_by is)) in
              let now = said_later window.until is_said in
              absurd (omega (arith, low, now))
          by_wait (suc w) is =
              let a = lesser_right (option_map (λ since. since + suc w) (since t x)) (option_map (λ expires. expires - suc w) x.expires) (moment - suc w) (ap (option_map (λ expires. expires - suc w)) e) in
              let some : eqb (suc w) 0 ≡ false = ne_eqb (suc w) 0 (λ none. omega (arith, none)) in
              let when = ap press_by is ∙ ap (λ b. cond b (Some 0) (lesser (option_map (λ since. since + suc w) (since t x)) (option_map (λ expires. expires - suc w) x.expires))) some ∙ a.1 in
              let low = no_sooner a.0 (pressing_at p inside x there a.0 when) in
              let le = a.2 in
              let now = said_later window.until is_said in
              omega (arith, low, le, now, before)

      -- and all that is ready can go then
      can_then : (p : PathTask) → In t.paths p → (top : ℕ) → reach ≡ Some top → (x : PacketMsg) → In p.owed x → can_go (bars_of t p) x ≡ true
          → (x.kind ≡ Receive → In (ready (going p.order (can_go (bars_of t p)) p.owed) p.order (Some top)) x) → can_go (bars_of next_task p) x ≡ true
      can_then p inside top at x owed can there =
          let parts = and_parts (not (is_barred (bars_of t p) x.kind)) (not (is_late t.window.until x)) can in
          and_from (not (is_barred (bars_of next_task p) x.kind)) (not (is_late window.until x)) (ap not (barred_is next_task p x.kind ∙ sym (barred_is t p x.kind)) ∙ parts.0)
          (not_from_false (is_late window.until x) (by_timeout x.timeout refl))
        where
          is_timely : IsTimely x
          is_timely = all_in IsTimely p.owed x (all_in (λ (p : PathTask). AllByRecursion IsTimely p.owed) t.paths p timely inside) owed

          by_timeout : (o : Option ℕ) → x.timeout ≡ o → is_late window.until x ≡ false
          by_timeout None e = ap (λ o. option_map_or (λ time. nat_le time window.until) o false) e
          by_timeout (Some time) e =
              let is = subst (λ o. IfSome o (λ time. (x.kind ≡ Receive) × IsSomeAnd x.expires (λ moment. moment ≤ time))) e is_timely in
              let moment = expires_by x.expires time is.1 in
              let ready_now : In (ready (going_on t p) p.order reach) x =
              subst (λ o. In (ready (going_on t p) p.order o) x) (sym at) (subst (λ ms. In (ready ms p.order (Some top)) x) (sym (ap (going_by t p) by_gain)) (there is.0)) in
              ap (λ o. option_map_or (λ time. nat_le time window.until) o false) e ∙ lt-leb time window.until (in_time p inside x ready_now time moment.0 moment.1 moment.2)

      -- what presses then is ready then
      ready_then : (p : PathTask) → In t.paths p → (m : PacketMsg) → In (ready (going_on t p) p.order reach) m → In (ready (going_on next_task p) p.order reach) m
      ready_then p inside m there = go reach refl there
        where
          go : (o : Option ℕ) → reach ≡ o → In (ready (going_on t p) p.order o) m → In (ready (going_on next_task p) p.order o) m
          go None at h = absurd h
          go (Some top) at h =
              subst (λ ms. In (ready ms p.order (Some top)) m) (sym (ap (going_by next_task p) by_gain))
              (still (can_go (bars_of t p)) (can_go (bars_of next_task p)) p.owed top p.order (can_then p inside top at) m
              (subst (λ ms. In (ready ms p.order (Some top)) m) (ap (going_by t p) by_gain) h))

      -- so it is wanted then
      wanted_then : first_press t reach ≡ Some window.until → wanted_height next_task reach ≢ None
      wanted_then first = among (first_is (flat_map (press_moments_on t reach) t.paths) None window.until first)
        where
          among : (None ≡ Some window.until) ⊎ In (flat_map (press_moments_on t reach) t.paths) (Some window.until) → wanted_height next_task reach ≢ None
          among (inl none) = absurd (none-some window.until none)
          among (inr there) = λ none.
              let p = from_flat_map (press_moments_on t reach) t.paths (Some window.until) there in
              let m = from_map (press_moment t p.0.waits) (ready_beyond (going_on t p.0) p.0.order (near_reach t) reach) (Some window.until) p.2 in
              let ready_m = ready_then p.0 p.1 m.0 (far_is_ready (going_on t p.0) p.0.order (near_reach t) reach m.0 m.1) in
              let far_m = all_far (going_on next_task p.0) p.0.order (near_reach next_task) reach (near_none_then p.0 p.1) m.0 ready_m in
              let k = no_later (flat_map (press_moments_on next_task reach) t.paths) None window.until
              (inr (in_flat_map (press_moments_on next_task reach) t.paths p.0 (Some window.until) p.1
              (subst (In (press_moments_on next_task reach p.0)) m.2 (in_map (press_moment next_task p.0.waits) (ready_beyond (going_on next_task p.0) p.0.order (near_reach next_task) reach) m.0 far_m)))) in
              let pressed = pressed_by (first_press next_task reach) k.0 window.until k.1 k.2 in
              some_wanted next_task reach pressed none

      goal_then : goal_of next_task reach ≢ None
      goal_then = λ none.
          let needs_then = needs_nothing next_task reach by_gain none in
          by_need (one_of (first_press t reach) (gain_moment t reach []) window.until is_said) needs_then.1 needs_then.2
        where
          by_need : (first_press t reach ≡ Some window.until) ⊎ (gain_moment t reach [] ≡ Some window.until) → wanted_height next_task reach ≡ None → newer_height next_task reach ≡ None → ⊥
          by_need (inl first) wants newer = wanted_then first wants
          by_need (inr gain) wants newer = needs_refresh law in_reach next_task reach window.until gain (omega arith) newer

-- ---- the law

-- what is told of a client that is refreshed by gain is the moment that is said, or none that a window can end at
told : (t : Task) (m : Option ℕ) (n : ℕ) → m ≡ Some n → n ≤ 100000000000000000000 → no_earlier t m ≡ Some (max t.window.until n)
told t m n e le = ap (no_earlier t) e ∙ ap (λ b. cond b (Some (max t.window.until n)) None) (le-leb n 100000000000000000000 le)

next_by_gain : NextRefresh → RefreshIsInReach → (t : Task) (reach next : Option ℕ) (window : Span) → t.config.refresh_to ≡ Newer → AllByRecursion (λ (p : PathTask). AllByRecursion IsTimely p.owed) t.paths
    → goal_of t reach ≡ None → next ≡ no_earlier t (lesser (first_press t reach) (gain_moment t reach [])) → IsLaterWindow t reach window → IsFirst t reach window next
next_by_gain law in_reach t reach next window by_gain timely idle is when = record { before = earlier; at_moment = at }
  where
    earlier : ((moment : ℕ) → next ≡ Some moment → window.until < moment) → goal_of (in_window t window) reach ≡ None
    earlier none_yet = none_until law in_reach t reach window when.later by_gain idle (λ n e. go n e (cases_lt 100000000000000000000 n))
      where
        go : (n : ℕ) → lesser (first_press t reach) (gain_moment t reach []) ≡ Some n → (100000000000000000000 < n) ⊎ (n ≤ 100000000000000000000) → window.until < n
        go n e (inl over) = (let le = when.in_range in omega (arith, over, le))
        go n e (inr within) =
            let later = none_yet (max t.window.until n) (is ∙ told t (lesser (first_press t reach) (gain_moment t reach [])) n e within) in
            let le = when.later in
            omega (arith, later, le)

    at : next ≡ Some window.until → goal_of (in_window t window) reach ≢ None
    at e =
        let n = then_some (λ m. if nat_le m 100000000000000000000 then Some (max t.window.until m) else None) (lesser (first_press t reach) (gain_moment t reach [])) window.until (sym is ∙ e) in
        let most = if_some (nat_le n.0 100000000000000000000) (max t.window.until n.0) window.until n.2 in
        let after = said_later law in_reach t reach window when.later by_gain idle n.0 n.1 in
        let same : n.0 ≡ window.until = (let top = most.1 in omega (arith, top, after)) in
        goal_then law in_reach t reach window when.later by_gain idle timely (n.1 ∙ ap (λ x. Some x) same)

pub next_is_next : NextByAge → NextRefresh → RefreshIsInReach → NextIsNext
next_is_next by_age law in_reach t reach next window view timely is idle told_next when = go (newer_or_not t.config.refresh_to)
  where
    is_said : next ≡ next_moment t reach told_next.proof []
    is_said = told_next.is ∙ ap (λ r. next_moment t r told_next.proof []) (one_reach (client_of (view_of t)) told_next.reach reach told_next.is_reach is)

    go : (t.config.refresh_to ≡ Newer) ⊎ (t.config.refresh_to ≢ Newer) → IsFirst t reach window next
    go (inl gain) =
        next_by_gain law in_reach t reach next window gain (recursion_from_All (λ (p : PathTask). AllByRecursion IsTimely p.owed) t.paths each) idle
        (is_said ∙ ap (next_by t reach told_next.proof []) gain ∙ ap (λ o. no_earlier t (lesser (first_beyond t o reach) (gain_moment t reach []))) (proof_is_near t view told_next.proof told_next.is_proof))
        when
      where
        each : All (λ (p : PathTask). AllByRecursion IsTimely p.owed) t.paths
        each = λ k d less. recursion_from_All IsTimely (get_or t.paths k d).owed (timely k d less)
    go (inr age) =
        let both = by_age t reach told_next.proof window age view.book is when.as_high idle when.later when.in_range in
        record { before = λ none_yet. both.0 (λ n e. none_yet n (is_said ∙ e)); at_moment = λ e. both.1 (sym is_said ∙ e) }
