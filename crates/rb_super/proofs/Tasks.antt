-- A client is brought to the same over what is left of a light store.
use Rattle.std.proofs.Common.{◌≡◌, ℕ, ◌+◌, ◌-◌, ◌<◌, ◌≤◌, ◌⊎◌, ◌==◌, Bool, true, false, cond, not, ◌&&◌, nat_lt, nat_le, max, List, [], ◌∷◌, ◌++◌, length, map, Option, Some, None, is_some, inl, inr, refl, sym, ap, ◌∙◌, subst, arith, if◌then◌else◌}
use Rattle.std.specs.List.{All, AllByRecursion, Contains, enumerate_from, filter, find, fold, reduce, slice_get}
use Rattle.std.specs.List.Sorted.{IsStrictlyIncreasing}
use Rattle.std.specs.Option.{IfSome, IsSome, IsSomeAnd, option_map, option_map_or, option_and_then, option_or}
use Rattle.std.proofs.lemmas.Bool.{and_parts, cases_eq, eqb-true, lt-leb, leb-false, leb-true, lt-ltb, le-ltb, not-true, true≢false, false≢true}
use Rattle.std.proofs.lemmas.List.Elements.{All-from_recursion, recursion_from_All, All-weaker}
use Rattle.std.proofs.lemmas.Option.{none-some, same_Some}
use Rattle.rb_book.specs.Header.{Record}
use Rattle.rb_book.specs.Book.{Book, RecordAt, height_of, time_of, is_at, record_at}
use Rattle.rb_book.specs.Invariant.{Rises}
use Rattle.rb_book.proofs.Lists.{found_passes, found_holds}
use Rattle.rb_book.proofs.Rising.{Up, Up-from_increasing}
use Rattle.rb_scan.specs.Expiry.{lesser}
use Rattle.rb_scan.specs.Going.{can_go, is_going, going}
use Rattle.rb_scan.specs.Owed.{is_ready, is_near, ready, ready_beyond, wanted}
use Rattle.rb_scan.specs.declared.message.PacketMsg.{PacketMsg}
use Rattle.rb_scan.specs.declared.path.Order.{Order}
use Rattle.rb_scan.specs.declared.path.Order.TheVariants.{Unordered}
use Rattle.rb_script_types.specs.Waits.{wait_for}
use Rattle.rb_script_types.specs.declared.waits.Waits.{Waits}
use Rattle.rb_script_types.specs.declared.config.RefreshTo.{RefreshTo}
use Rattle.rb_script_types.specs.declared.config.RefreshTo.TheVariants.{Lowest, Highest, Newer}
use Rattle.rb_script_types.specs.declared.goal.Goal.TheVariants.{AtLeast}
use Rattle.rb_step.specs.Fee.{fee_of}
use Rattle.rb_step.specs.LightClient.{Update, Client, IsAcceptable, IsStoredAfter, Leaves}
use Rattle.rb_step.specs.View.{IsView, IsLive, client_of}
use Rattle.rb_plan_types.specs.Refresh.{needed_time, refresh_moment as moment_of_refresh}
use Rattle.rb_plan_types.specs.declared.terms.Terms.{Terms}
use Rattle.rb_plan_types.specs.ProofHeight.{IsProofHeight}
use Rattle.rb_plan_client.specs.Reach.{IsReach}
use Rattle.rb_plan_client.specs.Task.{PathTask, Task, Message, view_of, message_on, bars_of, going_by, going_on, ready_on, ready_messages, too_big_by, too_big_on, too_big_messages, is_live, near_reach, since, press_moment, moments_beyond, first_beyond, first_press, sending_reach, due_messages, wanted_height, newest_stored, is_due, is_fresh, lowest_fresh, fresh_reach, terms_of, reach_record, gain_time, newer_height, refresh_height, refresh_goal, is_apart_by, is_apart, greater, asked_in_reach, joined_goal, goal_by, goal_of, messages_by, messages_of, newest_after, is_overtaken, refresh_moment, if_later, no_earlier, gain_moment, next_by, next_moment, gas_of, gases}
use Rattle.rb_plan_client.proofs.Waits.{near_is}
use Rattle.rb_core_model.proofs.Options.{chained}
use Rattle.rb_super.specs.Alike.{AreAlike}
use Rattle.rb_super.specs.Left.{IsBookLeft, AreStoredLeft, HaveFloors, FitsFloor}
use Rattle.rb_super.proofs.Books.{record_here, same_step}
use Rattle.rb_super.proofs.Last.{and_then_same, last_left, at_place, last_of, flat_map_each, map_same, greatest_above}
use Rattle.rb_super.proofs.LeftLists.{find_left, find_behind, before_found, not_empty}
use Rattle.rb_super.proofs.Planning.{IsAbove}
use Rattle.rb_super.proofs.Runs.{acceptable, leaves}
use Rattle.rb_super.proofs.Views.{alike, some_and}

some_is : {X : Type 0} (o : Option X) → IsSome o → (x : X) × (o ≡ Some x)
some_is None p = absurd (false≢true p)
some_is (Some x) p = (x, refl)

at_some : {X : Type 0} (P : X → Type 0) (o : Option X) (x : X) → o ≡ Some x → IfSome o P → P x
at_some P o x e p = subst (λ q. IfSome q P) e p

-- ---- records by height

at_height : (b : Book) (h : ℕ) (r : Record) → record_at b h ≡ Some r → (k : RecordAt) × (find (is_at h) b.records ≡ Some k) × (k.record_of ≡ r)
at_height b h r e = go (find (is_at h) b.records) refl e
  where
    go : (o : Option RecordAt) → find (is_at h) b.records ≡ o → option_map (λ (k : RecordAt). k.record_of) o ≡ Some r → (k : RecordAt) × (find (is_at h) b.records ≡ Some k) × (k.record_of ≡ r)
    go None at e = absurd (none-some r e)
    go (Some k) at e = (k, at, same_Some k.record_of r e)

-- of two elements that are found, the one with the higher number is later
later_found : {X : Type 0} (f g : X → ℕ) (p q : X → Bool) (xs : List X) (x y : X) → Up (λ a b. f a < f b) xs → Up (λ a b. g a < g b) xs
    → find p xs ≡ Some x → find q xs ≡ Some y → f x < f y → g x < g y
later_found f g p q [] x y rf rg ex ey lt = absurd (none-some x ex)
later_found {X} f g p q (z ∷ zs) x y rf rg ex ey lt = go (later_found f g p q zs x y rf.1 rg.1) (p z) refl ex (q z) refl ey
  where
    go : (find p zs ≡ Some x → find q zs ≡ Some y → f x < f y → g x < g y) → (a : Bool) → p z ≡ a → cond a (Some z) (find p zs) ≡ Some x → (b : Bool) → q z ≡ b → cond b (Some z) (find q zs) ≡ Some y → g x < g y
    go rest true e ex true f' ey = (let same : f x ≡ f y = ap f (sym (same_Some z x ex) ∙ same_Some z y ey) in absurd (omega arith))
    go rest true e ex false f' ey =
        subst (λ a. g a < g y) (same_Some z x ex) (found_holds (λ b. g z < g b) q zs y (All-from_recursion (λ b. g z < g b) zs rg.0) ey)
    go rest false e ex true f' ey =
        let less : f z < f x = found_holds (λ b. f z < f b) p zs x (All-from_recursion (λ b. f z < f b) zs rf.0) ex in
        let same : f z ≡ f y = ap f (same_Some z y ey) in
        absurd (omega arith)
    go rest false e ex false f' ey = rest ex ey lt

-- times rise with heights
time_rises : (b : Book) (g h : ℕ) (r s : Record) → Rises b.records → h ≤ g → record_at b h ≡ Some r → record_at b g ≡ Some s → r.time ≤ s.time
time_rises b g h r s rises le er es = go (cases_eq h g)
  where
    go : (h ≡ g) ⊎ (h ≡ g → ⊥) → r.time ≤ s.time
    go (inl e) = (let same : r ≡ s = same_Some r s (sym er ∙ ap (record_at b) e ∙ es) in let times = ap (λ (x : Record). x.time) same in omega arith)
    go (inr other) =
        let first = at_height b h r er in
        let second = at_height b g s es in
        let low : first.0.height ≡ h = eqb-true first.0.height h (found_passes (is_at h) b.records first.0 first.1) in
        let high : second.0.height ≡ g = eqb-true second.0.height g (found_passes (is_at g) b.records second.0 second.1) in
        let lt : height_of first.0 < height_of second.0 = omega arith in
        let later : time_of first.0 < time_of second.0 =
        later_found height_of time_of (is_at h) (is_at g) b.records first.0 second.0 (Up-from_increasing height_of b.records rises.heights) (Up-from_increasing time_of b.records rises.times) first.1 second.1 lt in
        let t1 = ap (λ (x : Record). x.time) first.2 in
        let t2 = ap (λ (x : Record). x.time) second.2 in
        omega arith

-- ---- messages that only an update brings across

floors_ordered : (P : PacketMsg → Type 0) (n : ℕ) (ms : List PacketMsg) → AllByRecursion P ms → AllByRecursion (λ (q : ℕ × PacketMsg). P q.1) (enumerate_from n ms)
floors_ordered P n [] all = tt
floors_ordered P n (m ∷ ms) all = (all.0, floors_ordered P (n + 1) ms all.1)

-- what passes a test that implies it holds
passing : (P : PacketMsg → Type 0) (test : ℕ × PacketMsg → Bool) (ps : List (ℕ × PacketMsg)) → AllByRecursion (λ (q : ℕ × PacketMsg). test q ≡ true → P q.1) ps
    → AllByRecursion P (map (λ (q : ℕ × PacketMsg). q.1) (filter test ps))
passing P test [] all = tt
passing P test (q ∷ ps) all = go (test q) refl (passing P test ps all.1)
  where
    go : (b : Bool) → test q ≡ b → AllByRecursion P (map (λ (q : ℕ × PacketMsg). q.1) (filter test ps))
        → AllByRecursion P (map (λ (q : ℕ × PacketMsg). q.1) (cond b (q ∷ filter test ps) (filter test ps)))
    go true e rest = (all.0 e, rest)
    go false e rest = rest

each : {X : Type 0} (P : X → Type 0) → ((x : X) → P x) → (xs : List X) → AllByRecursion P xs
each P f [] = tt
each P f (x ∷ xs) = (f x, each P f xs)

implied : {X : Type 0} (P Q : X → Type 0) → ((x : X) → P x → Q x) → (xs : List X) → AllByRecursion P xs → AllByRecursion Q xs
implied P Q f [] all = tt
implied P Q f (x ∷ xs) all = (f x all.0, implied P Q f xs all.1)

-- such a message's floor is above the near reach on an UNORDERED path
beyond : (m : ℕ) (ms : List PacketMsg) (order : Order) (near reach : Option ℕ) → (near ≡ None → reach ≡ None) → IfSome near (λ n. m ≤ n)
    → (order ≡ Unordered) ⊎ All (λ (x : PacketMsg). m ≤ x.floor) ms → AllByRecursion (λ (x : PacketMsg). m ≤ x.floor) (ready_beyond ms order near reach)
beyond m ms order near None none above fits = tt
beyond m ms order near (Some r) none above (inr all) =
    passing (λ (x : PacketMsg). m ≤ x.floor) (λ (p : ℕ × PacketMsg). is_ready order r ms p.0 p.1 && not (is_near order near ms p.0 p.1)) (enumerate_from 0 ms)
    (implied (λ (q : ℕ × PacketMsg). m ≤ q.1.floor) (λ (q : ℕ × PacketMsg). (is_ready order r ms q.0 q.1 && not (is_near order near ms q.0 q.1)) ≡ true → m ≤ q.1.floor) (λ q le e. le) (enumerate_from 0 ms)
    (floors_ordered (λ (x : PacketMsg). m ≤ x.floor) 0 ms (recursion_from_All (λ (x : PacketMsg). m ≤ x.floor) ms all)))
beyond m ms order None (Some r) none above (inl e) = absurd (none-some r (sym (none refl)))
beyond m ms order (Some n) (Some r) none above (inl e) =
    subst (λ (o : Order). AllByRecursion (λ (x : PacketMsg). m ≤ x.floor) (ready_beyond ms o (Some n) (Some r))) (sym e)
    (passing (λ (x : PacketMsg). m ≤ x.floor) (λ (p : ℕ × PacketMsg). is_ready Unordered r ms p.0 p.1 && not (is_near Unordered (Some n) ms p.0 p.1)) (enumerate_from 0 ms)
    (each (λ (q : ℕ × PacketMsg). (is_ready Unordered r ms q.0 q.1 && not (is_near Unordered (Some n) ms q.0 q.1)) ≡ true → m ≤ q.1.floor) far (enumerate_from 0 ms)))
  where
    far : (q : ℕ × PacketMsg) → (is_ready Unordered r ms q.0 q.1 && not (is_near Unordered (Some n) ms q.0 q.1)) ≡ true → m ≤ q.1.floor
    far q passes =
        let past : not (nat_le q.1.floor n) ≡ true = (and_parts (nat_le q.1.floor r) (not (nat_le q.1.floor n)) passes).1 in
        let high : n < q.1.floor = leb-false q.1.floor n (not-true (nat_le q.1.floor n) past) in
        omega arith

-- what holds of all that are owed holds of those that go
goes : (P : PacketMsg → Type 0) (order : Order) (can : PacketMsg → Bool) (ms : List PacketMsg) → AllByRecursion P ms → AllByRecursion P (going order can ms)
goes P order can ms all =
    passing P (λ (q : ℕ × PacketMsg). is_going order can ms q.0 q.1) (enumerate_from 0 ms)
    (implied (λ (q : ℕ × PacketMsg). P q.1) (λ (q : ℕ × PacketMsg). is_going order can ms q.0 q.1 ≡ true → P q.1) (λ q holds e. holds) (enumerate_from 0 ms) (floors_ordered P 0 ms all))

-- ---- what a refresh by gain needs is no older than the newest stored state

no_older : (t : Terms) (stored reach until time : ℕ) → needed_time t stored reach until ≡ Some time → stored ≤ time
no_older t stored reach until time e = grind arith

-- ---- a list that leaves a height live begins at one that is stored and live

begins : (client : Client) → ((t h : ℕ) → client.Accepts t h → client.IsLive t) → (us : List Update) (h : ℕ) → IsAcceptable client us → Leaves client us h
    → (g : ℕ) × Contains client.stored g × client.IsLive g
begins client trusts [] h a (at, live) = (h, at, live)
begins client trusts (u ∷ us) h (has, accepted, rest) l = (u.trusted, has, trusts u.trusted u.height accepted)

-- what was stored before stays stored
stays_stored : (client : Client) (us : List Update) (h : ℕ) → Contains client.stored h → IsStoredAfter client us h
stays_stored client [] h has = has
stays_stored client (u ∷ us) h has = inr (stays_stored client us h has)

module _ (m : ℕ) (t : Task) (ys : List ℕ) (c : Book) (left : IsBookLeft m t.book c) (stored : AreStoredLeft m t.config.options.period t.window t.book t.stored ys)
    (floors : HaveFloors m t.paths) (rises : Rises t.book.records) (view : IsView (view_of (record t { stored = ys; book = c }))) where
  -- the same task over what is left
  abbrev pub rest_of : Task
  rest_of = record t { stored = ys; book = c }

  pub are_alike : AreAlike m (client_of (view_of t)) (client_of (view_of rest_of))
  are_alike = alike t.config.options t.config.fees t.window view.window m t.book c t.stored ys left stored

  last_same : slice_get t.stored (length t.stored - 1) ≡ slice_get ys (length ys - 1)
  last_same = last_left (λ h. h) m t.stored ys stored.heights stored.some

  last_above : (h : ℕ) → slice_get ys (length ys - 1) ≡ Some h → m ≤ h
  last_above h e = at_place (λ x. m ≤ x) ys (length ys - 1) h stored.heights.above e

  -- ---- the near reach

  live_same : (h : ℕ) → m ≤ h → is_live t h ≡ is_live rest_of h
  live_same h le = ap (λ (o : Option Record). option_map_or (λ (r : Record). nat_lt t.window.until (r.time + t.config.options.period)) o false) (record_here m t.book c left h le)

  near_same : near_reach t ≡ near_reach rest_of
  near_same =
      and_then_same (slice_get t.stored (length t.stored - 1)) (slice_get ys (length ys - 1)) (λ h. if is_live t h then Some h else None) (λ h. if is_live rest_of h then Some h else None) last_same
      (λ h e. ap (λ b. if b then Some h else None) (live_same h (last_above h e)))

  near_above : IfSome (near_reach t) (λ n. m ≤ n)
  near_above = go (near_reach t) refl
    where
      go : (o : Option ℕ) → near_reach t ≡ o → IfSome o (λ n. m ≤ n)
      go None e = tt
      go (Some n) e = last_above n (sym last_same ∙ (near_is t n e).0)

  -- where something that is stored is live, the greatest stored height is
  near_there : (h : ℕ) → Contains ys h → IsLive (view_of (record t { stored = ys; book = c })) h → (g : ℕ) × (near_reach rest_of ≡ Some g)
  near_there h has live =
      let last = last_of ys h view.stored.rising has in
      let known = some_is (record_at c last.0) (at_place (λ x. IsSome (record_at c x)) ys (length ys - 1) last.0 view.stored.recorded last.1) in
      let here = some_and (record_at c h) (λ (r : Record). t.window.until < r.time + t.config.options.period) live in
      let times = time_rises c last.0 h here.0 known.0 view.book.records last.2 here.1 known.1 in
      let lt = here.2 in
      let is : is_live rest_of last.0 ≡ true =
      ap (λ (o : Option Record). option_map_or (λ (r : Record). nat_lt t.window.until (r.time + t.config.options.period)) o false) known.1
      ∙ lt-ltb t.window.until (known.0.time + t.config.options.period) (omega arith) in
      (last.0, ap (option_and_then (λ g. if is_live rest_of g then Some g else None)) last.1 ∙ ap (λ b. if b then Some last.0 else None) is)

  reach_none : (r : Option ℕ) → IsReach (client_of (view_of t)) r → near_reach t ≡ None → r ≡ None
  unfolding client_of
  reach_none None is none = refl
  reach_none (Some h) is none =
      let way = is.reached in
      let from = begins (client_of (view_of rest_of)) are_alike.back.trusts_live way.0 h (acceptable m (client_of (view_of t)) (client_of (view_of rest_of)) are_alike.there way.0 way.1)
      (leaves m (client_of (view_of t)) (client_of (view_of rest_of)) are_alike.there way.0 h way.1 way.2).1 in
      let near = near_there from.0 from.1 from.2 in
      absurd (none-some near.0 (sym none ∙ near_same ∙ near.1))

  reach_above : (r : Option ℕ) → IsReach (client_of (view_of t)) r → IfSome r (λ h. m ≤ h)
  reach_above None is = tt
  reach_above (Some h) is = let way = is.reached in (leaves m (client_of (view_of t)) (client_of (view_of rest_of)) are_alike.there way.0 h way.1 way.2).0

  -- ---- messages that press

  since_same : (x : PacketMsg) → m ≤ x.floor → since t x ≡ since rest_of x
  since_same x le =
      ap (λ o. lesser x.since (option_map time_of o)) (find_left height_of m t.book.records c.records left.records (λ k. nat_le x.floor (height_of k)) (λ k lt. lt-leb x.floor (height_of k) (omega arith)))

  press_same : (w : Waits) (x : PacketMsg) → m ≤ x.floor → press_moment t w x ≡ press_moment rest_of w x
  press_same w x le =
      ap (λ o. if wait_for w x.kind == 0 then Some 0 else lesser (option_map (λ moment. moment + wait_for w x.kind) o) (option_map (λ moment. moment - wait_for w x.kind) x.expires)) (since_same x le)

  -- ---- what goes

  going_same : (p : PathTask) → going_on t p ≡ going_on rest_of p
  going_same p = go t.config.refresh_to
    where
      go : (to : RefreshTo) → going_by t p to ≡ going_by rest_of p to
      go Lowest = refl
      go Highest = refl
      go Newer = refl

  going_fits : (p : PathTask) → FitsFloor m p → (p.order ≡ Unordered) ⊎ All (λ (x : PacketMsg). m ≤ x.floor) (going_on t p)
  going_fits p (inl e) = inl e
  going_fits p (inr all) = inr (go t.config.refresh_to)
    where
      go : (to : RefreshTo) → All (λ (x : PacketMsg). m ≤ x.floor) (going_by t p to)
      go Lowest = all
      go Highest = all
      go Newer =
          All-from_recursion (λ (x : PacketMsg). m ≤ x.floor) (going p.order (can_go (bars_of t p)) p.owed)
          (goes (λ (x : PacketMsg). m ≤ x.floor) p.order (can_go (bars_of t p)) p.owed (recursion_from_All (λ (x : PacketMsg). m ≤ x.floor) p.owed all))

  ready_same : (r : Option ℕ) → ready_messages t r ≡ ready_messages rest_of r
  ready_same r =
      flat_map_each (ready_on t r) (ready_on rest_of r) t.paths
      (each (λ (p : PathTask). ready_on t r p ≡ ready_on rest_of r p) (λ (p : PathTask). ap (λ ms. map (message_on p) (ready ms p.order r)) (going_same p)) t.paths)

  -- what is left out and told is the same
  pub told_same : too_big_messages t ≡ too_big_messages rest_of
  told_same = flat_map_each (too_big_on t) (too_big_on rest_of) t.paths (each (λ (p : PathTask). too_big_on t p ≡ too_big_on rest_of p) (λ (p : PathTask). ap (map (message_on p)) (go p t.config.refresh_to)) t.paths)
    where
      go : (p : PathTask) (to : RefreshTo) → too_big_by t p to ≡ too_big_by rest_of p to
      go p Lowest = refl
      go p Highest = refl
      go p Newer = refl

  -- ---- moments at which messages press beyond a height that is not below

  module _ (low r : Option ℕ) (none : low ≡ None → r ≡ None) (above : IfSome low (λ n. m ≤ n)) where
    on_path : (p : PathTask) → FitsFloor m p → moments_beyond t low r p ≡ moments_beyond rest_of low r p
    on_path p fits =
        map_same (press_moment t p.waits) (press_moment rest_of p.waits) (ready_beyond (going_on t p) p.order low r)
        (implied (λ (x : PacketMsg). m ≤ x.floor) (λ (x : PacketMsg). press_moment t p.waits x ≡ press_moment rest_of p.waits x) (press_same p.waits) (ready_beyond (going_on t p) p.order low r)
        (beyond m (going_on t p) p.order low r none above (going_fits p fits)))
        ∙ ap (λ ms. map (press_moment rest_of p.waits) (ready_beyond ms p.order low r)) (going_same p)

    beyond_same : first_beyond t low r ≡ first_beyond rest_of low r
    beyond_same =
        ap (fold lesser None)
        (flat_map_each (moments_beyond t low r) (moments_beyond rest_of low r) t.paths
        (implied (FitsFloor m) (λ p. moments_beyond t low r p ≡ moments_beyond rest_of low r p) on_path t.paths (recursion_from_All (FitsFloor m) t.paths floors)))

  -- ---- the proof height of a list of updates

  -- where the client can be brought to a height, each list leaves one
  proof_none : (r : Option ℕ) → IsReach (client_of (view_of t)) r → (us : List Update) (proof : Option ℕ) → IsProofHeight (client_of (view_of t)) us proof → proof ≡ None → r ≡ None
  proof_none None is us proof is_proof e = refl
  proof_none (Some h) is us proof is_proof e =
      let way = is.reached in
      let from = begins (client_of (view_of t)) are_alike.there.trusts_live way.0 h way.1 way.2 in
      absurd (subst (λ (o : Option ℕ). IsSomeAnd o (λ top. from.0 ≤ top)) e (is_proof.greatest from.0 (stays_stored (client_of (view_of t)) us from.0 from.1, from.2)))

  proof_above : (us : List Update) (proof : Option ℕ) → IsAcceptable (client_of (view_of t)) us → IsProofHeight (client_of (view_of t)) us proof → IfSome proof (λ n. m ≤ n)
  proof_above us None a is_proof = tt
  proof_above us (Some h) a is_proof = (leaves m (client_of (view_of t)) (client_of (view_of rest_of)) are_alike.there us h a is_proof.left).0

  module _ (r : Option ℕ) (is : IsReach (client_of (view_of t)) r) where
    pub first_same : first_press t r ≡ first_press rest_of r
    first_same = beyond_same (near_reach t) r (reach_none r is) near_above ∙ ap (λ n. first_beyond rest_of n r) near_same

    sending_same : sending_reach t r ≡ sending_reach rest_of r
    sending_same = λ i. if option_map_or (λ moment. nat_le moment t.window.until) (first_same i) false then r else near_same i

    due_same : due_messages t r ≡ due_messages rest_of r
    due_same = ap (ready_messages t) sending_same ∙ ready_same (sending_reach rest_of r)

    pub messages_same : (proof : Option ℕ) → messages_of t r proof ≡ messages_of rest_of r proof
    messages_same proof = go t.config.refresh_to
      where
        go : (to : RefreshTo) → messages_by t r proof to ≡ messages_by rest_of r proof to
        go Lowest = ap (λ (ms : List Message). if is_some t.asked then [] else ms) due_same
        go Highest = ap (λ (ms : List Message). if is_some t.asked then [] else ms) due_same
        go Newer = ready_same proof

    wanted_same : wanted_height t r ≡ wanted_height rest_of r
    wanted_same = ap (λ (ms : List Message). wanted (map (λ (x : Message). x.packet) ms)) due_same

    -- ---- refreshing

    newest_same : newest_stored t ≡ newest_stored rest_of
    newest_same =
        and_then_same (slice_get t.stored (length t.stored - 1)) (slice_get ys (length ys - 1)) (record_at t.book) (record_at c) last_same (λ h e. record_here m t.book c left h (last_above h e))

    due_is_same : is_due t ≡ is_due rest_of
    due_is_same = ap (λ (o : Option Record). not (t.config.refresh == 0) && option_map_or (λ (x : Record). nat_le (x.time + t.config.refresh) t.window.until) o false) newest_same

    -- what went is older than a record that is left
    older : (g : ℕ) (x : Record) → record_at c g ≡ Some x → All (λ k. time_of k < x.time) left.records.gone
    older g x there =
        let k = at_height c g x there in
        subst (λ (z : Record). All (λ k. time_of k < z.time) left.records.gone) k.2
        (before_found time_of (is_at g) left.records.gone c.records k.0 (subst (λ (xs : List RecordAt). IsStrictlyIncreasing (map time_of xs)) left.records.parts rises.times) k.1)

    -- so it is due where the greatest stored height is
    stale : (o : Option ℕ) → slice_get ys (length ys - 1) ≡ o → option_map_or (λ (x : Record). nat_le (x.time + t.config.refresh) t.window.until) (option_and_then (record_at c) o) false ≡ true
        → All (λ k. is_fresh t k ≡ false) left.records.gone
    stale None at e = absurd (true≢false (sym e))
    stale (Some g) at e = go (record_at c g) refl e
      where
        go : (o : Option Record) → record_at c g ≡ o → option_map_or (λ (x : Record). nat_le (x.time + t.config.refresh) t.window.until) o false ≡ true → All (λ k. is_fresh t k ≡ false) left.records.gone
        go None there due = absurd (true≢false (sym due))
        go (Some x) there due = All-weaker (λ k. time_of k < x.time) (λ k. is_fresh t k ≡ false) old left.records.gone (older g x there)
          where
            old : (k : RecordAt) → time_of k < x.time → is_fresh t k ≡ false
            old k lt =
                let past = leb-true (x.time + t.config.refresh) t.window.until due in
                le-ltb t.window.until (time_of k + t.config.refresh) (omega arith)

    lowest_same : is_due rest_of ≡ true → lowest_fresh t ≡ lowest_fresh rest_of
    lowest_same due =
        let parts = and_parts (not (t.config.refresh == 0)) (option_map_or (λ (x : Record). nat_le (x.time + t.config.refresh) t.window.until) (newest_stored rest_of) false) due in
        ap (option_map height_of)
        (ap (find (is_fresh t)) left.records.parts ∙ find_behind (is_fresh t) left.records.gone c.records (stale (slice_get ys (length ys - 1)) refl parts.1))

    fresh_same : fresh_reach t r ≡ fresh_reach rest_of r
    fresh_same = go r (reach_above r is)
      where
        go : (o : Option ℕ) → IfSome o (λ h. m ≤ h) → fresh_reach t o ≡ fresh_reach rest_of o
        go None le = refl
        go (Some h) le = ap (λ (o : Option Record). if option_map_or (λ (x : Record). nat_lt t.window.until (x.time + t.config.refresh)) o false then Some h else None) (record_here m t.book c left h le)

    -- by gain: what went is older than what a refresh needs
    reached_same : reach_record t r ≡ reach_record rest_of r
    reached_same = go r (reach_above r is)
      where
        go : (o : Option ℕ) → IfSome o (λ h. m ≤ h) → reach_record t o ≡ reach_record rest_of o
        go None le = refl
        go (Some h) le = record_here m t.book c left h le

    gain_same : gain_time t r ≡ gain_time rest_of r
    gain_same =
        λ i. option_and_then (λ (s : Record). option_and_then (λ (x : Record). needed_time (terms_of t) s.time x.time t.window.until) (reached_same i)) (newest_same i)

    none_gains : (time : ℕ) → gain_time rest_of r ≡ Some time → All (λ k. nat_le time (time_of k) ≡ false) left.records.gone
    none_gains time e =
        let s =
        chained (λ (s : Record). option_and_then (λ (x : Record). needed_time (terms_of t) s.time x.time t.window.until) (reach_record rest_of r)) (newest_stored rest_of) time e in
        let x = chained (λ (x : Record). needed_time (terms_of t) s.0.time x.time t.window.until) (reach_record rest_of r) time s.2 in
        let g = chained (record_at c) (slice_get ys (length ys - 1)) s.0 s.1 in
        let le = no_older (terms_of t) s.0.time x.0.time t.window.until time x.2 in
        All-weaker (λ k. time_of k < s.0.time) (λ k. nat_le time (time_of k) ≡ false) (λ k lt. lt-leb time (time_of k) (omega arith)) left.records.gone (older g.0 s.0 g.2)

    newer_same : newer_height t r ≡ newer_height rest_of r
    newer_same =
        and_then_same (gain_time t r) (gain_time rest_of r) (λ time. option_map height_of (find (λ k. nat_le time (time_of k)) t.book.records))
        (λ time. option_map height_of (find (λ k. nat_le time (time_of k)) c.records)) gain_same
        (λ time e. ap (option_map height_of)
        (ap (find (λ k. nat_le time (time_of k))) left.records.parts ∙ find_behind (λ k. nat_le time (time_of k)) left.records.gone c.records (none_gains time e)))

    where_due : (a b : Option ℕ) → (is_due rest_of ≡ true → a ≡ b) → (if is_due t then a else None) ≡ (if is_due rest_of then b else None)
    where_due a b same = go (is_due rest_of) refl
      where
        go : (d : Bool) → is_due rest_of ≡ d → (if is_due t then a else None) ≡ (if is_due rest_of then b else None)
        go true e = ap (λ x. if x then a else None) (due_is_same ∙ e) ∙ same e ∙ sym (ap (λ x. if x then b else None) e)
        go false e = ap (λ x. if x then a else None) (due_is_same ∙ e) ∙ sym (ap (λ x. if x then b else None) e)

    height_same : (to : RefreshTo) → refresh_height t r to ≡ refresh_height rest_of r to
    height_same Lowest = where_due (lowest_fresh t) (lowest_fresh rest_of) lowest_same
    height_same Highest = where_due (option_or (fresh_reach t r) (lowest_fresh t)) (option_or (fresh_reach rest_of r) (lowest_fresh rest_of)) (λ due. λ i. option_or (fresh_same i) (lowest_same due i))
    height_same Newer = newer_same

    refresh_same : refresh_goal t r ≡ refresh_goal rest_of r
    refresh_same = ap (option_map (λ h. AtLeast h)) (height_same t.config.refresh_to)

    pub apart_same : is_apart t r ≡ is_apart rest_of r
    apart_same = go t.config.refresh_to
      where
        go : (to : RefreshTo) → is_apart_by t r to ≡ is_apart_by rest_of r to
        go Lowest = refl
        go Highest = refl
        go Newer = ap (λ (o : Option ℕ). is_some o) newer_same

    pub goal_same : goal_of t r ≡ goal_of rest_of r
    goal_same = go t.config.refresh_to
      where
        go : (to : RefreshTo) → goal_by t r to ≡ goal_by rest_of r to
        go Lowest = λ i. option_or t.asked (option_or (option_map (λ h. AtLeast h) (wanted_same i)) (refresh_same i))
        go Highest = λ i. option_or t.asked (option_or (option_map (λ h. AtLeast h) (wanted_same i)) (refresh_same i))
        go Newer = λ i. option_or (joined_goal (asked_in_reach t r) (wanted_same i) (newer_same i)) t.asked

    -- ---- what comes next

    records_last : slice_get t.book.records (length t.book.records - 1) ≡ slice_get c.records (length c.records - 1)
    records_last = go left.first
      where
        go : (left.records.gone ≡ []) ⊎ IsSomeAnd (slice_get c.records 0) (λ (k : RecordAt). height_of k ≡ m) → slice_get t.book.records (length t.book.records - 1) ≡ slice_get c.records (length c.records - 1)
        go (inl none) = ap (λ (xs : List RecordAt). slice_get xs (length xs - 1)) (left.records.parts ∙ ap (λ (xs : List RecordAt). xs ++ c.records) none)
        go (inr first) = last_left height_of m t.book.records c.records left.records (inr (not_empty c.records (λ k. height_of k ≡ m) first))

    greater_above : (o p : Option ℕ) → IfSome o (λ n. m ≤ n) → IfSome p (λ n. m ≤ n) → IfSome (greater o p) (λ n. m ≤ n)
    greater_above None p a b = b
    greater_above (Some n) None a b = a
    greater_above (Some n) (Some k) a b = omega arith

    newest_after_same : (us : List Update) → All (IsAbove m) us → newest_after t us ≡ newest_after rest_of us
    newest_after_same us above =
        ap (λ o. option_and_then (record_at t.book) (greater o (reduce max (map (λ (u : Update). u.height) us)))) last_same
        ∙ and_then_same _ _ (record_at t.book) (record_at c) refl (λ h e. record_here m t.book c left h (at_some (λ n. m ≤ n) _ h e high))
      where
        heights : (vs : List Update) → AllByRecursion (IsAbove m) vs → AllByRecursion (λ n. m ≤ n) (map (λ (u : Update). u.height) vs)
        heights [] all = tt
        heights (v ∷ vs) all = (all.0.1, heights vs all.1)

        last_high : (o : Option ℕ) → slice_get ys (length ys - 1) ≡ o → IfSome o (λ n. m ≤ n)
        last_high None e = tt
        last_high (Some n) e = last_above n e

        high : IfSome (greater (slice_get ys (length ys - 1)) (reduce max (map (λ (u : Update). u.height) us))) (λ n. m ≤ n)
        high =
            greater_above (slice_get ys (length ys - 1)) (reduce max (map (λ (u : Update). u.height) us)) (last_high (slice_get ys (length ys - 1)) refl)
            (greatest_above m (map (λ (u : Update). u.height) us) (heights us (recursion_from_All (IsAbove m) us above)))

    overtaken_same : (x : Record) → is_overtaken t x ≡ is_overtaken rest_of x
    overtaken_same x = ap (λ (o : Option RecordAt). option_map_or (λ k. nat_lt x.time (time_of k)) o false) records_last

    moment_same : (us : List Update) → All (IsAbove m) us → refresh_moment t us ≡ refresh_moment rest_of us
    moment_same us above =
        and_then_same (newest_after t us) (newest_after rest_of us) _ _ (newest_after_same us above)
        (λ x e. ap (λ b. if not (t.config.refresh == 0) && b then Some (x.time + t.config.refresh) else None) (overtaken_same x))

    gain_moment_same : (us : List Update) → All (IsAbove m) us → gain_moment t r us ≡ gain_moment rest_of r us
    gain_moment_same us above =
        λ i. option_and_then (λ (s : Record). option_and_then (λ (x : Record). moment_of_refresh (terms_of t) s.time x.time) (reached_same i)) (newest_after_same us above i)

    pub next_same : (us : List Update) (proof : Option ℕ) → IsAcceptable (client_of (view_of t)) us → All (IsAbove m) us → IsProofHeight (client_of (view_of t)) us proof
        → next_moment t r proof us ≡ next_moment rest_of r proof us
    next_same us proof a above is_proof = go t.config.refresh_to
      where
        go : (to : RefreshTo) → next_by t r proof us to ≡ next_by rest_of r proof us to
        go Lowest = λ i. lesser (if_later t (first_same i)) (if_later t (moment_same us above i))
        go Highest = λ i. lesser (if_later t (first_same i)) (if_later t (moment_same us above i))
        go Newer = λ i. no_earlier t (lesser (beyond_same proof r (proof_none r is us proof is_proof) (proof_above us proof a is_proof) i) (gain_moment_same us above i))

  -- ---- gas

  gas_same : (u : Update) → IsAbove m u → gas_of t u ≡ gas_of rest_of u
  gas_same u above = ap (λ s. option_map_or (fee_of t.config.options t.config.gas) s 0) (same_step m t.book c left u.trusted u.height above.0 above.1)

  pub fees_same : (us : List Update) → All (IsAbove m) us → map (gas_of t) us ≡ map (gas_of rest_of) us
  fees_same us above = map_same (gas_of t) (gas_of rest_of) us (implied (IsAbove m) (λ u. gas_of t u ≡ gas_of rest_of u) gas_same us (recursion_from_All (IsAbove m) us above))

  pub gases_same : (us : List Update) (ms : List Message) → All (IsAbove m) us → gases t us ms ≡ gases rest_of us ms
  gases_same us ms above = ap (λ xs. xs ++ map (λ (x : Message). x.gas) ms) (fees_same us above)
