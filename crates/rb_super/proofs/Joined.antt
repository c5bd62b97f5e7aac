-- By gain one goal joins all that a client needs, within its reach; so it is met.
use Rattle.std.proofs.Common.{◌≡◌, ◌⊎◌, ℕ, ◌+◌, ◌-◌, ◌<◌, ◌≤◌, max, Bool, true, false, cond, nat_lt, nat_le, List, [], ◌∷◌, length, map, IsSome, Option, Some, None, MatchOption, IfSome, IsSomeAnd, refl, sym, ap, ◌∙◌, subst, inl, inr, arith, if◌then◌else◌}
use Rattle.std.specs.List.{find, fold, slice_get}
use Rattle.std.specs.List.Sorted.{IsStrictlyIncreasing}
use Rattle.std.specs.Option.{option_map, option_map_or, option_and_then, option_or}
use Rattle.std.proofs.lemmas.Bool.{true≢false, leb-true, leb-false, ltb-true}
use Rattle.std.proofs.lemmas.List.Elements.{recursion_from_All}
use Rattle.std.proofs.lemmas.List.{map-id}
use Rattle.std.proofs.lemmas.Option.{none-some, same_Some}
use Rattle.rb_book.specs.Book.{RecordAt, height_of, time_of, record_at}
use Rattle.rb_book.specs.Header.{Record}
use Rattle.rb_book.specs.Invariant.{IsBook}
use Rattle.rb_book.proofs.Rising.{Up, Up-from_increasing}
use Rattle.rb_plan_types.specs.Goal.{Meets}
use Rattle.rb_plan_types.specs.Least.{IsLeast, IsUnreachable}
use Rattle.rb_plan_types.specs.ProofHeight.{IsProofHeight}
use Rattle.rb_scan.proofs.Within.{ready-within}
use Rattle.rb_scan.specs.Owed.{ready, wanted}
use Rattle.rb_scan.specs.declared.message.PacketMsg.{PacketMsg}
use Rattle.rb_script_types.specs.Goal.{height_in}
use Rattle.rb_script_types.specs.declared.config.RefreshTo.TheVariants.{Newer}
use Rattle.rb_script_types.specs.declared.goal.Goal.{Goal}
use Rattle.rb_script_types.specs.declared.goal.Goal.TheVariants.{AtLeast, Exactly}
use Rattle.rb_step.specs.View.{IsView, IsLive, client_of}
use Rattle.rb_plan_types.specs.RefreshLaws.{RefreshIsInReach}
use Rattle.rb_plan_types.specs.Refresh.{needed_time}
use Rattle.rb_plan_client.specs.Draft.{Plan, Planned, IsPlan, IsAnswer}
use Rattle.rb_plan_client.specs.Reach.{IsReach, IsReachable}
use Rattle.rb_plan_client.specs.Task.{Task, Message, view_of, message_on, going_on, ready_on, ready_messages, is_live, near_reach, presses, sending_reach, due_messages, wanted_height, newest_stored, terms_of, reach_record, gain_time, newer_height, asked_in_reach, joined_goal, goal_by, goal_of, messages_of}
use Rattle.rb_core_model.proofs.Options.{mapped, tested}
use Rattle.rb_super.specs.Pressing.{asks_exactly}
use Rattle.rb_super.proofs.Members.{In, all_in, contains_from, from_get, from_map, from_flat_map, last_above}
use Rattle.rb_super.proofs.Records.{floors, no_later_than, found_at, some_record, one_reach}

pub then_some : {X Y : Type 0} (f : X → Option Y) (o : Option X) (y : Y) → option_and_then f o ≡ Some y → (x : X) × (o ≡ Some x) × (f x ≡ Some y)
then_some f None y e = absurd (none-some y e)
then_some f (Some x) y e = (x, refl, e)

pub if_some : (b : Bool) (h g : ℕ) → ◌≡◌ {A = Option ℕ} (if b then Some h else None) (Some g) → (b ≡ true) × (h ≡ g)
if_some true h g e = (refl, same_Some h g e)
if_some false h g e = absurd (none-some g e)

-- ---- records of a book

-- the lowest record that is new enough is at the height of another, or below
pub first_new : (time : ℕ) (rs : List RecordAt) → Up (λ (a b : RecordAt). height_of a < height_of b) rs → (x : RecordAt) → In rs x → time ≤ time_of x
    → (k : RecordAt) × (find (λ (k : RecordAt). nat_le time (time_of k)) rs ≡ Some k) × In rs k × (time ≤ time_of k) × (height_of k ≤ height_of x)
first_new time [] up x there new = absurd there
first_new time (r ∷ rs) up x there new = go (nat_le time (time_of r)) refl there (λ g. first_new time rs up.1 x g new)
  where
    no_higher : (r ≡ x) ⊎ In rs x → height_of r ≤ height_of x
    no_higher (inl same) = (let e : height_of r ≡ height_of x = ap height_of same in omega (arith, e))
    no_higher (inr g) = (let lt = all_in (λ (y : RecordAt). height_of r < height_of y) rs x up.0 g in omega (arith, lt))

    go : (b : Bool) → nat_le time (time_of r) ≡ b → (r ≡ x) ⊎ In rs x
        → (In rs x → (k : RecordAt) × (find (λ (k : RecordAt). nat_le time (time_of k)) rs ≡ Some k) × In rs k × (time ≤ time_of k) × (height_of k ≤ height_of x))
        → (k : RecordAt) × (cond b (Some r) (find (λ (k : RecordAt). nat_le time (time_of k)) rs) ≡ Some k) × In (r ∷ rs) k × (time ≤ time_of k) × (height_of k ≤ height_of x)
    go true t h rest = (r, refl, inl refl, leb-true time (time_of r) t, no_higher h)
    go false t (inl same) rest = (let e : time_of r ≡ time_of x = ap time_of same in absurd (omega (arith, leb-false time (time_of r) t, e, new)))
    go false t (inr g) rest = let k = rest g in (k.0, k.1, inr k.2, k.3, k.4)

-- the newest stored state is no older than any stored one
pub newest_above : (t : Task) → IsView (view_of t) → (k : RecordAt) → In t.book.records k → In t.stored (height_of k) → (s : Record) × (newest_stored t ≡ Some s) × (time_of k ≤ s.time)
newest_above t view k there stored =
    let rises = Up-from_increasing (λ (h : ℕ). h) t.stored (subst IsStrictlyIncreasing (sym (map-id t.stored)) view.stored.rising) in
    let last = last_above (λ (a b : ℕ). a < b) t.stored rises (height_of k) stored in
    let inside : In t.stored last.0 = from_get t.stored (length t.stored - 1) last.0 last.1 in
    let one = some_record (record_at t.book last.0) (all_in (λ h. IsSome (record_at t.book h)) t.stored last.0 (recursion_from_All (λ h. IsSome (record_at t.book h)) t.stored view.stored.recorded) inside) in
    let b = found_at t.book last.0 one.0 one.1 in
    let later = no_later_than t.book.records (Up-from_increasing height_of t.book.records view.book.records.heights) (Up-from_increasing time_of t.book.records view.book.records.times) k b.0 there b.1 (up_to last.0 last.2 b.0 b.2) in
    let time_b : time_of b.0 ≡ one.0.time = ap (λ (r : Record). r.time) b.3 in
    (one.0, ap (option_and_then (record_at t.book)) last.1 ∙ one.1, omega (arith, later, time_b))
  where
    up_to : (l : ℕ) → (height_of k ≡ l) ⊎ (height_of k < l) → (b : RecordAt) → height_of b ≡ l → height_of k ≤ height_of b
    up_to l (inl e) b at = omega (arith, e, at)
    up_to l (inr lt) b at = omega (arith, lt, at)

-- ---- what goes is within reach

raised_to : (a : ℕ) (ms : List Message) (limit : ℕ) → a ≤ limit → ((m : Message) → In ms m → m.packet.floor ≤ limit) → fold max a (floors ms) ≤ limit
raised_to a [] limit le low = le
raised_to a (x ∷ ms) limit le low = raised_to (max a x.packet.floor) ms limit (let f = low x (inl refl) in omega (arith, le, f)) (λ m there. low m (inr there))

at_most : (ms : List Message) (limit : ℕ) → ((m : Message) → In ms m → m.packet.floor ≤ limit) → (h : ℕ) → wanted (map (λ (m : Message). m.packet) ms) ≡ Some h → h ≤ limit
at_most [] limit low h e = absurd (none-some h e)
at_most (x ∷ ms) limit low h e =
    let same = same_Some (fold max x.packet.floor (floors ms)) h e in
    let le = raised_to x.packet.floor ms limit (low x (inl refl)) (λ m there. low m (inr there)) in
    omega (arith, same, le)

floors_within : (t : Task) (bound : Option ℕ) (limit : ℕ) → IfSome bound (λ b. b ≤ limit) → (m : Message) → In (ready_messages t bound) m → m.packet.floor ≤ limit
floors_within t None limit low m h =
    let p = from_flat_map (ready_on t None) t.paths m h in
    let x = from_map (message_on p.0) (ready (going_on t p.0) p.0.order None) m p.2 in
    absurd x.1
floors_within t (Some b) limit low m h =
    let p = from_flat_map (ready_on t (Some b)) t.paths m h in
    let ms = ready (going_on t p.0) p.0.order (Some b) in
    let x = from_map (message_on p.0) ms m p.2 in
    let floor : x.0.floor ≤ b = all_in (λ (m : PacketMsg). m.floor ≤ b) ms x.0 (recursion_from_All (λ (m : PacketMsg). m.floor ≤ b) ms (ready-within (going_on t p.0) p.0.order b)) x.1 in
    let same : x.0.floor ≡ m.packet.floor = ap (λ (y : Message). y.packet.floor) x.2 in
    omega (arith, floor, same, low)

module _ (t : Task) (reach : Option ℕ) (is : IsReach (client_of (view_of t)) reach) (top : ℕ) (at : reach ≡ Some top) where
  source_within : (g : ℕ) → In t.stored g → IsLive (view_of t) g → g ≤ top
  unfolding client_of
  source_within g there live = subst (λ o. IsSomeAnd o (λ r. g ≤ r)) at (is.greatest g ([], tt, (contains_from t.stored g there, live)))

  near_within : (g : ℕ) → near_reach t ≡ Some g → g ≤ top
  near_within g e =
      let h = then_some (λ h. if is_live t h then Some h else None) (slice_get t.stored (length t.stored - 1)) g e in
      let b = if_some (is_live t h.0) h.0 g h.2 in
      let r = tested (λ (r : Record). nat_lt t.window.until (r.time + t.config.options.period)) (record_at t.book h.0) b.0 in
      let live : IsLive (view_of t) h.0 =
      subst (λ o. IsSomeAnd o (λ r. t.window.until < r.time + t.config.options.period)) (sym r.1) (ltb-true t.window.until (r.0.time + t.config.options.period) r.2) in
      let le = source_within h.0 (from_get t.stored (length t.stored - 1) h.0 h.1) live in
      let same = b.1 in
      omega (arith, le, same)

  sending_within : IfSome (sending_reach t reach) (λ b. b ≤ top)
  sending_within = go (presses t reach)
    where
      near : (o : Option ℕ) → near_reach t ≡ o → IfSome o (λ b. b ≤ top)
      near None e = tt
      near (Some g) e = near_within g e

      go : (b : Bool) → IfSome (if b then reach else near_reach t) (λ b. b ≤ top)
      go true = subst (λ o. IfSome o (λ b. b ≤ top)) (sym at) (omega arith)
      go false = near (near_reach t) refl

  wanted_within : (h : ℕ) → wanted_height t reach ≡ Some h → h ≤ top
  wanted_within h e = at_most (due_messages t reach) top (floors_within t (sending_reach t reach) top sending_within) h e

-- ---- what a refresh needs is within reach

-- the record that a refresh needs, and those that it goes by
pub record IsNewer (t : Task) (reach : Option ℕ) (n : ℕ) : Type 0 where
  pub newest : Record
  pub is_newest : newest_stored t ≡ Some newest
  pub highest : Record
  pub is_highest : reach_record t reach ≡ Some highest
  pub time : ℕ
  pub needed : needed_time (terms_of t) newest.time highest.time t.window.until ≡ Some time
  pub first : RecordAt
  pub found : find (λ (k : RecordAt). nat_le time (time_of k)) t.book.records ≡ Some first
  pub at_height : height_of first ≡ n

is_newer : (t : Task) (reach : Option ℕ) (n : ℕ) → newer_height t reach ≡ Some n → IsNewer t reach n
is_newer t reach n e =
    let time = then_some (λ time. option_map height_of (find (λ (k : RecordAt). nat_le time (time_of k)) t.book.records)) (gain_time t reach) n e in
    let first = mapped height_of (find (λ (k : RecordAt). nat_le time.0 (time_of k)) t.book.records) n time.2 in
    let s = then_some (λ (s : Record). option_and_then (λ (r : Record). needed_time (terms_of t) s.time r.time t.window.until) (reach_record t reach)) (newest_stored t) time.0 time.1 in
    let r = then_some (λ (r : Record). needed_time (terms_of t) s.0.time r.time t.window.until) (reach_record t reach) time.0 s.2 in
    record {
      newest = s.0;
      is_newest = s.1;
      highest = r.0;
      is_highest = r.1;
      time = time.0;
      needed = r.2;
      first = first.0;
      found = first.1;
      at_height = first.2;
    }

newer_within : (in_reach : RefreshIsInReach) (t : Task) → IsBook t.book → (reach : Option ℕ) (top : ℕ) → reach ≡ Some top → (n : ℕ) → newer_height t reach ≡ Some n → n ≤ top
newer_within in_reach t book reach top at n e =
    let is = is_newer t reach n e in
    let bounds = subst (λ o. IfSome o (λ time. (is.newest.time < time) × (time ≤ is.highest.time))) is.needed (in_reach (terms_of t) is.newest.time is.highest.time t.window.until) in
    let highest : record_at t.book top ≡ Some is.highest = sym (ap (option_and_then (record_at t.book)) at) ∙ is.is_highest in
    let x = found_at t.book top is.highest highest in
    let late : time_of x.0 ≡ is.highest.time = ap (λ (r : Record). r.time) x.3 in
    let le = bounds.1 in
    let k = first_new is.time t.book.records (Up-from_increasing height_of t.book.records book.records.heights) x.0 x.1 (omega (arith, late, le)) in
    let same : height_of k.0 ≡ n = ap height_of (same_Some k.0 is.first (sym k.1 ∙ is.found)) ∙ is.at_height in
    let high = k.4 in
    let here = x.2 in
    omega (arith, same, high, here)

-- ---- the goal

-- at least as high as messages and a refresh need, and within reach
pub record IsGoal (t : Task) (reach : Option ℕ) (top : ℕ) : Type 0 where
  pub height : ℕ
  pub goal : goal_of t reach ≡ Some (AtLeast height)
  pub wanted : IfSome (wanted_height t reach) (λ w. w ≤ height)
  pub newer : IfSome (newer_height t reach) (λ n. n ≤ height)
  pub low : height ≤ top

module _ (in_reach : RefreshIsInReach) (t : Task) (book : IsBook t.book) (reach : Option ℕ) (is : IsReach (client_of (view_of t)) reach) (top : ℕ) (at : reach ≡ Some top)
    (by_gain : t.config.refresh_to ≡ Newer) (plain : asks_exactly t.asked ≡ false)
  where
    abbrev if_in_reach : Goal → Option Goal
    if_in_reach g = if option_map_or (λ r. nat_le (height_in g) r) reach false then Some g else None

    asked_is : (o : Option Goal) → t.asked ≡ o → (asked_in_reach t reach ≡ None) ⊎ ((a : ℕ) × (asked_in_reach t reach ≡ Some (AtLeast a)) × (a ≤ top))
    asked_is None e = inl (ap (option_and_then if_in_reach) e)
    asked_is (Some (Exactly a)) e = absurd (true≢false (sym (ap asks_exactly e) ∙ plain))
    asked_is (Some (AtLeast a)) e = go (nat_le a top) refl
      where
        found : asked_in_reach t reach ≡ (if nat_le a top then Some (AtLeast a) else None)
        found = ap (option_and_then if_in_reach) e ∙ ap (λ (o : Option ℕ). if option_map_or (λ r. nat_le a r) o false then Some (AtLeast a) else None) at

        go : (b : Bool) → nat_le a top ≡ b → (asked_in_reach t reach ≡ None) ⊎ ((a : ℕ) × (asked_in_reach t reach ≡ Some (AtLeast a)) × (a ≤ top))
        go true f = inr (a, found ∙ ap (λ (b : Bool). if b then Some (AtLeast a) else None) f, leb-true a top f)
        go false f = inl (found ∙ ap (λ (b : Bool). if b then Some (AtLeast a) else None) f)

    joined : (asked : Option Goal) → asked_in_reach t reach ≡ asked → (o : Option ℕ) → wanted_height t reach ≡ o → (p : Option ℕ) → newer_height t reach ≡ p
        → goal_of t reach ≡ option_or (joined_goal asked o p) t.asked
    joined asked e o f p g = ap (goal_by t reach) by_gain ∙ (λ i. option_or (joined_goal (e i) (f i) (g i)) t.asked)

    pub goal_is : (wanted_height t reach ≡ None → newer_height t reach ≡ None → ⊥) → IsGoal t reach top
    goal_is some = by_asked (asked_is t.asked refl)
      where
        -- a goal that is joined of so much
        of_height : (h : ℕ) → goal_of t reach ≡ Some (AtLeast h) → (o : Option ℕ) → wanted_height t reach ≡ o → IfSome o (λ w. w ≤ h) → (p : Option ℕ) → newer_height t reach ≡ p
            → IfSome p (λ n. n ≤ h) → h ≤ top → IsGoal t reach top
        of_height h goal o f w p g n low = record {
          height = h;
          goal = goal;
          wanted = subst (λ o. IfSome o (λ w. w ≤ h)) (sym f) w;
          newer = subst (λ o. IfSome o (λ n. n ≤ h)) (sym g) n;
          low = low;
        }

        alone : asked_in_reach t reach ≡ None → (o : Option ℕ) → wanted_height t reach ≡ o → (p : Option ℕ) → newer_height t reach ≡ p → IsGoal t reach top
        alone none None f None g = absurd (some f g)
        alone none None f (Some n) g = of_height n (joined None none None f (Some n) g) None f tt (Some n) g (omega arith) (newer_within in_reach t book reach top at n g)
        alone none (Some w) f None g = of_height w (joined None none (Some w) f None g) (Some w) f (omega arith) None g tt (wanted_within t reach is top at w f)
        alone none (Some w) f (Some n) g =
            let a = wanted_within t reach is top at w f in
            let b = newer_within in_reach t book reach top at n g in
            of_height (max w n) (joined None none (Some w) f (Some n) g) (Some w) f (omega arith) (Some n) g (omega arith) (omega (arith, a, b))

        beside : (a : ℕ) → asked_in_reach t reach ≡ Some (AtLeast a) → a ≤ top → (o : Option ℕ) → wanted_height t reach ≡ o → (p : Option ℕ) → newer_height t reach ≡ p → IsGoal t reach top
        beside a e ask None f None g = absurd (some f g)
        beside a e ask None f (Some n) g =
            let b = newer_within in_reach t book reach top at n g in
            of_height (max a n) (joined (Some (AtLeast a)) e None f (Some n) g) None f tt (Some n) g (omega arith) (omega (arith, ask, b))
        beside a e ask (Some w) f None g =
            let b = wanted_within t reach is top at w f in
            of_height (max a w) (joined (Some (AtLeast a)) e (Some w) f None g) (Some w) f (omega arith) None g tt (omega (arith, ask, b))
        beside a e ask (Some w) f (Some n) g =
            let b = wanted_within t reach is top at w f in
            let c = newer_within in_reach t book reach top at n g in
            of_height (max a (max w n)) (joined (Some (AtLeast a)) e (Some w) f (Some n) g) (Some w) f (omega arith) (Some n) g (omega arith) (omega (arith, ask, b, c))

        by_asked : (asked_in_reach t reach ≡ None) ⊎ ((a : ℕ) × (asked_in_reach t reach ≡ Some (AtLeast a)) × (a ≤ top)) → IsGoal t reach top
        by_asked (inl none) = alone none (wanted_height t reach) refl (newer_height t reach) refl
        by_asked (inr a) = beside a.0 a.1 a.2 (wanted_height t reach) refl (newer_height t reach) refl

-- ---- the plan

-- the goal is met by a plan
pub record IsMet (t : Task) (reach : Option ℕ) (height : ℕ) (answer : Option Planned) : Type 0 where
  pub planned : Planned
  pub is_planned : answer ≡ Some planned
  pub plan : Plan
  pub is_plan : planned.plan ≡ Some plan
  pub least : IsLeast (client_of (view_of t)) (AtLeast height) plan.updates
  pub proof : Option ℕ
  pub is_proof : IsProofHeight (client_of (view_of t)) plan.updates proof
  pub messages : plan.messages ≡ messages_of t reach proof

module _ (t : Task) (reach : Option ℕ) (is : IsReach (client_of (view_of t)) reach) (top : ℕ) (at : reach ≡ Some top) (goal : IsGoal t reach top) where
  same_reach : (other : Option ℕ) → IsReach (client_of (view_of t)) other → reach ≡ other
  same_reach other is_other = one_reach (client_of (view_of t)) reach other is is_other

  unreachable : (g : Goal) → g ≡ AtLeast goal.height → IsUnreachable (client_of (view_of t)) g → ⊥
  unreachable g e none =
      let there : IsReachable (client_of (view_of t)) top = subst (λ o. IfSome o (IsReachable (client_of (view_of t)))) at is.reached in
      none there.0 there.1 (subst (λ g. Meets (client_of (view_of t)) g there.0) (sym e) (top, there.2, goal.low))

  pub is_met : (answer : Option Planned) → IsAnswer t answer → IsMet t reach goal.height answer
  is_met None idle = absurd (none-some (AtLeast goal.height) (sym idle.goal ∙ ap (goal_of t) (sym (same_reach idle.reach idle.is_reach)) ∙ goal.goal))
  is_met (Some a) right = go a.plan refl right.plan
    where
      same : reach ≡ right.reach
      same = same_reach right.reach right.is_reach

      is_goal : a.goal ≡ AtLeast goal.height
      is_goal = same_Some a.goal (AtLeast goal.height) (sym right.goal ∙ ap (goal_of t) (sym same) ∙ goal.goal)

      go : (o : Option Plan) → a.plan ≡ o → MatchOption o (IsUnreachable (client_of (view_of t)) a.goal) (IsPlan t right.reach a.goal) → IsMet t reach goal.height (Some a)
      go None e none = absurd (unreachable a.goal is_goal none)
      go (Some p) e plan = record {
        planned = a;
        is_planned = refl;
        plan = p;
        is_plan = e;
        least = subst (λ g. IsLeast (client_of (view_of t)) g p.updates) is_goal plan.least;
        proof = plan.proof;
        is_proof = plan.is_proof;
        messages = plan.messages ∙ ap (λ o. messages_of t o plan.proof) (sym same);
      }
