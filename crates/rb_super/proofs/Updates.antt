-- What presses can't be proved without an update, so its plan has some.
use Rattle.std.proofs.Common.{◌≡◌, ◌≢◌, ◌⊎◌, ℕ, ◌+◌, ◌-◌, ◌<◌, ◌≤◌, true, false, cond, not, ◌&&◌, nat_lt, nat_le, List, [], length, get_or, Contains, IsSome, Option, Some, None, MatchOption, IsSomeAnd, refl, sym, ap, ◌∙◌, subst, inl, inr, arith, if◌then◌else◌}
use Rattle.std.specs.List.{enumerate_from, filter, slice_get}
use Rattle.std.specs.Option.{option_map_or, option_and_then}
use Rattle.std.proofs.lemmas.Bool.{true≢false, and_parts, cases_lt, le-leb, ltb-true, lt-ltb, not-true}
use Rattle.std.proofs.lemmas.List.Elements.{recursion_from_All}
use Rattle.std.proofs.lemmas.List.Sums.{passes_at_first}
use Rattle.std.proofs.lemmas.List.{map-id}
use Rattle.std.specs.List.Sorted.{IsStrictlyIncreasing}
use Rattle.std.proofs.lemmas.Option.{same_Some, slice_get-get_or, slice_get_within}
use Rattle.rb_book.specs.Book.{height_of, time_of, record_at}
use Rattle.rb_book.specs.Header.{Record}
use Rattle.rb_book.proofs.Rising.{Up-from_increasing}
use Rattle.rb_plan_types.specs.RefreshLaws.{RefreshIsInReach}
use Rattle.rb_plan_types.specs.Goal.{Meets}
use Rattle.rb_plan_types.specs.Least.{IsUnreachable}
use Rattle.rb_scan.specs.Owed.{same_kind, run_end, is_ready, is_near, ready, ready_beyond}
use Rattle.rb_scan.specs.declared.message.Kind.{Kind}
use Rattle.rb_scan.specs.declared.message.Kind.TheVariants.{Receive, Acknowledge, Timeout}
use Rattle.rb_scan.specs.declared.message.PacketMsg.{PacketMsg}
use Rattle.rb_scan.specs.declared.path.Order.{Order}
use Rattle.rb_scan.specs.declared.path.Order.TheVariants.{Ordered, Unordered}
use Rattle.rb_script_types.specs.declared.goal.Goal.{Goal}
use Rattle.rb_script_types.specs.declared.goal.Goal.TheVariants.{AtLeast}
use Rattle.rb_step.specs.LightClient.{Update}
use Rattle.rb_step.specs.View.{IsView, client_of}
use Rattle.rb_plan_client.specs.Draft.{Plan, Planned, IsPlan, IsPlanned}
use Rattle.rb_plan_client.specs.Reach.{IsReach}
use Rattle.rb_plan_client.specs.Same.{kinds_Decides}
use Rattle.rb_plan_client.specs.Task.{PathTask, Task, Message, view_of, message_on, going_on, ready_on, ready_messages, is_live, near_reach, presses, goal_of}
use Rattle.rb_super.specs.Pressing.{KeepsNoneBack}
use Rattle.rb_super.specs.Updates.{PressingUpdates}
use Rattle.rb_super.proofs.Members.{In, in_places, from_places, in_passing, from_passing, all_in, in_map, in_flat_map, in_from, from_get, from_map, last_above}
use Rattle.rb_super.proofs.Pressing.{one_far, high}
use Rattle.rb_super.proofs.Records.{no_later_than, found_at, some_record, live_record, one_reach}

-- ---- no message is far where all that are ready are within the near reach

module _ (ms : List PacketMsg) (near reach : ℕ) where
  ready_at : (order : Order) (k : ℕ) (m : PacketMsg) → slice_get ms k ≡ Some m → is_ready order reach ms k m ≡ true → In (ready ms order (Some reach)) m
  ready_at order k m at e =
      let zero_and : 0 + k ≡ k = omega arith in
      in_map (λ (p : ℕ × PacketMsg). p.1) (filter (λ (p : ℕ × PacketMsg). is_ready order reach ms p.0 p.1) (enumerate_from 0 ms)) (k, m)
      (in_passing (λ (p : ℕ × PacketMsg). is_ready order reach ms p.0 p.1) (enumerate_from 0 ms) (k, m) (subst (λ n. In (enumerate_from 0 ms) (n, m)) zero_and (in_places 0 ms k m at)) e)

  -- no run ends earlier at the near reach
  run_goes_on : ((x : PacketMsg) → In (ready ms Ordered (Some reach)) x → x.floor ≤ near) → (kind : Kind) (k : ℕ) → (kind ≡ Timeout → ⊥) → k < length ms → k < run_end reach kind ms → k < run_end near kind ms
  run_goes_on low kind k plain inside before = go (cases_lt k (run_end near kind ms))
    where
      none : PacketMsg
      none = record { kind = kind; sequence = 0; floor = 0; expires = None; since = None; timeout = None }

      not_timeout : (k : Kind) → (k ≡ Timeout → ⊥) → same_kind k Timeout ≡ false
      not_timeout Receive h = refl
      not_timeout Acknowledge h = refl
      not_timeout Timeout h = absurd (h refl)

      go : (k < run_end near kind ms) ⊎ (run_end near kind ms ≤ k) → k < run_end near kind ms
      go (inl lt) = lt
      go (inr le) =
          let end = run_end near kind ms in
          let within : end < length ms = omega (arith, le, inside) in
          let x = get_or ms end none in
          let at : slice_get ms end ≡ Some x = slice_get-get_or ms end none within in
          let is = and_parts (same_kind x.kind kind) (nat_lt near x.floor) (passes_at_first (λ (m : PacketMsg). same_kind m.kind kind && nat_lt near m.floor) ms none within) in
          let same : x.kind ≡ kind = (kinds_Decides x.kind kind).0 is.0 in
          let other : same_kind x.kind Timeout ≡ false = not_timeout x.kind (λ e. plain (sym same ∙ e)) in
          let ready_there : is_ready Ordered reach ms end x ≡ true =
          ap (λ b. cond b (nat_le x.floor reach) (nat_lt end (run_end reach x.kind ms))) other
          ∙ ap (λ k. nat_lt end (run_end reach k ms)) same ∙ lt-ltb end (run_end reach kind ms) (omega (arith, le, before)) in
          absurd (omega (arith, low x (ready_at Ordered end x at ready_there), ltb-true near x.floor is.1))

  near_at : (order : Order) → ((x : PacketMsg) → In (ready ms order (Some reach)) x → x.floor ≤ near) → (k : ℕ) (m : PacketMsg) → slice_get ms k ≡ Some m
      → is_ready order reach ms k m ≡ true → is_ready order near ms k m ≡ true
  near_at Unordered low k m at e = le-leb m.floor near (low m (ready_at Unordered k m at e))
  near_at Ordered low k m at e = by_kind m.kind refl
    where
      run : (kind : Kind) → m.kind ≡ kind → (kind ≡ Timeout → ⊥) → same_kind kind Timeout ≡ false → is_ready Ordered near ms k m ≡ true
      run kind is plain other =
          let test : same_kind m.kind Timeout ≡ false = ap (λ x. same_kind x Timeout) is ∙ other in
          let before : nat_lt k (run_end reach m.kind ms) ≡ true = sym (ap (λ b. cond b (nat_le m.floor reach) (nat_lt k (run_end reach m.kind ms))) test) ∙ e in
          ap (λ b. cond b (nat_le m.floor near) (nat_lt k (run_end near m.kind ms))) test
          ∙ lt-ltb k (run_end near m.kind ms) (run_goes_on low m.kind k (λ t. plain (sym is ∙ t)) (slice_get_within ms k m at) (ltb-true k (run_end reach m.kind ms) before))

      by_kind : (kind : Kind) → m.kind ≡ kind → is_ready Ordered near ms k m ≡ true
      by_kind Receive is = run Receive is (λ t. cc) refl
      by_kind Acknowledge is = run Acknowledge is (λ t. cc) refl
      by_kind Timeout is =
          ap (λ x. cond (same_kind x Timeout) (nat_le m.floor near) (nat_lt k (run_end near m.kind ms))) is ∙ le-leb m.floor near (low m (ready_at Ordered k m at e))

  none_far : (order : Order) → ((x : PacketMsg) → In (ready ms order (Some reach)) x → x.floor ≤ near) → (m : PacketMsg) → In (ready_beyond ms order (Some near) (Some reach)) m → ⊥
  none_far order low m h =
      let at = from_map (λ (p : ℕ × PacketMsg). p.1) (filter (λ (p : ℕ × PacketMsg). is_ready order reach ms p.0 p.1 && not (is_near order (Some near) ms p.0 p.1)) (enumerate_from 0 ms)) m h in
      let passes = from_passing (λ (p : ℕ × PacketMsg). is_ready order reach ms p.0 p.1 && not (is_near order (Some near) ms p.0 p.1)) (enumerate_from 0 ms) at.0 at.1 in
      let place = from_places 0 ms at.0.0 at.0.1 passes.0 in
      let here : at.0.0 ≡ place.0 = (let same = place.1 in omega arith) in
      let both = and_parts (is_ready order reach ms at.0.0 at.0.1) (not (is_near order (Some near) ms at.0.0 at.0.1)) passes.1 in
      let ready_here : is_ready order reach ms place.0 at.0.1 ≡ true = ap (λ n. is_ready order reach ms n at.0.1) (sym here) ∙ both.0 in
      let near_here : is_near order (Some near) ms at.0.0 at.0.1 ≡ true = ap (λ n. is_ready order near ms n at.0.1) here ∙ near_at order low place.0 at.0.1 place.2 ready_here in
      true≢false (sym near_here ∙ not-true (is_near order (Some near) ms at.0.0 at.0.1) both.1)

-- ---- the greatest stored height is live where a stored one is

-- it is the near reach then
pub near_is : (t : Task) → IsView (view_of t) → (g : ℕ) → Contains t.stored g → IsSomeAnd (record_at t.book g) (λ r. t.window.until < r.time + t.config.options.period) → (top : ℕ) × (near_reach t ≡ Some top) × (g ≤ top)
near_is t view g stored live =
    let rises = Up-from_increasing (λ (h : ℕ). h) t.stored (subst IsStrictlyIncreasing (sym (map-id t.stored)) view.stored.rising) in
    let last = last_above (λ (a b : ℕ). a < b) t.stored rises g (in_from t.stored g stored) in
    let up_to : g ≤ last.0 = no_less last.0 last.2 in
    let there : In t.stored last.0 = from_get t.stored (length t.stored - 1) last.0 last.1 in
    let one = some_record (record_at t.book last.0) (all_in (λ h. IsSome (record_at t.book h)) t.stored last.0 (recursion_from_All (λ h. IsSome (record_at t.book h)) t.stored view.stored.recorded) there) in
    let old = live_record t.window.until t.config.options.period (record_at t.book g) live in
    let a = found_at t.book g old.0 old.1 in
    let b = found_at t.book last.0 one.0 one.1 in
    let later = no_later_than t.book.records (Up-from_increasing height_of t.book.records view.book.records.heights) (Up-from_increasing time_of t.book.records view.book.records.times) a.0 b.0 a.1 b.1 (omega (arith, a.2, b.2, up_to)) in
    let time_a : time_of a.0 ≡ old.0.time = ap (λ (r : Record). r.time) a.3 in
    let time_b : time_of b.0 ≡ one.0.time = ap (λ (r : Record). r.time) b.3 in
    let is : is_live t last.0 ≡ true =
    ap (λ o. option_map_or (λ (r : Record). nat_lt t.window.until (r.time + t.config.options.period)) o false) one.1 ∙ lt-ltb t.window.until (one.0.time + t.config.options.period) (omega (arith, old.2, later, time_a, time_b)) in
    (last.0, ap (option_and_then (λ h. if is_live t h then Some h else None)) last.1 ∙ ap (λ b. cond b (Some last.0) None) is, up_to)
  where
    no_less : (l : ℕ) → (g ≡ l) ⊎ (g < l) → g ≤ l
    no_less l (inl e) = omega (arith, e)
    no_less l (inr lt) = omega (arith, lt)

-- ---- the law

module _ (in_reach : RefreshIsInReach) (t : Task) (reach : Option ℕ) (view : IsView (view_of t)) (is : IsReach (client_of (view_of t)) reach) (keeps : KeepsNoneBack t.asked t.config.refresh_to) (pressing : presses t reach ≡ true) where
  -- no stored height that is live is as high as all that are ready
  none_meets : (h : ℕ) → ((x : Message) → In (ready_messages t reach) x → x.packet.floor ≤ h) → Meets (client_of (view_of t)) (AtLeast h) [] → ⊥
  unfolding client_of
  none_meets h above meets =
      let near = near_is t view meets.0 meets.1.0 meets.1.1 in
      let far = one_far t reach pressing in
      beyond reach refl far.0 far.1 far.2 near.0 (let high = meets.2 in omega (arith, near.2, high)) (subst (λ n. In (ready_beyond (going_on t far.0) far.0.order n reach) far.1) near.1 far.3)
    where
      beyond : (o : Option ℕ) → reach ≡ o → (p : PathTask) (m : PacketMsg) → In t.paths p → (top : ℕ) → h ≤ top → In (ready_beyond (going_on t p) p.order (Some top) o) m → ⊥
      beyond None at p m there top low far = far
      beyond (Some r) at p m there top low far =
          none_far (going_on t p) top r p.order
          (λ x ready_x.
          let all = above (message_on p x) (in_flat_map (ready_on t reach) t.paths p (message_on p x) there
          (in_map (message_on p) (ready (going_on t p) p.order reach) x (subst (λ o. In (ready (going_on t p) p.order o) x) (sym at) ready_x))) in
          omega (arith, all, low))
          m far

  some_updates : (a : Planned) (p : Plan) → IsPlanned t a → a.plan ≡ Some p → p.updates ≢ []
  some_updates a p planned at none =
      let goal = high t reach is keeps pressing in_reach (λ _. view.book) in
      let same : reach ≡ planned.reach = one_reach (client_of (view_of t)) reach planned.reach is planned.is_reach in
      let is_goal : a.goal ≡ AtLeast goal.height = same_Some a.goal (AtLeast goal.height) (sym planned.goal ∙ ap (goal_of t) (sym same) ∙ goal.goal) in
      let plan : IsPlan t planned.reach a.goal p = subst (λ (o : Option Plan). MatchOption o (IsUnreachable (client_of (view_of t)) a.goal) (IsPlan t planned.reach a.goal)) at planned.plan in
      none_meets goal.height goal.above (subst (λ (x : Goal × List Update). Meets (client_of (view_of t)) x.0 x.1) (λ i. (is_goal i, none i)) plan.least.meets)

pub pressing_updates : RefreshIsInReach → PressingUpdates
pressing_updates in_reach t reach a p view is keeps pressing planned at = some_updates in_reach t reach view is keeps pressing a p planned at
