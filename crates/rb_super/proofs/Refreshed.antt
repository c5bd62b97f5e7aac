-- A refresh that is needed goes: an update of the plan brings the client to a header that is new enough.
use Rattle.std.proofs.Common.{◌≡◌, ◌⊎◌, ℕ, ◌<◌, ◌≤◌, false, nat_le, List, [], ◌∷◌, Option, Some, IfSome, refl, sym, ap, ◌∙◌, subst, inl, inr, arith}
use Rattle.std.specs.List.{find}
use Rattle.std.specs.Option.{option_map, option_map_or, option_and_then}
use Rattle.std.proofs.lemmas.Option.{none-some, same_Some}
use Rattle.rb_book.specs.Book.{RecordAt, height_of, time_of, record_at}
use Rattle.rb_book.specs.Header.{Record}
use Rattle.rb_book.proofs.Rising.{Up-from_increasing}
use Rattle.rb_plan_types.specs.Goal.{Meets}
use Rattle.rb_script_types.specs.declared.config.RefreshTo.TheVariants.{Newer}
use Rattle.rb_script_types.specs.declared.goal.Goal.TheVariants.{AtLeast}
use Rattle.rb_step.specs.LightClient.{Update, Client, IsStoredAfter}
use Rattle.rb_step.specs.View.{IsView, IsLive, client_of}
use Rattle.rb_plan_types.specs.RefreshLaws.{RefreshIsInReach}
use Rattle.rb_plan_types.specs.Refresh.{needed_time}
use Rattle.rb_plan_client.specs.Draft.{Plan, Planned, IsAnswer, planned_updates}
use Rattle.rb_plan_client.specs.Reach.{IsReach}
use Rattle.rb_plan_client.specs.Task.{Task, view_of, newest_stored, terms_of, reach_record, newer_height}
use Rattle.rb_super.specs.Pressing.{asks_exactly}
use Rattle.rb_super.proofs.Joined.{then_some, first_new, newest_above, IsGoal, goal_is, is_met}
use Rattle.rb_super.proofs.Members.{In, in_from}
use Rattle.rb_super.proofs.Records.{no_later_than, found_at, live_record}

-- ---- the plan

stored_after : (client : Client) (us : List Update) (m : ℕ) → IsStoredAfter client us m → In client.stored m ⊎ ((u : Update) × In us u × (u.height ≡ m))
stored_after client [] m h = inl (in_from client.stored m h)
stored_after client (u ∷ us) m (inl e) = inr (u, inl refl, e)
stored_after client (u ∷ us) m (inr h) = go (stored_after client us m h)
  where
    go : In client.stored m ⊎ ((x : Update) × In us x × (x.height ≡ m)) → In client.stored m ⊎ ((x : Update) × In (u ∷ us) x × (x.height ≡ m))
    go (inl there) = inl there
    go (inr x) = inr (x.0, inr x.1, x.2)

-- one of the updates stores a record that is new enough
pub record Renews (t : Task) (us : List Update) (time : ℕ) : Type 0 where
  pub update : Update
  pub planned : In us update
  pub new : RecordAt
  pub is_record : In t.book.records new
  pub at_height : height_of new ≡ update.height
  pub late : time ≤ time_of new

-- a list of updates that meets the goal renews the client, since no stored state does
module _ (t : Task) (view : IsView (view_of t)) (s : Record) (newest : newest_stored t ≡ Some s) (time : ℕ) (new : s.time < time)
    (first : RecordAt) (is_first : In t.book.records first) (late : time ≤ time_of first) (us : List Update)
  where
    stored_live : (m : ℕ) → IsLive (view_of t) m → height_of first ≤ m → In t.stored m ⊎ ((u : Update) × In us u × (u.height ≡ m)) → Renews t us time
    stored_live m live high where_is =
        let r = live_record t.window.until t.config.options.period (record_at t.book m) live in
        let k = found_at t.book m r.0 r.1 in
        let later = no_later_than t.book.records (Up-from_increasing height_of t.book.records view.book.records.heights) (Up-from_increasing time_of t.book.records view.book.records.times) first k.0 is_first k.1
        (let at = k.2 in omega (arith, high, at)) in
        go k.0 k.1 k.2 later where_is
      where
        go : (k : RecordAt) → In t.book.records k → height_of k ≡ m → time_of first ≤ time_of k → In t.stored m ⊎ ((u : Update) × In us u × (u.height ≡ m)) → Renews t us time
        go k there at later (inl stored) =
            let above = newest_above t view k there (subst (In t.stored) (sym at) stored) in
            let same : above.0.time ≡ s.time = ap (λ (r : Record). r.time) (same_Some above.0 s (sym above.1 ∙ newest)) in
            let old = above.2 in
            absurd (omega (arith, same, old, new, late, later))
        go k there at later (inr u) = record { update = u.0; planned = u.1; new = k; is_record = there; at_height = at ∙ sym u.2; late = omega (arith, late, later) }

    meets_renews : (h : ℕ) → height_of first ≤ h → Meets (client_of (view_of t)) (AtLeast h) us → Renews t us time
    unfolding client_of
    meets_renews h high meets = stored_live meets.0 meets.1.1 (let le = meets.2 in omega (arith, high, le)) (stored_after (client_of (view_of t)) us meets.0 meets.1.0)

module _ (in_reach : RefreshIsInReach) (t : Task) (reach : Option ℕ) (view : IsView (view_of t)) (is : IsReach (client_of (view_of t)) reach)
    (by_gain : t.config.refresh_to ≡ Newer) (plain : asks_exactly t.asked ≡ false) (s r : Record) (newest : newest_stored t ≡ Some s) (highest : reach_record t reach ≡ Some r)
    (time : ℕ) (needed : needed_time (terms_of t) s.time r.time t.window.until ≡ Some time)
  where
    bounds : (s.time < time) × (time ≤ r.time)
    bounds = subst (λ o. IfSome o (λ time. (s.time < time) × (time ≤ r.time))) needed (in_reach (terms_of t) s.time r.time t.window.until)

    reached : (top : ℕ) × (reach ≡ Some top) × (record_at t.book top ≡ Some r)
    reached = then_some (record_at t.book) reach r highest

    first : (k : RecordAt) × (find (λ (k : RecordAt). nat_le time (time_of k)) t.book.records ≡ Some k) × In t.book.records k × (time ≤ time_of k) × (height_of k ≤ reached.0)
    first =
        let x = found_at t.book reached.0 r reached.2 in
        let late : time_of x.0 ≡ r.time = ap (λ (r : Record). r.time) x.3 in
        let le = bounds.1 in
        let k = first_new time t.book.records (Up-from_increasing height_of t.book.records view.book.records.heights) x.0 x.1 (omega (arith, late, le)) in
        let high = k.4 in
        let at = x.2 in
        (k.0, k.1, k.2, k.3, omega (arith, high, at))

    newer : newer_height t reach ≡ Some (height_of first.0)
    newer =
        ap (option_and_then (λ time. option_map height_of (find (λ (k : RecordAt). nat_le time (time_of k)) t.book.records)))
        ((λ i. option_and_then (λ (s : Record). option_and_then (λ (r : Record). needed_time (terms_of t) s.time r.time t.window.until) (highest i)) (newest i)) ∙ needed)
        ∙ ap (option_map height_of) first.1

    goal : IsGoal t reach reached.0
    goal = goal_is in_reach t view.book reach is reached.0 reached.1 by_gain plain (λ _ none. none-some (height_of first.0) (sym none ∙ newer))

    pub refresh_goes : (answer : Option Planned) → IsAnswer t answer → Renews t (planned_updates answer) time
    refresh_goes answer right =
        let met = is_met t reach is reached.0 reached.1 goal answer right in
        let high : height_of first.0 ≤ goal.height = subst (λ o. IfSome o (λ n. n ≤ goal.height)) newer goal.newer in
        let renews = meets_renews t view s newest time bounds.0 first.0 first.2 first.3 met.plan.updates goal.height high met.least.meets in
        subst (λ us. Renews t us time)
        (sym (ap (λ (o : Option Planned). planned_updates o) met.is_planned ∙ ap (λ (o : Option Plan). option_map_or (λ (p : Plan). p.updates) o []) met.is_plan)) renews
