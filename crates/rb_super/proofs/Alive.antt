-- A client's turns follow the rule on refreshes, so it never expires where it can be kept.
use Rattle.std.proofs.Common.{◌≡◌, ◌⊎◌, ℕ, zero, suc, ◌+◌, ◌-◌, ◌<◌, ◌≤◌, Bool, true, false, not, ◌||◌, eqb, List, [], ◌∷◌, length, map, IsSome, Option, Some, None, IfSome, is_some, refl, sym, ap, ◌∙◌, subst, inl, inr, arith}
use Rattle.std.specs.List.{AllByRecursion, list_any, slice_get}
use Rattle.std.specs.Option.{option_map, option_map_or, option_or}
use Rattle.std.proofs.lemmas.Bool.{true≢false, cases_lt, eqb-true}
use Rattle.std.proofs.lemmas.List.Elements.{recursion_from_All}
use Rattle.std.proofs.lemmas.Option.{none-some, same_Some}
use Rattle.rb_book.specs.Book.{RecordAt, height_of, time_of, record_at, heights_and_times_of}
use Rattle.rb_book.specs.Header.{Record}
use Rattle.rb_book.specs.Laws.{StaysABook}
use Rattle.rb_script_types.specs.Config.{Config}
use Rattle.rb_script_types.specs.declared.config.ClientConfig.{ClientConfig}
use Rattle.rb_script_types.specs.declared.config.RefreshTo.TheVariants.{Newer}
use Rattle.rb_step.specs.LightClient.{Update, Client, IsAcceptable, Leaves}
use Rattle.rb_step.specs.View.{IsView, client_of}
use Rattle.rb_plan_types.specs.RefreshLaws.{RefreshIsInReach, KeptAlive as AliveByTheRule}
use Rattle.rb_plan_types.specs.Refresh.{needed_time}
use Rattle.rb_plan_types.specs.Turns.{IsLive}
use Rattle.rb_plan_types.specs.declared.terms.Terms.{Terms}
use Rattle.rb_plan_client.specs.Draft.{Plan, Planned, IsAnswer, planned_updates}
use Rattle.rb_plan_client.specs.Reach.{IsReach, IsReachable}
use Rattle.rb_plan_client.specs.Task.{Task, view_of, newest_stored, reach_record, terms_of}
use Rattle.rb_core_model.specs.Standing.{OpenBatch, ClientState, Standing, opening_standing, new_client, book_at}
use Rattle.rb_super_turn.specs.Report.{PricedUpdate, PlanReport, PlannedReport, Outcome, held, idle, planned, TurnReport, Report}
use Rattle.rb_super_turn.specs.Script.{Turn, Script, IsTurn}
use Rattle.rb_super_turn.specs.Turns.{before_plans, after_turn, priced, reported_plan, IsOutcome}
use Rattle.rb_super.specs.Laws.{PlannedViewsAreViews}
use Rattle.rb_super.specs.Alive.{newest_time, reach_time, planned_heights, is_left, is_held, held_in, turns_of, stored_of, terms_for, IsByGain, TurnsFollowTheRule, KeptAlive}
use Rattle.rb_super.specs.Pressing.{asks_exactly}
use Rattle.rb_super.specs.Fewest.{ClientTurn, AreTurnsOf, IsRun}
use Rattle.rb_super.specs.InTime.{IsPlannedIn}
use Rattle.rb_super.proofs.Expired.{Extends}
use Rattle.rb_super.proofs.InTime.{outcome_of}
use Rattle.rb_super.proofs.Kept.{Kept, kept_trans, before_kept, rest_kept}
use Rattle.rb_super.proofs.Later.{known_at, AreBooks, later_trans, before_later, rest_later, empty_books}
use Rattle.rb_super.proofs.Members.{In, all_in, in_from, in_map, from_get, from_map, test_from, from_test}
use Rattle.rb_super.proofs.Joined.{then_some, newest_above}
use Rattle.rb_super.proofs.Refreshed.{Renews, refresh_goes}
use Rattle.rb_super.proofs.Records.{found_at, some_record}
use Rattle.rb_super.proofs.PlannedViews.{are_views}

-- ---- what is planned

in_plan : (t : Task) (number : ℕ) (o : Option Plan) (u : Update) → In (option_map_or (λ (p : Plan). p.updates) o []) u
    → In (option_map_or (λ (p : PlanReport). map (λ (u : PricedUpdate). u.update.height) p.updates) (option_map (reported_plan t number) o) []) u.height
in_plan t number None u h = absurd h
in_plan t number (Some p) u h = in_map (λ (u : PricedUpdate). u.update.height) (map (priced t) p.updates) (priced t u) (in_map (priced t) p.updates u h)

-- a planned height has a record that is so new
record PlansNew (t : Task) (o : Outcome) (time : ℕ) : Type 0 where
  new : RecordAt
  is_record : In t.book.records new
  late : time ≤ time_of new
  planned : In (planned_heights o) (height_of new)

plans_new : (t : Task) (c : ClientState) (time : ℕ) → ((answer : Option Planned) → IsAnswer t answer → Renews t (planned_updates answer) time) → c.batch ≡ None
    → (o : Outcome) → IsOutcome t c o → PlansNew t o time
plans_new t c time goes free (held number) right = absurd (none-some number (sym (ap (option_map (λ (b : OpenBatch). b.number)) free) ∙ right))
plans_new t c time goes free (idle next) right = absurd (goes None right.1).planned
plans_new t c time goes free (planned x) right =
    let is = goes (Some right.1.answer) right.1.right in
    let here = in_plan t (c.batches + 1) right.1.answer.plan is.update is.planned in
    record {
      new = is.new;
      is_record = is.is_record;
      late = is.late;
      planned = subst (λ (x : PlannedReport). In (planned_heights (planned x)) (height_of is.new)) (sym right.1.is)
          (subst (In (option_map_or (λ (p : PlanReport). map (λ (u : PricedUpdate). u.update.height) p.updates) (option_map (reported_plan t (c.batches + 1)) right.1.answer.plan) [])) (sym is.at_height) here);
    }

-- ---- tests

not_either : (a b : Bool) → (a || b) ≡ false → (a ≡ false) × (b ≡ false)
not_either true b e = absurd (true≢false e)
not_either false b e = (refl, e)

none_is : {X : Type 0} (o : Option X) → is_some o ≡ false → o ≡ None
none_is None e = refl
none_is (Some x) e = absurd (true≢false e)

not_false : (b : Bool) → not b ≡ false → b ≡ true
not_false true e = refl
not_false false e = absurd (true≢false e)

passes_none : {X : Type 0} (p : X → Bool) (xs : List X) (x : X) → list_any p xs ≡ false → In xs x → p x ≡ false
passes_none p xs x e there = go (p x) refl
  where
    go : (b : Bool) → p x ≡ b → b ≡ false
    go true f = absurd (true≢false (sym (test_from p xs x there f) ∙ e))
    go false f = refl

-- what isn't left is stored
taken : (j k : ClientTurn) (height : ℕ) → is_left j k ≡ false → In (planned_heights j.report.outcome) height → In k.task.stored height
taken j k height e there =
    let one = not_false (list_any (λ h. eqb h height) k.task.stored) (passes_none (λ height. not (list_any (λ h. eqb h height) k.task.stored)) (planned_heights j.report.outcome) height e there) in
    let g = from_test (λ h. eqb h height) k.task.stored one in
    subst (In k.task.stored) (eqb-true g.0 height g.2) g.1

-- ---- from a turn to the next

record Follows (j k : ClientTurn) : Type 0 where
  outcome : IsOutcome j.task j.client j.report.outcome
  is_reach : IsReach (client_of (view_of j.task)) j.reach
  asked : j.task.asked ≡ j.client.asked
  stored : (h : ℕ) → In j.task.stored h → In k.task.stored h
  known : Extends (heights_and_times_of j.task.book) (heights_and_times_of k.task.book)

follows : (s : Standing) (turn : Turn) (r : TurnReport) (u : Standing) (then_turn : Turn) (q : TurnReport) (place : ℕ) (j k : ClientTurn)
    → IsPlannedIn s turn r place j.client j.report j.task j.reach → IsPlannedIn u then_turn q place k.client k.report k.task k.reach
    → Kept (before_plans s turn) (before_plans u then_turn)
    → ((chain : ℕ) → Extends (known_at (before_plans s turn).books chain) (known_at (before_plans u then_turn).books chain)) → Follows j k
follows s turn r u then_turn q place j k here there kept books =
    let d = kept place j.client here.is_client in
    let same : d.0 ≡ k.client = same_Some d.0 k.client (sym d.1 ∙ there.is_client) in
    let config : j.client.config ≡ k.client.config = sym d.2.config ∙ ap (λ (c : ClientState). c.config) same in
    let chain = j.client.config.tracks in
    let book_j : j.task.book ≡ book_at (before_plans s turn).books chain = ap (λ (t : Task). t.book) here.task in
    let book_k : k.task.book ≡ book_at (before_plans u then_turn).books chain =
    ap (λ (t : Task). t.book) there.task ∙ ap (λ c. book_at (before_plans u then_turn).books c.tracks) (sym config) in
    let stored_j : j.task.stored ≡ j.client.stored = ap (λ (t : Task). t.stored) here.task in
    let stored_k : k.task.stored ≡ d.0.stored = ap (λ (t : Task). t.stored) there.task ∙ ap (λ (c : ClientState). c.stored) (sym same) in
    record {
      outcome = outcome_of s turn r place j.client j.report j.task j.reach here;
      is_reach = here.is_reach;
      asked = ap (λ (t : Task). t.asked) here.task;
      stored = λ h inside. subst (λ hs. In hs h) (sym stored_k) (d.2.stored h (subst (λ hs. In hs h) stored_j inside));
      known = λ x inside.
          subst (λ b. In (heights_and_times_of b) x) (sym book_k) (books chain x (subst (λ b. In (heights_and_times_of b) x) book_j inside));
    }

-- ---- the newest state

module _ (j k : ClientTurn) (is : Follows j k) (view : IsView (view_of k.task)) where
  -- what is known of a height stays known
  stays_known : (x : RecordAt) → In j.task.book.records x → (y : RecordAt) × In k.task.book.records y × (height_of y ≡ height_of x) × (time_of y ≡ time_of x)
  stays_known x there =
      let y = from_map (λ (r : RecordAt). (height_of r, time_of r)) k.task.book.records (height_of x, time_of x)
      (is.known (height_of x, time_of x) (in_map (λ (r : RecordAt). (height_of r, time_of r)) j.task.book.records x there)) in
      (y.0, y.1, ap (λ (p : ℕ × ℕ). p.0) y.2, ap (λ (p : ℕ × ℕ). p.1) y.2)

  -- a height that is stored in the next turn makes the client as new as it was known
  as_new : (x : RecordAt) → In j.task.book.records x → In k.task.stored (height_of x) → time_of x ≤ newest_time k
  as_new x there stored =
      let y = stays_known x there in
      let above = newest_above k.task view y.0 y.1 (subst (In k.task.stored) (sym y.2) stored) in
      let time : newest_time k ≡ above.0.time = ap (λ o. option_map_or (λ (r : Record). r.time) o 0) above.1 in
      let same = y.3 in
      let le = above.2 in
      omega (arith, time, same, le)

  no_older : newest_time j ≤ newest_time k
  no_older = go (newest_stored j.task) refl
    where
      go : (o : Option Record) → newest_stored j.task ≡ o → newest_time j ≤ newest_time k
      go None e = (let time : newest_time j ≡ 0 = ap (λ o. option_map_or (λ (r : Record). r.time) o 0) e in omega (arith, time))
      go (Some s) e =
          let time : newest_time j ≡ s.time = ap (λ o. option_map_or (λ (r : Record). r.time) o 0) e in
          let g = then_some (record_at j.task.book) (slice_get j.task.stored (length j.task.stored - 1)) s e in
          let x = found_at j.task.book g.0 s g.2 in
          let same : time_of x.0 ≡ s.time = ap (λ (r : Record). r.time) x.3 in
          let stored = is.stored g.0 (from_get j.task.stored (length j.task.stored - 1) g.0 g.1) in
          let le = as_new x.0 x.1 (subst (In k.task.stored) (sym x.2) stored) in
          omega (arith, time, same, le)

-- where something can be reached, something is stored
some_stored : (client : Client) (us : List Update) (h : ℕ) → IsAcceptable client us → Leaves client us h → (g : ℕ) × In client.stored g
some_stored client [] h runs leaves = (h, in_from client.stored h leaves.0)
some_stored client (u ∷ us) h runs leaves = (u.trusted, in_from client.stored u.trusted runs.0)

has_newest : (t : Task) → IsView (view_of t) → (h : ℕ) → IsReachable (client_of (view_of t)) h → newest_stored t ≡ None → ⊥
unfolding client_of
has_newest t view h there none =
    let g = some_stored (client_of (view_of t)) there.0 h there.1 there.2 in
    let r = some_record (record_at t.book g.0) (all_in (λ h. IsSome (record_at t.book h)) t.stored g.0 (recursion_from_All (λ h. IsSome (record_at t.book h)) t.stored view.stored.recorded) g.1) in
    let x = found_at t.book g.0 r.0 r.1 in
    let above = newest_above t view x.0 x.1 (subst (In t.stored) (sym x.2) g.1) in
    none-some above.0 (sym none ∙ above.1)

-- ---- a refresh that is needed

-- the client is refreshed by gain on these terms, and its view keeps what every view keeps
record IsRefreshed (terms : Terms) (k : ClientTurn) : Type 0 where
  by_gain : k.task.config.refresh_to ≡ Newer
  on_terms : terms_of k.task ≡ terms
  view : IsView (view_of k.task)

module _ (in_reach : RefreshIsInReach) (terms : Terms) (j k : ClientTurn) (is : Follows j k) (now : IsRefreshed terms j) (next : IsRefreshed terms k) (free : is_held j k ≡ false) where
  abbrev Renewed : Option ℕ → Type 0
  Renewed o = IfSome o (λ time. time ≤ newest_time k)

  renewed : Renewed (needed_time terms (newest_time j) (reach_time j) j.task.window.until)
  renewed = go (needed_time terms (newest_time j) (reach_time j) j.task.window.until) refl
    where
      parts : (is_some j.client.batch ≡ false) × ((asks_exactly j.client.asked || is_left j k) ≡ false)
      parts = not_either (is_some j.client.batch) (asks_exactly j.client.asked || is_left j k) free

      rest : (asks_exactly j.client.asked ≡ false) × (is_left j k ≡ false)
      rest = not_either (asks_exactly j.client.asked) (is_left j k) parts.1

      by_records : (s r : Record) → newest_stored j.task ≡ Some s → reach_record j.task j.reach ≡ Some r → (time : ℕ)
          → needed_time terms (newest_time j) (reach_time j) j.task.window.until ≡ Some time → time ≤ newest_time k
      by_records s r newest highest time needed =
          let here : needed_time (terms_of j.task) s.time r.time j.task.window.until ≡ Some time =
          (λ i. needed_time (now.on_terms i) (option_map_or (λ (r : Record). r.time) (sym newest i) 0) (option_map_or (λ (r : Record). r.time) (sym highest i) 0) j.task.window.until) ∙ needed in
          let plan = plans_new j.task j.client time
          (refresh_goes in_reach j.task j.reach now.view is.is_reach now.by_gain (ap asks_exactly is.asked ∙ rest.0) s r newest highest time here)
          (none_is j.client.batch parts.0) j.report.outcome is.outcome in
          let le = as_new j k is next.view plan.new plan.is_record (taken j k (height_of plan.new) rest.1 plan.planned) in
          let late = plan.late in
          omega (arith, le, late)

      bounds : (time : ℕ) → needed_time terms (newest_time j) (reach_time j) j.task.window.until ≡ Some time → (newest_time j < time) × (time ≤ reach_time j)
      bounds time needed = subst (λ o. IfSome o (λ time. (newest_time j < time) × (time ≤ reach_time j))) needed (in_reach terms (newest_time j) (reach_time j) j.task.window.until)

      by_reach : (time : ℕ) → needed_time terms (newest_time j) (reach_time j) j.task.window.until ≡ Some time → (o : Option Record) → reach_record j.task j.reach ≡ o
          → (n : Option Record) → newest_stored j.task ≡ n → time ≤ newest_time k
      by_reach time needed None highest n newest =
          let none : reach_time j ≡ 0 = ap (λ o. option_map_or (λ (r : Record). r.time) o 0) highest in
          let both = bounds time needed in
          let low = both.0 in
          let high = both.1 in
          absurd (omega (arith, none, low, high))
      by_reach time needed (Some r) highest None newest =
          let top = then_some (record_at j.task.book) j.reach r highest in
          absurd (has_newest j.task now.view top.0 (subst (λ o. IfSome o (IsReachable (client_of (view_of j.task)))) top.1 is.is_reach.reached) newest)
      by_reach time needed (Some r) highest (Some s) newest = by_records s r newest highest time needed

      go : (o : Option ℕ) → needed_time terms (newest_time j) (reach_time j) j.task.window.until ≡ o → Renewed o
      go None e = tt
      go (Some time) e = by_reach time e (reach_record j.task j.reach) refl (newest_stored j.task) refl

-- ---- turn after turn

record First (config : Config) (place : ℕ) (s : Standing) (k : ClientTurn) : Type 0 where
  turn : Turn
  report : TurnReport
  is_turn : IsTurn config turn
  planned : IsPlannedIn s turn report place k.client k.report k.task k.reach

first_of : (config : Config) (place : ℕ) (turns : List Turn) (rs : List TurnReport) (ks : List ClientTurn) (s : Standing) → AllByRecursion (IsTurn config) turns → AreTurnsOf place s turns rs ks
    → (k : ClientTurn) → slice_get ks 0 ≡ Some k → First config place s k
first_of config place [] rs [] s right are k at = absurd (none-some k at)
first_of config place [] rs (x ∷ ks) s right are k at = absurd are
first_of config place (turn ∷ turns) [] ks s right are k at = absurd are
first_of config place (turn ∷ turns) (r ∷ rs) [] s right are k at = absurd are
first_of config place (turn ∷ turns) (r ∷ rs) (x ∷ ks) s right are k at =
    subst (First config place s) (same_Some x k at) (record { turn = turn; report = r; is_turn = right.0; planned = are.0 })

module _ (stays : StaysABook) (config : Config) (place : ℕ) where
  pairs : (turns : List Turn) (rs : List TurnReport) (ks : List ClientTurn) (s : Standing) → AllByRecursion (IsTurn config) turns → AreTurnsOf place s turns rs ks → AreBooks s
      → (n : ℕ) (j k : ClientTurn) → slice_get ks n ≡ Some j → slice_get ks (suc n) ≡ Some k → Follows j k
  pairs [] rs [] s right are books n j k at next = absurd (none-some j at)
  pairs [] rs (x ∷ ks) s right are books n j k at next = absurd are
  pairs (turn ∷ turns) [] ks s right are books n j k at next = absurd are
  pairs (turn ∷ turns) (r ∷ rs) [] s right are books n j k at next = absurd are
  pairs (turn ∷ turns) (r ∷ rs) (x ∷ ks) s right are books zero j k at next =
      let first = before_later stays config s turn right.0 books in
      let rest = rest_later s turn r in
      let u = after_turn s turn r in
      let then_first = first_of config place turns rs ks u right.1 are.1 k next in
      let last = before_later stays config u then_first.turn then_first.is_turn (rest.are_books (first.are_books books)) in
      let both = later_trans (before_plans s turn) u (before_plans u then_first.turn) rest last in
      subst (λ x. Follows x k) (same_Some x j at)
      (follows s turn r u then_first.turn then_first.report place x k are.0 then_first.planned
      (kept_trans (before_plans s turn) u (before_plans u then_first.turn) (rest_kept s turn r) (before_kept u then_first.turn)) both.books)
  pairs (turn ∷ turns) (r ∷ rs) (x ∷ ks) s right are books (suc n) j k at next =
      let first = before_later stays config s turn right.0 books in
      let rest = rest_later s turn r in
      pairs turns rs ks (after_turn s turn r) right.1 are.1 (rest.are_books (first.are_books books)) n j k at next

-- ---- the configuration stays

-- the client is there, and is configured so
abbrev HasConfig : ℕ → ClientConfig → Standing → Type 0
HasConfig place config s = (c : ClientState) × (slice_get s.clients place ≡ Some c) × (c.config ≡ config)

still_has : (place : ℕ) (config : ClientConfig) (s t : Standing) → Kept s t → HasConfig place config s → HasConfig place config t
still_has place config s t kept has =
    let d = kept place has.0 has.1 in
    (d.0, d.1, d.2.config ∙ has.2)

pub new_at : (configs : List ClientConfig) (place : ℕ) (config : ClientConfig) → slice_get configs place ≡ Some config → slice_get (map new_client configs) place ≡ Some (new_client config)
new_at [] place config e = absurd (none-some config e)
new_at (x ∷ xs) zero config e = ap (λ y. Some (new_client y)) (same_Some x config e)
new_at (x ∷ xs) (suc place) config e = new_at xs place config e

pub configs_are : (place : ℕ) (config : ClientConfig) (turns : List Turn) (rs : List TurnReport) (ks : List ClientTurn) (s : Standing) → AreTurnsOf place s turns rs ks → HasConfig place config s
    → AllByRecursion (λ (k : ClientTurn). k.task.config ≡ config) ks
configs_are place config [] rs [] s are has = tt
configs_are place config [] rs (k ∷ ks) s are has = absurd are
configs_are place config (turn ∷ turns) [] ks s are has = absurd are
configs_are place config (turn ∷ turns) (r ∷ rs) [] s are has = absurd are
configs_are place config (turn ∷ turns) (r ∷ rs) (k ∷ ks) s are has =
    let here = still_has place config s (before_plans s turn) (before_kept s turn) has in
    let same : k.client ≡ here.0 = same_Some k.client here.0 (sym are.0.is_client ∙ here.1) in (
      ap (λ (t : Task). t.config) are.0.task ∙ ap (λ (c : ClientState). c.config) same ∙ here.2,
      configs_are place config turns rs ks (after_turn s turn r) are.1 (still_has place config (before_plans s turn) (after_turn s turn r) (rest_kept s turn r) here),
    )

-- ---- the laws

some_at : {X : Type 0} (xs : List X) (n : ℕ) → n < length xs → (x : X) × (slice_get xs n ≡ Some x)
some_at [] n inside = absurd (omega (arith, inside))
some_at (x ∷ xs) zero inside = (x, refl)
some_at (x ∷ xs) (suc n) inside = some_at xs n (omega (arith, inside))

moved : (terms : Terms) (s t r q u v x y : ℕ) → s ≡ t → r ≡ q → u ≡ v → x ≡ y → IfSome (needed_time terms s r u) (λ time. time ≤ x) → IfSome (needed_time terms t q v) (λ time. time ≤ y)
moved terms s t r q u v x y a b c d h = subst (λ (p : ℕ × ℕ × ℕ × ℕ). IfSome (needed_time terms p.0 p.1 p.2) (λ time. time ≤ p.3)) (λ i. (a i, b i, c i, d i)) h

module _ (stays : StaysABook) (in_reach : RefreshIsInReach) (script : Script) (report : Report) (place : ℕ) (config : ClientConfig) (ks : List ClientTurn)
    (is : IsRun script report place ks) (gain : IsByGain script place config) (views : AllByRecursion (λ (k : ClientTurn). IsView (view_of k.task)) ks)
  where
    abbrev terms : Terms
    terms = terms_for config

    refreshed : (n : ℕ) (j : ClientTurn) → slice_get ks n ≡ Some j → IsRefreshed terms j
    refreshed n j at =
        let same : j.task.config ≡ config =
        all_in (λ (k : ClientTurn). k.task.config ≡ config) ks j
        (configs_are place config script.turns report ks (opening_standing script.config) is.turns (new_client config, new_at script.config.clients place config gain.is_client, refl))
        (from_get ks n j at) in
        record {
          by_gain = ap (λ (c : ClientConfig). c.refresh_to) same ∙ gain.by_gain;
          on_terms = ap terms_for same;
          view = all_in (λ (k : ClientTurn). IsView (view_of k.task)) ks j views (from_get ks n j at);
        }

    next_to : (n : ℕ) (j k : ClientTurn) → slice_get ks n ≡ Some j → slice_get ks (n + 1) ≡ Some k → Follows j k
    next_to n j k at next =
        let e : n + 1 ≡ suc n = omega arith in
        pairs stays script.config place script.turns report ks (opening_standing script.config) (recursion_from_All (IsTurn script.config) script.turns is.is_script.turns) is.turns
        (empty_books script.config.limit (length script.config.chains) is.is_script.config.rules.limit) n j k at (ap (slice_get ks) (sym e) ∙ next)

    stored_at : (n : ℕ) (j : ClientTurn) → slice_get ks n ≡ Some j → stored_of ks n ≡ newest_time j
    stored_at n j at = ap (λ o. option_map_or newest_time (option_or o (slice_get ks (length ks - 1))) 0) at

    keeps : (n : ℕ) → n < length ks → stored_of ks n ≤ stored_of ks (n + 1)
    keeps n inside = go (some_at ks n inside) (slice_get ks (n + 1)) refl
      where
        go : (j : ClientTurn) × (slice_get ks n ≡ Some j) → (o : Option ClientTurn) → slice_get ks (n + 1) ≡ o → stored_of ks n ≤ stored_of ks (n + 1)
        go j (Some k) e =
            let le = no_older j.0 k (next_to n j.0 k j.1 e) (refreshed (n + 1) k e).view in
            let here = stored_at n j.0 j.1 in
            let there = stored_at (n + 1) k e in
            omega (arith, le, here, there)
        go j None e =
            let last : length ks - 1 ≡ n = is_last (cases_lt (n + 1) (length ks)) in
            let here = stored_at n j.0 j.1 in
            let there : stored_of ks (n + 1) ≡ newest_time j.0 =
            ap (λ o. option_map_or newest_time (option_or o (slice_get ks (length ks - 1))) 0) e ∙ ap (λ m. option_map_or newest_time (slice_get ks m) 0) last ∙ ap (λ o. option_map_or newest_time o 0) j.1 in
            omega (arith, here, there)
          where
            is_last : (n + 1 < length ks) ⊎ (length ks ≤ n + 1) → length ks - 1 ≡ n
            is_last (inl lt) = (let x = some_at ks (n + 1) lt in absurd (none-some x.0 (sym e ∙ x.1)))
            is_last (inr le) = omega (arith, le, inside)

    refreshes : (n : ℕ) → n < length ks → held_in ks n ≡ false → IsLive terms (stored_of ks n) ((turns_of ks).until n)
        → IfSome (needed_time terms (stored_of ks n) ((turns_of ks).reach n) ((turns_of ks).until n)) (λ time. time ≤ stored_of ks (n + 1))
    refreshes n inside free live = go (some_at ks n inside) (slice_get ks (n + 1)) refl
      where
        go : (j : ClientTurn) × (slice_get ks n ≡ Some j) → (o : Option ClientTurn) → slice_get ks (n + 1) ≡ o
            → IfSome (needed_time terms (stored_of ks n) ((turns_of ks).reach n) ((turns_of ks).until n)) (λ time. time ≤ stored_of ks (n + 1))
        go j None e =
            absurd (true≢false (sym ((λ i. option_map_or (λ k. option_map_or (is_held k) (e i) true) (j.1 i) true)) ∙ free))
        go j (Some k) e =
            let holds : is_held j.0 k ≡ false = sym (λ i. option_map_or (λ x. option_map_or (is_held x) (e i) true) (j.1 i) true) ∙ free in
            moved terms (newest_time j.0) (stored_of ks n) (reach_time j.0) ((turns_of ks).reach n) j.0.task.window.until ((turns_of ks).until n) (newest_time k) (stored_of ks (n + 1))
            (sym (stored_at n j.0 j.1)) (sym (ap (λ o. option_map_or reach_time o 0) j.1)) (sym (ap (λ o. option_map_or (λ (k : ClientTurn). k.task.window.until) o 0) j.1)) (sym (stored_at (n + 1) k e))
            (renewed in_reach terms j.0 k (next_to n j.0 k j.1 e) (refreshed n j.0 j.1) (refreshed (n + 1) k e) holds)

pub follow_the_rule : StaysABook → RefreshIsInReach → PlannedViewsAreViews → TurnsFollowTheRule
follow_the_rule stays in_reach planned_views script report place config ks is gain =
    let views = are_views planned_views script report place ks is in
    record { keeps = keeps stays in_reach script report place config ks is gain views; refreshes = refreshes stays in_reach script report place config ks is gain views }

pub kept_alive : AliveByTheRule → TurnsFollowTheRule → KeptAlive
kept_alive alive follow script report place config ks is gain some first can =
    alive (terms_for config) (length ks) (turns_of ks) (stored_of ks) some (follow script report place config ks is gain) first can
