-- What is reported of a client is the same over what is left.
use Rattle.std.proofs.Common.{◌≡◌, ℕ, ◌+◌, ◌≤◌, ◌⊎◌, true, List, [], ◌∷◌, map, zero, suc, is_some, if◌then◌else◌, Option, Some, None, MatchOption, inl, inr, refl, sym, ap, ◌∙◌, subst, arith}
use Rattle.std.specs.List.{All, AllByRecursion, AllZip, cons_option, enumerate_from, filter_map, slice_get}
use Rattle.std.specs.Option.{IfSome, option_map, option_map_or}
use Rattle.std.proofs.lemmas.List.Elements.{All-from_recursion, recursion_from_All}
use Rattle.std.proofs.lemmas.Option.{none-some, same_Some}
use Rattle.rb_base.specs.Window.{Span}
use Rattle.rb_base.specs.declared.gate.Part.{Part}
use Rattle.rb_base.specs.declared.gate.Part.TheVariants.{Packets, Channel}
use Rattle.rb_book.specs.Book.{heights_and_times_of}
use Rattle.rb_plan_types.specs.Least.{IsUnreachable}
use Rattle.rb_scan.specs.Owed.{owed_part}
use Rattle.rb_scan.specs.declared.message.PacketMsg.{PacketMsg}
use Rattle.rb_scan.specs.declared.path.Order.{Order}
use Rattle.rb_scan.specs.declared.path.Order.TheVariants.{Ordered, Unordered}
use Rattle.rb_step.specs.Fee.{fee_of, fee_at}
use Rattle.rb_step.specs.LightClient.{Update, IsAcceptable}
use Rattle.rb_step.specs.View.{IsView, client_of}
use Rattle.rb_plan_client.specs.Draft.{Plan, Planned as Answer, IsPlan, IsPlanned, planned_updates}
use Rattle.rb_script_types.specs.declared.goal.Goal.{Goal}
use Rattle.rb_plan_client.specs.Task.{Task, Message, view_of}
use Rattle.rb_core_model.specs.Config.{part_for}
use Rattle.rb_core_model.specs.Standing.{ClientState, PathState, Standing, book_at, view_of_path, owed_at, path_task, path_tasks, task_in}
use Rattle.rb_super_turn.specs.Report.{PricedUpdate, PlanReport, PlannedReport, Outcome, held, idle, planned, ClientReport}
use Rattle.rb_super_turn.specs.Turns.{priced, numbered, reported_plan, beyond_goal, reported, IsPlanFor, IsOutcome, told_too_big, IsClientReport}
use Rattle.rb_super.specs.Left.{IsBookLeft, FitsFloor, HaveFloors}
use Rattle.rb_super.specs.Remains.{PacketFits, PathFits, IsClientLeft, IsPathLeft, IsLeftOf, AreRouted}
use Rattle.rb_core_model.proofs.Over.{counted_over}
use Rattle.rb_super.proofs.Answers.{idle_left, next_left, planned_left, sent_left}
use Rattle.rb_super.proofs.Books.{same_step}
use Rattle.rb_super.proofs.Floors.{side, floors_owed}
use Rattle.rb_super.proofs.Front.{part_later}
use Rattle.rb_super.proofs.Last.{map_same}
use Rattle.rb_super.proofs.Owed.{message_same, owed_same}
use Rattle.rb_super.proofs.Planning.{IsAbove, updates_above, same_cost}
use Rattle.rb_super.proofs.Tasks.{are_alike, told_same}
use Rattle.rb_super.proofs.Zips.{IsPair, pair_at}

-- ---- paths

at_all : {X : Type 0} (P : X → Type 0) (xs : List X) (k : ℕ) (x : X) → AllByRecursion P xs → slice_get xs k ≡ Some x → P x
at_all P [] k x all e = absurd (none-some x e)
at_all P (y ∷ ys) zero x all e = subst P (same_Some y x e) all.0
at_all P (y ∷ ys) (suc k) x all e = at_all P ys k x all.1 e

cons_all : {X : Type 0} (P : X → Type 0) (o : Option X) (xs : List X) → IfSome o P → AllByRecursion P xs → AllByRecursion P (cons_option o xs)
cons_all P None xs here rest = rest
cons_all P (Some x) xs here rest = (here, rest)

-- what holds of the value made of each element by its place
made_each : {X Y : Type 0} (h : ℕ × X → Option Y) (P : Y → Type 0) (n : ℕ) (xs : List X) → ((k : ℕ) (x : X) → slice_get xs k ≡ Some x → IfSome (h (n + k, x)) P) → AllByRecursion P (filter_map h (enumerate_from n xs))
made_each h P n [] each = tt
made_each {X} {Y} h P n (x ∷ xs) each =
    let first : IfSome (h (n, x)) P = (let e : n + 0 ≡ n = omega arith in subst (λ k. IfSome (h (k, x)) P) e (each 0 x refl)) in
    cons_all P (h (n, x)) (filter_map h (enumerate_from (n + 1) xs)) first
    (made_each h P (n + 1) xs (λ k y e. (let same : n + suc k ≡ n + 1 + k = omega arith in subst (λ j. IfSome (h (j, y)) P) same (each (suc k) y e))))

module _ (m : ℕ → ℕ) (s t : Standing) (left : IsLeftOf m s t) where
  path_same : (p : PathState) (part : Part) → PathFits m s.books p → owed_part (view_of_path s.books p) part ≡ owed_part (view_of_path t.books p) part
  path_same p part fits =
      owed_same (view_of_path s.books p) (heights_and_times_of (book_at t.books p.config.destination))
      (PacketFits (m p.config.source) (m p.config.destination) (book_at s.books p.config.destination) p.config.order)
      (λ kind q fit. message_same (m p.config.destination) (book_at s.books p.config.destination) (book_at t.books p.config.destination) (left.books p.config.destination) (m p.config.source) p.config.order kind q fit)
      part fits

  owed_at_same : (path : ℕ) (part : Part) → owed_at s path part ≡ owed_at t path part
  owed_at_same path part = go (pair_at IsPathLeft s.paths t.paths path left.paths)
    where
      go : ((slice_get s.paths path ≡ None) × (slice_get t.paths path ≡ None)) ⊎ IsPair IsPathLeft s.paths t.paths path → owed_at s path part ≡ owed_at t path part
      go (inl none) =
          ap (λ o. option_map_or (λ v. owed_part v part) (option_map (view_of_path s.books) o) []) none.0
          ∙ sym (ap (λ o. option_map_or (λ v. owed_part v part) (option_map (view_of_path t.books) o) []) none.1)
      go (inr x) =
          let p = x.first in
          ap (λ o. option_map_or (λ v. owed_part v part) (option_map (view_of_path s.books) o) []) x.in_first
          ∙ path_same p part (at_all (PathFits m s.books) s.paths path p (recursion_from_All (PathFits m s.books) s.paths left.fit) x.in_first)
          ∙ part_later (view_of_path t.books p) x.related.went (counted_over p.config.order p.first x.related.went p.packets x.related.over) part
          ∙ sym (ap (λ o. option_map_or (λ v. owed_part v part) (option_map (view_of_path t.books) o) []) (x.in_second ∙ ap Some x.related.is))

  paths_same : (owed : ℕ → Part → List PacketMsg) (client n : ℕ) (ps qs : List PathState) → AllZip IsPathLeft ps qs → filter_map (path_task owed client) (enumerate_from n ps) ≡ filter_map (path_task owed client) (enumerate_from n qs)
  paths_same owed client n [] [] all = refl
  paths_same owed client n [] (q ∷ qs) all = absurd all
  paths_same owed client n (p ∷ ps) [] all = absurd all
  paths_same owed client n (p ∷ ps) (q ∷ qs) all =
      λ i. cons_option (path_task owed client (n, sym all.0.is i)) (paths_same owed client (n + 1) ps qs all.1 i)

  tasks_same : (client : ℕ) → path_tasks (owed_at s) s.paths client ≡ path_tasks (owed_at t) t.paths client
  tasks_same client = (λ i. path_tasks (λ path part. owed_at_same path part i) s.paths client) ∙ paths_same (owed_at t) client 0 s.paths t.paths left.paths

  -- ---- floors

  one_floor : (client : ℕ) (c : ClientState) → slice_get s.clients client ≡ Some c → AreRouted s → (path : ℕ) (p : PathState) → slice_get s.paths path ≡ Some p
      → IfSome (path_task (owed_at s) client (path, p)) (FitsFloor (m c.config.tracks))
  one_floor client c at_c routed path p at_p = go (part_for p.config client) refl
    where
      fits : PathFits m s.books p
      fits = at_all (PathFits m s.books) s.paths path p (recursion_from_All (PathFits m s.books) s.paths left.fit) at_p

      owed_is : (part : Part) → owed_at s path part ≡ owed_part (view_of_path s.books p) part
      owed_is part = ap (λ o. option_map_or (λ v. owed_part v part) (option_map (view_of_path s.books) o) []) at_p

      sided : (part : Part) → part_for p.config client ≡ Some part → side (m p.config.source) (m p.config.destination) part ≡ m c.config.tracks
      sided Packets e = ap m (sym ((routed client path c p at_c at_p).0 e))
      sided Channel e = ap m (sym ((routed client path c p at_c at_p).1 e))

      by_order : (part : Part) → part_for p.config client ≡ Some part → (order : Order) → p.config.order ≡ order → (p.config.order ≡ Unordered) ⊎ All (λ (x : PacketMsg). m c.config.tracks ≤ x.floor) (owed_at s path part)
      by_order part e Unordered is = inl is
      by_order part e Ordered is =
          inr (subst (λ (xs : List PacketMsg). All (λ (x : PacketMsg). m c.config.tracks ≤ x.floor) xs) (sym (owed_is part))
          (subst (λ n. All (λ (x : PacketMsg). n ≤ x.floor) (owed_part (view_of_path s.books p) part)) (sided part e)
          (All-from_recursion (λ (x : PacketMsg). side (m p.config.source) (m p.config.destination) part ≤ x.floor) (owed_part (view_of_path s.books p) part)
          (floors_owed (m p.config.source) (m p.config.destination) (book_at s.books p.config.destination) (view_of_path s.books p) refl is part
          (subst (λ (o : Order). (p.closed ≡ true) ⊎ All (PacketFits (m p.config.source) (m p.config.destination) (book_at s.books p.config.destination) o) p.packets) is fits)))))

      go : (o : Option Part) → part_for p.config client ≡ o
          → IfSome (option_map (λ part. record { path = path; order = p.config.order; gas = p.config.gas; waits = p.config.waits; owed = owed_at s path part }) o) (FitsFloor (m c.config.tracks))
      go None e = tt
      go (Some part) e = by_order part e p.config.order refl

  floors : (client : ℕ) (c : ClientState) → slice_get s.clients client ≡ Some c → AreRouted s → HaveFloors (m c.config.tracks) (path_tasks (owed_at s) s.paths client)
  floors client c at_c routed =
      All-from_recursion (FitsFloor (m c.config.tracks)) (path_tasks (owed_at s) s.paths client)
      (made_each (path_task (owed_at s) client) (FitsFloor (m c.config.tracks)) 0 s.paths
      (λ k p e. (let same : k ≡ 0 + k = omega arith in subst (λ j. IfSome (path_task (owed_at s) client (j, p)) (FitsFloor (m c.config.tracks))) same (one_floor client c at_c routed k p e))))

  -- ---- a client

  module _ (client : ℕ) (c d : ClientState) (at_c : slice_get s.clients client ≡ Some c) (is : IsClientLeft m left.window s.books c d) (routed : AreRouted s)
      (view : IsView (view_of (record (task_in s left.window client c) { stored = d.stored; book = book_at t.books c.config.tracks }))) where
    abbrev part : Task
    part = record (task_in s left.window client c) { stored = d.stored; book = book_at t.books c.config.tracks }

    have_floors : HaveFloors (m c.config.tracks) (path_tasks (owed_at s) s.paths client)
    have_floors = floors client c at_c routed

    -- the task over what is left
    task_is : (record (task_in s left.window client c) { stored = d.stored; book = book_at t.books c.config.tracks }) ≡ task_in t left.window client (record c { stored = d.stored })
    task_is = λ i. record (task_in s left.window client c) { stored = d.stored; book = book_at t.books c.config.tracks; paths = tasks_same client i }

    kept : IsBookLeft (m c.config.tracks) (book_at s.books c.config.tracks) (book_at t.books c.config.tracks)
    kept = left.books c.config.tracks

    high : (us : List Update) → IsAcceptable (client_of (view_of (task_in s left.window client c))) us → All (IsAbove (m c.config.tracks)) us
    high us a =
        updates_above (m c.config.tracks) (client_of (view_of (task_in s left.window client c))) (client_of (view_of part))
        (are_alike (m c.config.tracks) (task_in s left.window client c) d.stored (book_at t.books c.config.tracks) kept is.stored have_floors (left.rises c.config.tracks) view).there us a

    -- ---- prices

    price_same : (u : Update) → IsAbove (m c.config.tracks) u → priced (task_in s left.window client c) u ≡ priced part u
    unfolding client_of
    price_same u above =
        let fee : fee_at c.config.options c.config.fees (book_at s.books c.config.tracks) u.trusted u.height ≡ fee_at c.config.options c.config.fees (book_at t.books c.config.tracks) u.trusted u.height =
        ap (λ o. option_map_or (fee_of c.config.options c.config.fees) o 0) (same_step (m c.config.tracks) (book_at s.books c.config.tracks) (book_at t.books c.config.tracks) kept u.trusted u.height above.0 above.1) in
        let votes = sent_left (m c.config.tracks) (task_in s left.window client c) d.stored (book_at t.books c.config.tracks) kept is.stored have_floors (left.rises c.config.tracks) view u above in
        λ i. record { update = u; fee = fee i; votes = votes i }

    prices_same : (us : List Update) → AllByRecursion (IsAbove (m c.config.tracks)) us → AllByRecursion (λ u. priced (task_in s left.window client c) u ≡ priced part u) us
    prices_same [] all = tt
    prices_same (u ∷ us) all = (price_same u all.0, prices_same us all.1)

    plan_same : (number : ℕ) (p : Plan) → IsAcceptable (client_of (view_of (task_in s left.window client c))) p.updates → reported_plan (task_in s left.window client c) number p ≡ reported_plan part number p
    plan_same number p a =
        let updates = map_same (priced (task_in s left.window client c)) (priced part) p.updates (prices_same p.updates (recursion_from_All (IsAbove (m c.config.tracks)) p.updates (high p.updates a))) in
        let total =
        same_cost (m c.config.tracks) (client_of (view_of (task_in s left.window client c))) (client_of (view_of part))
        (are_alike (m c.config.tracks) (task_in s left.window client c) d.stored (book_at t.books c.config.tracks) kept is.stored have_floors (left.rises c.config.tracks) view).there p.updates a in
        λ i. record { updates = updates i; total = total i; messages = p.messages; sending = numbered number p.sending }

    reported_same : (number : ℕ) (next : Option ℕ) (a : Answer) → IsPlanned (task_in s left.window client c) a → reported (task_in s left.window client c) number next a ≡ reported part number next a
    reported_same number next a right = go a.plan right.plan
      where
        go : (o : Option Plan) → MatchOption o (IsUnreachable (client_of (view_of (task_in s left.window client c))) a.goal) (IsPlan (task_in s left.window client c) right.reach a.goal)
            → ◌≡◌ {A = PlannedReport}
            (record { goal = a.goal; beyond = beyond_goal part a.goal; labels = a.labels; plan = option_map (reported_plan (task_in s left.window client c) number) o; next = next })
            (record { goal = a.goal; beyond = beyond_goal part a.goal; labels = a.labels; plan = option_map (reported_plan part number) o; next = next })
        go None none = refl
        go (Some p) is_plan =
            λ i. record { goal = a.goal; beyond = beyond_goal part a.goal; labels = a.labels; plan = Some (plan_same number p is_plan.least.acceptable i); next = next }

    planned_acceptable : (a : Answer) → IsPlanned (task_in s left.window client c) a → IsAcceptable (client_of (view_of (task_in s left.window client c))) (planned_updates (Some a))
    planned_acceptable a right = go a.plan right.plan
      where
        go : (o : Option Plan) → MatchOption o (IsUnreachable (client_of (view_of (task_in s left.window client c))) a.goal) (IsPlan (task_in s left.window client c) right.reach a.goal)
            → IsAcceptable (client_of (view_of (task_in s left.window client c))) (option_map_or (λ (p : Plan). p.updates) o [])
        go None none = tt
        go (Some p) is_plan = is_plan.least.acceptable

    plan_for : (number : ℕ) (p : PlannedReport) → IsPlanFor (task_in s left.window client c) number p → IsPlanFor part number p
    plan_for number p for = record {
      answer = for.answer;
      right = planned_left (m c.config.tracks) (task_in s left.window client c) d.stored (book_at t.books c.config.tracks) kept is.stored have_floors (left.rises c.config.tracks) view for.answer for.right;
      next = next_left (m c.config.tracks) (task_in s left.window client c) d.stored (book_at t.books c.config.tracks) kept is.stored have_floors (left.rises c.config.tracks) view (planned_updates (Some for.answer)) p.next (planned_acceptable for.answer for.right) for.next;
      is = for.is ∙ reported_same number p.next for.answer for.right;
    }

    outcome_left : (o : Outcome) → IsOutcome (task_in s left.window client c) c o → IsOutcome part (record c { stored = d.stored }) o
    outcome_left (held number) right = right
    outcome_left (idle next) (none, is_idle, is_next) = (
      none,
      idle_left (m c.config.tracks) (task_in s left.window client c) d.stored (book_at t.books c.config.tracks) kept is.stored have_floors (left.rises c.config.tracks) view is_idle,
      next_left (m c.config.tracks) (task_in s left.window client c) d.stored (book_at t.books c.config.tracks) kept is.stored have_floors (left.rises c.config.tracks) view [] next tt is_next,
    )
    outcome_left (planned p) (none, for) = (none, plan_for (c.batches + 1) p for)

    told_left : told_too_big (task_in s left.window client c) c ≡ told_too_big part c
    told_left =
        ap (λ (ms : List Message). if is_some c.batch then [] else ms)
        (told_same (m c.config.tracks) (task_in s left.window client c) d.stored (book_at t.books c.config.tracks) kept is.stored have_floors (left.rises c.config.tracks) view)

    pub report_left : (r : ClientReport) → IsClientReport s (client, c) r → IsClientReport t (client, d) r
    report_left r right =
        let same : left.window ≡ right.window = same_Some left.window right.window (sym left.in_force ∙ right.is_window) in
        let here : IsOutcome (task_in s left.window client c) c r.outcome = subst (λ (w : Span). IsOutcome (task_in s w client c) c r.outcome) (sym same) right.outcome in
        let told : r.too_big ≡ told_too_big (task_in s left.window client c) c = subst (λ (w : Span). r.too_big ≡ told_too_big (task_in s w client c) c) (sym same) right.too_big in
        subst (λ (x : ClientState). IsClientReport t (client, x) r) (sym is.is)
        (record {
          id = right.id;
          window = left.window;
          is_window = left.still;
          outcome = subst (λ (k : Task). IsOutcome k (record c { stored = d.stored }) r.outcome) task_is (outcome_left r.outcome here);
          too_big = subst (λ (k : Task). r.too_big ≡ told_too_big k (record c { stored = d.stored })) task_is (told ∙ told_left);
        })

    -- ---- what the report leaves of the client

    pub updates_high : (r : ClientReport) → IsClientReport s (client, c) r → (p : PlannedReport) → r.outcome ≡ planned p → (plan : PlanReport) → p.plan ≡ Some plan → All (λ (u : PricedUpdate). m c.config.tracks ≤ u.update.height) plan.updates
    updates_high r right p e plan f =
        let same : left.window ≡ right.window = same_Some left.window right.window (sym left.in_force ∙ right.is_window) in
        let here : IsOutcome (task_in s left.window client c) c (planned p) = subst (λ (o : Outcome). IsOutcome (task_in s left.window client c) c o) e (subst (λ (w : Span). IsOutcome (task_in s w client c) c r.outcome) (sym same) right.outcome) in
        go here.1.answer.goal here.1.right.reach here.1.answer.plan here.1.right.plan (ap (λ (x : PlannedReport). x.plan) (sym here.1.is) ∙ f)
      where
        heights : (us : List Update) → AllByRecursion (IsAbove (m c.config.tracks)) us → AllByRecursion (λ (u : PricedUpdate). m c.config.tracks ≤ u.update.height) (map (priced (task_in s left.window client c)) us)
        heights [] all = tt
        heights (u ∷ us) all = (all.0.1, heights us all.1)

        go : (goal : Goal) (reach : Option ℕ) (o : Option Plan) → MatchOption o (IsUnreachable (client_of (view_of (task_in s left.window client c))) goal) (IsPlan (task_in s left.window client c) reach goal)
            → option_map (reported_plan (task_in s left.window client c) (c.batches + 1)) o ≡ Some plan → All (λ (u : PricedUpdate). m c.config.tracks ≤ u.update.height) plan.updates
        go goal reach None none at = absurd (none-some plan at)
        go goal reach (Some q) is_plan at =
            subst (λ (x : PlanReport). All (λ (u : PricedUpdate). m c.config.tracks ≤ u.update.height) x.updates) (same_Some _ plan at)
            (All-from_recursion (λ (u : PricedUpdate). m c.config.tracks ≤ u.update.height) (map (priced (task_in s left.window client c)) q.updates)
            (heights q.updates (recursion_from_All (IsAbove (m c.config.tracks)) q.updates (high q.updates is_plan.least.acceptable))))
