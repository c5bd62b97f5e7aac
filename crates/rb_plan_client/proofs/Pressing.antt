-- Where a message presses, all that are ready go.
use Rattle.std.proofs.Common.{◌≡◌, ◌≢◌, ℕ, ◌≤◌, true, false, max, nat_le, List, [], ◌∷◌, ◌++◌, map, Option, Some, None, MatchOption, IsSomeAnd, is_some, refl, sym, ap, ◌∙◌, subst, arith, if◌then◌else◌}
use Rattle.std.specs.List.{flat_map, fold, AllByRecursion}
use Rattle.std.specs.Option.{option_map, option_map_or, option_or}
use Rattle.std.proofs.lemmas.Bool.{true≢false}
use Rattle.std.proofs.lemmas.Option.{none-some, same_Some}
use Rattle.std.proofs.lemmas.List.Elements.{recursion_from_All}
use Rattle.rb_plan_types.specs.Least.{IsUnreachable}
use Rattle.rb_scan.specs.Laws.{ReadyIsWithinReach}
use Rattle.rb_scan.specs.Owed.{ready, wanted}
use Rattle.rb_scan.specs.declared.message.PacketMsg.{PacketMsg}
use Rattle.rb_script_types.specs.declared.config.RefreshTo.TheVariants.{Newer}
use Rattle.rb_script_types.specs.declared.goal.Goal.{Goal}
use Rattle.rb_script_types.specs.declared.goal.Goal.TheVariants.{AtLeast}
use Rattle.rb_step.specs.LightClient.{Client}
use Rattle.rb_step.specs.View.{client_of}
use Rattle.rb_plan_client.specs.Draft.{Plan, Planned, IsPlan, IsAnswer}
use Rattle.rb_plan_client.specs.Laws.{PressingGoes}
use Rattle.rb_plan_client.specs.Reach.{IsReach}
use Rattle.rb_plan_client.specs.Task.{PathTask, Task, Message, view_of, message_on, going_on, ready_on, ready_messages, near_reach, presses, due_messages, refresh_goal, goal_of}
use Rattle.rb_plan_client.proofs.Ages.{first_is_goal, messages_are_due}
use Rattle.rb_plan_client.proofs.Nexts.{none_first, none_wanted}

-- ---- the reach is one

one_reach : (client : Client) (a b : Option ℕ) → IsReach client a → IsReach client b → a ≡ b
one_reach client None None p q = refl
one_reach client None (Some n) p q = absurd (p.greatest n q.reached)
one_reach client (Some m) None p q = absurd (q.greatest m p.reached)
one_reach client (Some m) (Some n) p q = ap (λ x. Some x) (omega (arith, q.greatest m p.reached, p.greatest n q.reached))

-- ---- floors of what is ready

abbrev Under : ℕ → List Message → Type 0
Under top ms = AllByRecursion (λ (m : Message). m.packet.floor ≤ top) ms

under_append : (top : ℕ) (xs ys : List Message) → Under top xs → Under top ys → Under top (xs ++ ys)
under_append top [] ys a b = b
under_append top (x ∷ xs) ys a b = (a.0, under_append top xs ys a.1 b)

under_path : (p : PathTask) (top : ℕ) (ms : List PacketMsg) → AllByRecursion (λ (m : PacketMsg). m.floor ≤ top) ms → Under top (map (message_on p) ms)
under_path p top [] all = tt
under_path p top (m ∷ ms) all = (all.0, under_path p top ms all.1)

ready_under : ReadyIsWithinReach → (t : Task) (top : ℕ) (ps : List PathTask) → Under top (flat_map (ready_on t (Some top)) ps)
ready_under law t top [] = tt
ready_under law t top (p ∷ ps) =
    under_append top (ready_on t (Some top) p) (flat_map (ready_on t (Some top)) ps)
    (under_path p top (ready (going_on t p) p.order (Some top)) (recursion_from_All (λ (m : PacketMsg). m.floor ≤ top) (ready (going_on t p) p.order (Some top)) (law (going_on t p) p.order top)))
    (ready_under law t top ps)

greatest_under : (top a : ℕ) (ms : List Message) → a ≤ top → Under top ms → fold max a (map (λ (m : PacketMsg). m.floor) (map (λ (m : Message). m.packet) ms)) ≤ top
greatest_under top a [] le all = le
greatest_under top a (m ∷ ms) le all = greatest_under top (max a m.packet.floor) ms (omega (arith, le, all.0)) all.1

wanted_under : (top h : ℕ) (ms : List Message) → Under top ms → wanted (map (λ (m : Message). m.packet) ms) ≡ Some h → h ≤ top
wanted_under top h [] all e = absurd (none-some h e)
wanted_under top h (m ∷ ms) all e =
    let same = same_Some (fold max m.packet.floor (map (λ (m : PacketMsg). m.floor) (map (λ (m : Message). m.packet) ms))) h e in
    omega (arith, same, greatest_under top m.packet.floor ms all.0 all.1)

-- ---- the law

module _ (law : ReadyIsWithinReach) (t : Task) (reach : Option ℕ) (by_age : t.config.refresh_to ≢ Newer) (is : IsReach (client_of (view_of t)) reach) (asked : t.asked ≡ None) (pressing : presses t reach ≡ true) where
  all_due : due_messages t reach ≡ ready_messages t reach
  all_due = ap (λ b. ready_messages t (if b then reach else near_reach t)) pressing

  some_ready : ready_messages t reach ≢ []
  some_ready none = true≢false (sym pressing ∙ ap (λ o. option_map_or (λ m. nat_le m t.window.until) o false) (none_first t reach none))

  -- so the goal is the height that they want
  goal_is : (o : Option ℕ) → wanted (map (λ (m : Message). m.packet) (ready_messages t reach)) ≡ o → (h : ℕ) × (o ≡ Some h) × (goal_of t reach ≡ Some (AtLeast h))
  goal_is None e = absurd (some_ready (none_wanted (ready_messages t reach) e))
  goal_is (Some h) e = (
    h,
    refl,
    first_is_goal t reach by_age
        ∙ (λ i. option_or (asked i) (option_or (option_map (λ h. AtLeast h) (wanted (map (λ (m : Message). m.packet) (all_due i)))) (refresh_goal t reach)))
        ∙ ap (λ o. option_or (option_map (λ h. AtLeast h) o) (refresh_goal t reach)) e,
  )

  -- which can be reached
  reachable : (h : ℕ) → wanted (map (λ (m : Message). m.packet) (ready_messages t reach)) ≡ Some h → IsUnreachable (client_of (view_of t)) (AtLeast h) → ⊥
  reachable h e unreachable = go reach refl
    where
      go : (r : Option ℕ) → reach ≡ r → ⊥
      go None at = some_ready (ap (ready_messages t) at ∙ nothing t.paths)
        where
          nothing : (ps : List PathTask) → flat_map (ready_on t None) ps ≡ []
          nothing [] = refl
          nothing (p ∷ ps) = nothing ps
      go (Some top) at =
          let there = subst (IsReach (client_of (view_of t))) at is in
          let us = there.reached in
          let low = wanted_under top h (ready_messages t (Some top)) (ready_under law t top t.paths) (sym (ap (λ r. wanted (map (λ (m : Message). m.packet) (ready_messages t r))) at) ∙ e) in
          unreachable us.0 us.1 (top, us.2, low)

  by_answer : (answer : Option Planned) → IsAnswer t answer → IsSomeAnd answer (λ (a : Planned). IsSomeAnd a.plan (λ (p : Plan). p.messages ≡ ready_messages t reach))
  by_answer None idle =
      let g = goal_is (wanted (map (λ (m : Message). m.packet) (ready_messages t reach))) refl in
      none-some (AtLeast g.0) (sym (ap (goal_of t) (one_reach (client_of (view_of t)) reach idle.reach is idle.is_reach) ∙ idle.goal) ∙ g.2)
  by_answer (Some a) planned =
      let g = goal_is (wanted (map (λ (m : Message). m.packet) (ready_messages t reach))) refl in
      let same : reach ≡ planned.reach = one_reach (client_of (view_of t)) reach planned.reach is planned.is_reach in
      let goal : a.goal ≡ AtLeast g.0 = same_Some a.goal (AtLeast g.0) (sym planned.goal ∙ ap (goal_of t) (sym same) ∙ g.2) in
      let plan : MatchOption a.plan (IsUnreachable (client_of (view_of t)) (AtLeast g.0)) (IsPlan t reach (AtLeast g.0)) =
      subst (λ (x : Goal × Option ℕ). MatchOption a.plan (IsUnreachable (client_of (view_of t)) x.0) (IsPlan t x.1 x.0)) (λ i. (goal i, sym same i)) planned.plan in
      go a.plan g.0 g.1 plan
    where
      go : (o : Option Plan) (h : ℕ) → wanted (map (λ (m : Message). m.packet) (ready_messages t reach)) ≡ Some h
          → MatchOption o (IsUnreachable (client_of (view_of t)) (AtLeast h)) (IsPlan t reach (AtLeast h)) → IsSomeAnd o (λ (p : Plan). p.messages ≡ ready_messages t reach)
      go None h e unreachable = reachable h e unreachable
      go (Some p) h e is_plan = is_plan.messages ∙ messages_are_due t reach is_plan.proof by_age ∙ ap (λ (o : Option Goal). if is_some o then [] else due_messages t reach) asked ∙ all_due

pub pressing_goes : ReadyIsWithinReach → PressingGoes
pressing_goes law t reach answer by_age is asked pressing is_answer = by_answer law t reach by_age is asked pressing answer is_answer
