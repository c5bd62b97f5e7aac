-- Each message of a batch can be proved at the batch's height.
use Rattle.std.proofs.Common.{◌≡◌, ℕ, ◌≤◌, max, List, [], ◌∷◌, Option, Some, None, is_some, All, map, refl, sym, subst, arith, if◌then◌else◌}
use Rattle.std.specs.List.{fold, flat_map, AllByRecursion}
use Rattle.std.specs.Option.{option_map, option_or}
use Rattle.std.proofs.lemmas.Option.{same_Some}
use Rattle.std.proofs.lemmas.List.Elements.{All-from_recursion, recursion_from_All}
use Rattle.rb_plan_types.specs.Goal.{Meets}
use Rattle.rb_plan_types.specs.ProofHeight.{IsProofHeight}
use Rattle.rb_script_types.specs.declared.config.RefreshTo.{RefreshTo}
use Rattle.rb_script_types.specs.declared.config.RefreshTo.TheVariants.{Lowest, Highest, Newer}
use Rattle.rb_script_types.specs.declared.goal.Goal.{Goal}
use Rattle.rb_script_types.specs.declared.goal.Goal.TheVariants.{AtLeast}
use Rattle.rb_scan.specs.Laws.{ReadyIsWithinReach}
use Rattle.rb_scan.specs.Owed.{ready, wanted}
use Rattle.rb_scan.specs.declared.message.PacketMsg.{PacketMsg}
use Rattle.rb_step.specs.LightClient.{Update, Client}
use Rattle.rb_step.specs.View.{client_of}
use Rattle.rb_plan_client.specs.Task.{PathTask, Task, Message, view_of, message_on, going_on, ready_on, refresh_goal, goal_by, goal_of, messages_by, messages_of, due_messages}
use Rattle.rb_core_model.proofs.Owed.{append_all}

abbrev floors : List Message → List ℕ
floors ms = map (λ (m : PacketMsg). m.floor) (map (λ (m : Message). m.packet) ms)

abbrev AreUnder : ℕ → List Message → Type 0
AreUnder top ms = AllByRecursion (λ (m : Message). m.packet.floor ≤ top) ms

raised : (a : ℕ) (ms : List Message) → (a ≤ fold max a (floors ms)) × AreUnder (fold max a (floors ms)) ms
raised a [] = (omega arith, tt)
raised a (m ∷ ms) =
    let rest = raised (max a m.packet.floor) ms in
    (omega (arith, rest.0), (omega (arith, rest.0), rest.1))

under_wanted : (ms : List Message) (h : ℕ) → wanted (map (λ (m : Message). m.packet) ms) ≡ Some h → AreUnder h ms
under_wanted [] h e = tt
under_wanted (m ∷ ms) h e =
    let top : fold max m.packet.floor (floors ms) ≡ h = same_Some (fold max m.packet.floor (floors ms)) h e in
    let all = raised m.packet.floor ms in
    (omega (arith, all.0, top), subst (λ n. AreUnder n ms) top all.1)

weaker : (low high : ℕ) (ms : List Message) → low ≤ high → AreUnder low ms → AreUnder high ms
weaker low high [] le all = tt
weaker low high (m ∷ ms) le all = (omega (arith, all.0), weaker low high ms le all.1)

-- a goal that comes from messages is to be at least as high as their floors
by_goal : (asked refresh : Option Goal) (ms : List Message) (goal : Goal) (top : ℕ)
    → option_or asked (option_or (option_map (λ h. AtLeast h) (wanted (map (λ (m : Message). m.packet) ms))) refresh) ≡ Some goal
    → ((h : ℕ) → goal ≡ AtLeast h → h ≤ top) → AreUnder top (if is_some asked then [] else ms)
by_goal (Some g) refresh ms goal top e reaches = tt
by_goal None refresh [] goal top e reaches = tt
by_goal None refresh (m ∷ ms) goal top e reaches =
    let h : ℕ = fold max m.packet.floor (floors ms) in
    weaker h top (m ∷ ms) (reaches h (sym (same_Some (AtLeast h) goal e))) (under_wanted (m ∷ ms) h refl)

reached : (client : Client) (goal : Goal) (us : List Update) (proof h : ℕ) → Meets client goal us → IsProofHeight client us (Some proof) → goal ≡ AtLeast h → h ≤ proof
reached client goal us proof h meets is e =
    let there : Meets client (AtLeast h) us = subst (λ g. Meets client g us) e meets in
    omega (arith, is.greatest there.0 there.1, there.2)

-- what is ready at a height is under it
packets_under : (p : PathTask) (proof : ℕ) (ms : List PacketMsg) → AllByRecursion (λ (m : PacketMsg). m.floor ≤ proof) ms → AreUnder proof (map (message_on p) ms)
packets_under p proof [] all = tt
packets_under p proof (m ∷ ms) all = (all.0, packets_under p proof ms all.1)

ready_under : ReadyIsWithinReach → (t : Task) (proof : ℕ) (ps : List PathTask) → AreUnder proof (flat_map (ready_on t (Some proof)) ps)
ready_under within t proof [] = tt
ready_under within t proof (p ∷ ps) =
    let kept = ready (going_on t p) p.order (Some proof) in
    append_all (λ (m : Message). m.packet.floor ≤ proof) (ready_on t (Some proof) p) (flat_map (ready_on t (Some proof)) ps)
    (packets_under p proof kept (recursion_from_All (λ (m : PacketMsg). m.floor ≤ proof) kept (within (going_on t p) p.order proof)))
    (ready_under within t proof ps)

pub floors_fit : ReadyIsWithinReach → (t : Task) (reach : Option ℕ) (goal : Goal) (us : List Update) (proof : ℕ) → goal_of t reach ≡ Some goal → Meets (client_of (view_of t)) goal us
    → IsProofHeight (client_of (view_of t)) us (Some proof) → All (λ (m : Message). m.packet.floor ≤ proof) (messages_of t reach (Some proof))
floors_fit within t reach goal us proof e meets is = All-from_recursion (λ (m : Message). m.packet.floor ≤ proof) (messages_of t reach (Some proof)) (go t.config.refresh_to e)
  where
    go : (to : RefreshTo) → goal_by t reach to ≡ Some goal → AreUnder proof (messages_by t reach (Some proof) to)
    go Lowest f = by_goal t.asked (refresh_goal t reach) (due_messages t reach) goal proof f (λ h. reached (client_of (view_of t)) goal us proof h meets is)
    go Highest f = by_goal t.asked (refresh_goal t reach) (due_messages t reach) goal proof f (λ h. reached (client_of (view_of t)) goal us proof h meets is)
    go Newer f = ready_under within t proof t.paths
