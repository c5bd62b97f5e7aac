-- Where a message presses, the goal is as high as all that are ready, and all of them go, however the client is refreshed.
use Rattle.std.proofs.Common.{◌≡◌, ◌≢◌, ◌⊎◌, ℕ, ◌≤◌, true, false, nat_le, List, [], ◌∷◌, ◌++◌, map, Option, Some, None, IfSome, IsSomeAnd, refl, sym, ap, ◌∙◌, subst, inl, inr, arith, if◌then◌else◌}
use Rattle.std.specs.List.{AllByRecursion, flat_map}
use Rattle.std.specs.Option.{option_map, option_or}
use Rattle.std.proofs.lemmas.List.Elements.{All-from_recursion}
use Rattle.std.proofs.lemmas.Option.{none-some}
use Rattle.rb_book.specs.Invariant.{IsBook}
use Rattle.rb_plan_types.specs.RefreshLaws.{RefreshIsInReach}
use Rattle.rb_scan.specs.Laws.{AllGoAlong}
use Rattle.rb_scan.specs.Owed.{ready, ready_beyond, wanted}
use Rattle.rb_scan.specs.declared.message.PacketMsg.{PacketMsg}
use Rattle.rb_script_types.specs.declared.config.RefreshTo.{RefreshTo}
use Rattle.rb_script_types.specs.declared.config.RefreshTo.TheVariants.{Lowest, Highest, Newer}
use Rattle.rb_script_types.specs.declared.goal.Goal.{Goal}
use Rattle.rb_script_types.specs.declared.goal.Goal.TheVariants.{AtLeast}
use Rattle.rb_step.specs.LightClient.{Leaves}
use Rattle.rb_step.specs.View.{client_of}
use Rattle.rb_plan_client.proofs.Ages.{first_is_goal}
use Rattle.rb_plan_client.specs.Draft.{Plan, Planned, IsAnswer}
use Rattle.rb_plan_client.specs.Laws.{PressingGoes as PressingGoesByAge}
use Rattle.rb_plan_client.specs.Reach.{IsReach}
use Rattle.rb_plan_client.specs.Task.{PathTask, Task, Message, view_of, message_on, going_on, ready_on, ready_messages, near_reach, press_moment, press_moments_on, first_press, presses, due_messages, wanted_height, refresh_goal, goal_of, messages_by}
use Rattle.rb_core_model.proofs.Options.{tested}
use Rattle.rb_super.specs.Pressing.{asks_exactly, KeepsNoneBack, PressingGoes}
use Rattle.rb_super.proofs.Joined.{IsGoal, goal_is, IsMet, is_met}
use Rattle.rb_super.proofs.Members.{In, in_map, in_flat_map, from_map, from_flat_map, far_is_ready}
use Rattle.rb_super.proofs.Moments.{first_is}
use Rattle.rb_super.proofs.Records.{wanted_above}

pub newer_or_not : (to : RefreshTo) → (to ≡ Newer) ⊎ (to ≢ Newer)
newer_or_not Lowest = inr (λ e. cc)
newer_or_not Highest = inr (λ e. cc)
newer_or_not Newer = inl refl

-- ---- what presses is ready, and so wanted

module _ (t : Task) (reach : Option ℕ) (pressing : presses t reach ≡ true) where
  -- a message that presses
  pub one_far : (p : PathTask) × (m : PacketMsg) × In t.paths p × In (ready_beyond (going_on t p) p.order (near_reach t) reach) m
  one_far =
      let moment = tested (λ moment. nat_le moment t.window.until) (first_press t reach) pressing in
      among moment.0 (first_is (flat_map (press_moments_on t reach) t.paths) None moment.0 moment.1)
    where
      among : (n : ℕ) → (None ≡ Some n) ⊎ In (flat_map (press_moments_on t reach) t.paths) (Some n) → (p : PathTask) × (m : PacketMsg) × In t.paths p × In (ready_beyond (going_on t p) p.order (near_reach t) reach) m
      among n (inl none) = absurd (none-some n none)
      among n (inr there) =
          let p = from_flat_map (press_moments_on t reach) t.paths (Some n) there in
          let m = from_map (press_moment t p.0.waits) (ready_beyond (going_on t p.0) p.0.order (near_reach t) reach) (Some n) p.2 in
          (p.0, m.0, p.1, m.1)

  all_due : due_messages t reach ≡ ready_messages t reach
  all_due = ap (λ b. ready_messages t (if b then reach else near_reach t)) pressing

  -- the greatest floor of all that are ready
  greatest : (h : ℕ) × (wanted (map (λ (m : Message). m.packet) (ready_messages t reach)) ≡ Some h) × ((x : Message) → In (ready_messages t reach) x → x.packet.floor ≤ h)
  greatest =
      let far = one_far in
      wanted_above (ready_messages t reach) (message_on far.0 far.1)
      (in_flat_map (ready_on t reach) t.paths far.0 (message_on far.0 far.1) far.2
      (in_map (message_on far.0) (ready (going_on t far.0) far.0.order reach) far.1 (far_is_ready (going_on t far.0) far.0.order (near_reach t) reach far.1 far.3)))

  is_wanted : wanted_height t reach ≡ Some greatest.0
  is_wanted = ap (λ (ms : List Message). wanted (map (λ (m : Message). m.packet) ms)) all_due ∙ greatest.1

  pub some_wanted : wanted_height t reach ≢ None
  some_wanted = λ none. none-some greatest.0 (sym none ∙ is_wanted)

  -- something can be reached
  has_reach : (top : ℕ) × (reach ≡ Some top)
  has_reach = go reach refl one_far.3
    where
      go : (o : Option ℕ) → reach ≡ o → In (ready_beyond (going_on t one_far.0) one_far.0.order (near_reach t) o) one_far.1 → (top : ℕ) × (reach ≡ Some top)
      go None e far = absurd far
      go (Some top) e far = (top, e)

-- ---- the goal

-- at least as high as all that are ready
pub record IsHigh (t : Task) (reach : Option ℕ) : Type 0 where
  pub height : ℕ
  pub goal : goal_of t reach ≡ Some (AtLeast height)
  pub above : (x : Message) → In (ready_messages t reach) x → x.packet.floor ≤ height

module _ (t : Task) (reach : Option ℕ) (asked : t.asked ≡ None) (pressing : presses t reach ≡ true) where
  high_by_age : t.config.refresh_to ≢ Newer → IsHigh t reach
  high_by_age by_age =
      let most = greatest t reach pressing in
      record {
        height = most.0;
        goal = first_is_goal t reach by_age ∙ (λ i. option_or (asked i) (option_or (option_map (λ h. AtLeast h) (is_wanted t reach pressing i)) (refresh_goal t reach)));
        above = most.2;
      }

module _ (t : Task) (reach : Option ℕ) (is : IsReach (client_of (view_of t)) reach) (plain : asks_exactly t.asked ≡ false) (pressing : presses t reach ≡ true)
    (in_reach : RefreshIsInReach) (book : IsBook t.book) (by_gain : t.config.refresh_to ≡ Newer)
  where
    top : (top : ℕ) × (reach ≡ Some top)
    top = has_reach t reach pressing

    joined_goal : IsGoal t reach top.0
    joined_goal =
        goal_is in_reach t book reach is top.0 top.1 by_gain plain (λ none _. some_wanted t reach pressing none)

    above_all : (x : Message) → In (ready_messages t reach) x → x.packet.floor ≤ joined_goal.height
    above_all x there =
        let low : (greatest t reach pressing).0 ≤ joined_goal.height = subst (λ o. IfSome o (λ w. w ≤ joined_goal.height)) (is_wanted t reach pressing) joined_goal.wanted in
        let le = (greatest t reach pressing).2 x there in
        omega (arith, low, le)

    high_by_gain : IsHigh t reach
    high_by_gain = record { height = joined_goal.height; goal = joined_goal.goal; above = above_all }

    -- ---- all that are ready go, proved at the plan's own height

    all_in_list : (P : PacketMsg → Type 0) (xs : List PacketMsg) → ((x : PacketMsg) → In xs x → P x) → AllByRecursion P xs
    all_in_list P [] f = tt
    all_in_list P (x ∷ xs) f = (f x (inl refl), all_in_list P xs (λ y there. f y (inr there)))

    same_paths : (a b : Option ℕ) (paths : List PathTask) → ((p : PathTask) → In paths p → ready (going_on t p) p.order a ≡ ready (going_on t p) p.order b) → flat_map (ready_on t a) paths ≡ flat_map (ready_on t b) paths
    same_paths a b [] each = refl
    same_paths a b (p ∷ paths) each = λ i. map (message_on p) (each p (inl refl) i) ++ same_paths a b paths (λ q there. each q (inr there)) i

    along : AllGoAlong → (proof : ℕ) → joined_goal.height ≤ proof → proof ≤ top.0 → ready_messages t (Some proof) ≡ ready_messages t reach
    along law proof high low =
        same_paths (Some proof) (Some top.0) t.paths (λ p there.
        law (going_on t p) p.order proof top.0 low
        (All-from_recursion (λ (m : PacketMsg). m.floor ≤ proof) (ready (going_on t p) p.order (Some top.0))
        (all_in_list (λ (m : PacketMsg). m.floor ≤ proof) (ready (going_on t p) p.order (Some top.0)) (λ m inside.
        let le = above_all (message_on p m) (in_flat_map (ready_on t reach) t.paths p (message_on p m) there
        (in_map (message_on p) (ready (going_on t p) p.order reach) m (subst (λ o. In (ready (going_on t p) p.order o) m) (sym top.1) inside))) in
        omega (arith, le, high)))))
        ∙ ap (ready_messages t) (sym top.1)

    goes_by_gain : AllGoAlong → (answer : Option Planned) → IsAnswer t answer → IsSomeAnd answer (λ (a : Planned). IsSomeAnd a.plan (λ (p : Plan). p.messages ≡ ready_messages t reach))
    goes_by_gain law answer right =
        subst (λ o. IsSomeAnd o (λ (a : Planned). IsSomeAnd a.plan (λ (p : Plan). p.messages ≡ ready_messages t reach))) (sym met.is_planned)
        (subst (λ o. IsSomeAnd o (λ (p : Plan). p.messages ≡ ready_messages t reach)) (sym met.is_plan)
        (met.messages ∙ ap (messages_by t reach met.proof) by_gain ∙ at_proof met.proof met.is_proof.left (met.is_proof.greatest met.least.meets.0 met.least.meets.1)))
      where
        met : IsMet t reach joined_goal.height answer
        met = is_met t reach is top.0 top.1 joined_goal answer right

        at_proof : (o : Option ℕ) → IfSome o (Leaves (client_of (view_of t)) met.plan.updates) → IsSomeAnd o (λ b. met.least.meets.0 ≤ b) → ready_messages t o ≡ ready_messages t reach
        at_proof None left up = absurd up
        at_proof (Some b) left up =
            let low : b ≤ top.0 = subst (λ o. IsSomeAnd o (λ r. b ≤ r)) top.1 (is.greatest b (met.plan.updates, met.least.acceptable, left)) in
            let high = met.least.meets.2 in
            along law b (omega (arith, up, high)) low

pub high : (t : Task) (reach : Option ℕ) → IsReach (client_of (view_of t)) reach → KeepsNoneBack t.asked t.config.refresh_to → presses t reach ≡ true
    → RefreshIsInReach → (t.config.refresh_to ≡ Newer → IsBook t.book) → IsHigh t reach
high t reach is keeps pressing in_reach book = go t.config.refresh_to refl keeps
  where
    go : (to : RefreshTo) → t.config.refresh_to ≡ to → KeepsNoneBack t.asked to → IsHigh t reach
    go Lowest e none = high_by_age t reach none pressing (λ newer. (let other : Lowest ≡ Newer = sym e ∙ newer in cc))
    go Highest e none = high_by_age t reach none pressing (λ newer. (let other : Highest ≡ Newer = sym e ∙ newer in cc))
    go Newer e plain = high_by_gain t reach is plain pressing in_reach (book e) e

-- ---- what goes

-- where no goal was asked for, none keeps messages back
pub none_asked : (asked : Option Goal) (to : RefreshTo) → asked ≡ None → KeepsNoneBack asked to
none_asked asked Lowest e = e
none_asked asked Highest e = e
none_asked asked Newer e = ap asks_exactly e

pub pressing_goes : PressingGoesByAge → RefreshIsInReach → AllGoAlong → PressingGoes
pressing_goes goes in_reach law t reach answer book is keeps pressing right = go t.config.refresh_to refl keeps
  where
    go : (to : RefreshTo) → t.config.refresh_to ≡ to → KeepsNoneBack t.asked to → IsSomeAnd answer (λ (a : Planned). IsSomeAnd a.plan (λ (p : Plan). p.messages ≡ ready_messages t reach))
    go Lowest e none = goes t reach answer (λ newer. (let other : Lowest ≡ Newer = sym e ∙ newer in cc)) is none pressing right
    go Highest e none = goes t reach answer (λ newer. (let other : Highest ≡ Newer = sym e ∙ newer in cc)) is none pressing right
    go Newer e plain = goes_by_gain t reach is plain pressing in_reach (book e) e law answer right
