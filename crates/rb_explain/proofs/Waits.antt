-- What is owed, what of it is sent, and what is left.
use Rattle.std.proofs.Common.{◌≡◌, ◌⊎◌, ℕ, ◌+◌, ◌<◌, ◌≤◌, Bool, true, false, not, cond, nat_lt, nat_le, List, [], ◌∷◌, ◌++◌, Option, Some, None, MatchOption, length, map, take, drop, get_or, is_some, refl, sym, ap, ◌∙◌, subst, inl, inr, append-nil, append_assoc, zero-add, arith}
use Rattle.std.specs.List.{enumerate_from, filter, flat_map}
use Rattle.std.specs.Option.{option_map, option_map_or}
use Rattle.std.proofs.lemmas.List.{map-append, take_all, take_more}
use Rattle.std.proofs.lemmas.List.FromFn.{length-enumerate_from, get_or-enumerate_from}
use Rattle.std.proofs.lemmas.Option.{none-some, same_Some}
use Rattle.rb_plan_client.specs.Draft.{Plan, IsPlan}
use Rattle.rb_plan_types.specs.Least.{IsUnreachable}
use Rattle.rb_plan_client.specs.Task.{Message, PathTask, Task, bars_of, due_messages, going_by, going_on, message_on, messages_by, messages_of, ready_on, sending_reach, view_of}
use Rattle.rb_scan.specs.Going.{can_go, going_end, is_barred, is_going, is_late}
use Rattle.rb_scan.specs.Owed.{is_ready, ready, run_end, same_kind}
use Rattle.rb_scan.specs.declared.bars.Bars.{Bars}
use Rattle.rb_script_types.specs.declared.config.RefreshTo.{RefreshTo}
use Rattle.rb_script_types.specs.declared.config.RefreshTo.TheVariants.{Lowest, Highest, Newer}
use Rattle.rb_scan.specs.declared.message.Kind.{Kind}
use Rattle.rb_scan.specs.declared.message.Kind.TheVariants.{Receive, Acknowledge, Timeout}
use Rattle.rb_scan.specs.declared.message.PacketMsg.{PacketMsg}
use Rattle.rb_scan.specs.declared.path.Order.{Order}
use Rattle.rb_scan.specs.declared.path.Order.TheVariants.{Ordered, Unordered}
use Rattle.rb_script_types.specs.declared.goal.Goal.{Goal}
use Rattle.rb_step.specs.View.{client_of}
use Rattle.rb_super_turn.specs.Report.{Outcome, PlanReport, PlannedReport, held, idle, planned}
use Rattle.rb_super_turn.specs.Turns.{reported_plan, IsPlanFor}
use Rattle.rb_explain.specs.Client.{IsRight}
use Rattle.rb_explain.specs.Ends.{ends_of, end_for, is_before, is_before_end}
use Rattle.rb_explain.specs.Stays.{is_behind, stay_among, stay_in, stays_by, stays_of}
use Rattle.rb_explain.specs.Waiting.{AreAmong, IsLeft, IsSent, IsSentFirst, is_proved_at, none, sent, left, owed_message, owed_messages, owed_on, sent_in, stay_at, stay_by}
use Rattle.rb_explain.specs.declared.stays.Stay.{Stay}
use Rattle.rb_explain.specs.declared.stays.Stay.TheVariants.{TooBig, Late, Behind}
use Rattle.rb_explain.specs.declared.stays.Stays.{Stays}
use Rattle.rb_explain.specs.declared.ready.Ends.{Ends}
use Rattle.rb_explain.specs.declared.waiting.WaitingMessage.{WaitingMessage}

-- ---- what is before the ends is ready

before_is_ready : (ms : List PacketMsg) (reach : ℕ) (order : Order) (place : ℕ) (m : PacketMsg) → is_before_end (ends_of ms reach) order place m ≡ is_ready order reach ms place m
before_is_ready ms reach Unordered place m = refl
before_is_ready ms reach Ordered place m = go m.kind
  where
    go : (k : Kind) → cond (same_kind k Timeout) (nat_le m.floor reach) (nat_lt place (end_for (ends_of ms reach) k)) ≡ cond (same_kind k Timeout) (nat_le m.floor reach) (nat_lt place (run_end reach k ms))
    go Receive = refl
    go Acknowledge = refl
    go Timeout = refl

pub proved_by : (p : PathTask) (reach : Option ℕ) (ends : Option Ends) (place : ℕ) (m : PacketMsg) → ends ≡ option_map (ends_of p.owed) reach → is_before ends p.order place m ≡ is_proved_at p reach place m
proved_by p None ends place m is = rw is refl
proved_by p (Some reach) ends place m is = rw is (before_is_ready p.owed reach p.order place m)

-- ---- what keeps a message

-- behind one that can't go is what doesn't go itself
behind_is : (ms : List PacketMsg) (bars : Bars) (order : Order) (place : ℕ) (m : PacketMsg) → can_go bars m ≡ true
    → cond (is_behind (stays_of ms bars) order place m.kind) (Some Behind) None ≡ cond (is_going order (can_go bars) ms place m) None (Some Behind)
behind_is ms bars Unordered place m can = rw can refl
behind_is ms bars Ordered place m can = go m.kind
  where
    turned : (b : Bool) → cond (not b) (Some Behind) None ≡ cond b None (Some Behind)
    turned true = refl
    turned false = refl

    go : (k : Kind) → cond (is_behind (stays_of ms bars) Ordered place k) (Some Behind) None ≡ cond (nat_lt place (going_end (can_go bars) k ms)) None (Some Behind)
    go Receive = turned (nat_lt place (going_end (can_go bars) Receive ms))
    go Acknowledge = turned (nat_lt place (going_end (can_go bars) Acknowledge ms))
    go Timeout = turned (nat_lt place (going_end (can_go bars) Timeout ms))

stay_by_gain : (t : Task) (p : PathTask) (place : ℕ) (m : PacketMsg) → stay_in (stays_of p.owed (bars_of t p)) p.order place m ≡ stay_by t p place m Newer
stay_by_gain t p place m = go (is_barred (bars_of t p) m.kind) (is_late t.window.until m) refl refl
  where
    go : (barred late : Bool) → is_barred (bars_of t p) m.kind ≡ barred → is_late t.window.until m ≡ late → stay_in (stays_of p.owed (bars_of t p)) p.order place m ≡ stay_by t p place m Newer
    go true late is_b is_l = rw is_b refl
    go false true is_b is_l = rw is_b (rw is_l refl)
    go false false is_b is_l = rw is_b (rw is_l (behind_is p.owed (bars_of t p) p.order place m (rw is_b (rw is_l refl))))

pub stays_are : (t : Task) (p : PathTask) (ms : List PacketMsg) (bars : Bars) (s : Stays) → t.config.refresh_to ≡ Newer → ms ≡ p.owed → bars ≡ bars_of t p
    → s ≡ stays_of ms bars → ◌≡◌ {A = Option Stays} (Some s) (stays_by t p t.config.refresh_to)
stays_are t p ms bars s to owed barred is =
    ap (λ (x : Stays). Some x) (is ∙ ap (λ (x : List PacketMsg × Bars). stays_of x.0 x.1) (λ i. (owed i, barred i))) ∙ sym (ap (stays_by t p) to)

pub stay_is : (t : Task) (p : PathTask) (stays : Option Stays) (place : ℕ) (m : PacketMsg) → stays ≡ stays_by t p t.config.refresh_to → stay_among stays p.order place m ≡ stay_at t p place m
stay_is t p stays place m is = rw is (go t.config.refresh_to)
  where
    go : (to : RefreshTo) → stay_among (stays_by t p to) p.order place m ≡ stay_by t p place m to
    go Lowest = refl
    go Highest = refl
    go Newer = stay_by_gain t p place m

-- ---- what is sent stands among what is owed

among_nothing : (ws : List WaitingMessage) → AreAmong [] ws
among_nothing [] = refl
among_nothing (w ∷ ws) = tt

among_past : (xs : List Message) (w : WaitingMessage) (ws : List WaitingMessage) → AreAmong xs ws → AreAmong xs (w ∷ ws)
among_past [] w ws h = tt
among_past (x ∷ xs) w ws h = inr h

among_append : (xs : List Message) (ws : List WaitingMessage) (ys : List Message) (vs : List WaitingMessage) → AreAmong xs ws → AreAmong ys vs → AreAmong (xs ++ ys) (ws ++ vs)
among_append xs [] ys vs one two = subst (λ (zs : List Message). AreAmong (zs ++ ys) vs) (sym one) two
among_append [] (w ∷ ws) ys vs one two = among_past ys w (ws ++ vs) (among_append [] ws ys vs (among_nothing ws) two)
among_append (x ∷ xs) (w ∷ ws) ys vs (inl (is, one)) two = inl (is, among_append xs ws ys vs one two)
among_append (x ∷ xs) (w ∷ ws) ys vs (inr one) two = inr (among_append (x ∷ xs) ws ys vs one two)

-- these stand among those, in their order
abbrev IsPart : {X : Type 0} → List X → List X → Type 0
IsPart xs [] = xs ≡ []
IsPart [] (y ∷ ys) = Unit {0}
IsPart (x ∷ xs) (y ∷ ys) = ((x ≡ y) × IsPart xs ys) ⊎ IsPart (x ∷ xs) ys

module _ {X : Type 0} where
  part_nothing : (ys : List X) → IsPart [] ys
  part_nothing [] = refl
  part_nothing (y ∷ ys) = tt

  part_past : (xs : List X) (y : X) (ys : List X) → IsPart xs ys → IsPart xs (y ∷ ys)
  part_past [] y ys h = tt
  part_past (x ∷ xs) y ys h = inr h

  part_all : (xs : List X) → IsPart xs xs
  part_all [] = refl
  part_all (x ∷ xs) = inl (refl, part_all xs)

  abbrev seconds : List (ℕ × X) → List X
  seconds ks = map (λ (k : ℕ × X). k.1) ks

  seconds_of : (n : ℕ) (xs : List X) → seconds (enumerate_from n xs) ≡ xs
  seconds_of n [] = refl
  seconds_of n (x ∷ xs) = ap (λ ys. x ∷ ys) (seconds_of (n + 1) xs)

  part_filtered : (q : ℕ × X → Bool) (ks : List (ℕ × X)) → IsPart (seconds (filter q ks)) (seconds ks)
  part_filtered q [] = refl
  part_filtered q (k ∷ ks) = go (q k) (part_filtered q ks)
    where
      go : (b : Bool) → IsPart (seconds (filter q ks)) (seconds ks) → IsPart (seconds (cond b (k ∷ filter q ks) (filter q ks))) (k.1 ∷ seconds ks)
      go true rest = inl (refl, rest)
      go false rest = part_past (seconds (filter q ks)) k.1 (seconds ks) rest

  -- of a list those at some places
  part_placed : (q : ℕ × X → Bool) (xs : List X) → IsPart (seconds (filter q (enumerate_from 0 xs))) xs
  part_placed q xs = subst (IsPart (seconds (filter q (enumerate_from 0 xs)))) (seconds_of 0 xs) (part_filtered q (enumerate_from 0 xs))

module _ (t : Task) (reach : Option ℕ) where
  -- all that a path owes is told
  among_listed : (p : PathTask) (ks : List (ℕ × PacketMsg)) → AreAmong (map (message_on p) (seconds ks)) (map (λ (k : ℕ × PacketMsg). owed_message t reach p k.0 k.1) ks)
  among_listed p [] = refl
  among_listed p (k ∷ ks) = inl (record { path = refl; packet = refl }, among_listed p ks)

  among_owed : (p : PathTask) → AreAmong (map (message_on p) p.owed) (owed_on t reach p)
  among_owed p = subst (λ (ms : List PacketMsg). AreAmong (map (message_on p) ms) (owed_on t reach p)) (seconds_of 0 p.owed) (among_listed p (enumerate_from 0 p.owed))

  -- and so is a part of it
  among_part : (p : PathTask) (xs ys : List PacketMsg) (ws : List WaitingMessage) → IsPart xs ys → AreAmong (map (message_on p) ys) ws → AreAmong (map (message_on p) xs) ws
  among_part p [] ys ws part h = among_nothing ws
  among_part p (x ∷ xs) [] ws part h = absurd (something_isnt x xs part)
    where
      something_isnt : (m : PacketMsg) (ms : List PacketMsg) → m ∷ ms ≡ [] → ⊥
      something_isnt m ms e = let f : List PacketMsg → Type 0 = elim [ [] ↦ ⊥ | _ ∷ _ ↦ Unit {0} ] in subst f e tt
  among_part p (x ∷ xs) (y ∷ ys) [] part h = absurd (nothing_is h)
    where
      nothing_is : message_on p y ∷ map (message_on p) ys ≡ [] → ⊥
      nothing_is e = let f : List Message → Type 0 = elim [ [] ↦ ⊥ | _ ∷ _ ↦ Unit {0} ] in subst f e tt
  among_part p (x ∷ xs) (y ∷ ys) (w ∷ ws) (inl (is, part)) (inl (same, h)) = inl (subst (λ (m : PacketMsg). IsSent w (message_on p m)) (sym is) same, among_part p xs ys ws part h)
  among_part p (x ∷ xs) (y ∷ ys) (w ∷ ws) (inr part) (inl (same, h)) = inr (among_part p (x ∷ xs) ys ws part h)
  among_part p (x ∷ xs) (y ∷ ys) (w ∷ ws) part (inr h) = inr (among_part p (x ∷ xs) (y ∷ ys) ws part h)

  going_part : (p : PathTask) (to : RefreshTo) → IsPart (going_by t p to) p.owed
  going_part p Lowest = part_all p.owed
  going_part p Highest = part_all p.owed
  going_part p Newer = part_placed (λ (k : ℕ × PacketMsg). is_going p.order (can_go (bars_of t p)) p.owed k.0 k.1) p.owed

  ready_part : (ms : List PacketMsg) (order : Order) (sending : Option ℕ) → IsPart (ready ms order sending) ms
  ready_part ms order None = part_nothing ms
  ready_part ms order (Some near) = part_placed (λ (k : ℕ × PacketMsg). is_ready order near ms k.0 k.1) ms

  among_on : (p : PathTask) (sending : Option ℕ) → AreAmong (ready_on t sending p) (owed_on t reach p)
  among_on p sending =
      among_part p (ready (going_on t p) p.order sending) (going_on t p) (owed_on t reach p) (ready_part (going_on t p) p.order sending)
      (among_part p (going_on t p) p.owed (owed_on t reach p) (going_part p t.config.refresh_to) (among_owed p))

  among_all : (ps : List PathTask) (sending : Option ℕ) → AreAmong (flat_map (ready_on t sending) ps) (flat_map (owed_on t reach) ps)
  among_all [] sending = refl
  among_all (p ∷ ps) sending = among_append (ready_on t sending p) (owed_on t reach p) (flat_map (ready_on t sending) ps) (flat_map (owed_on t reach) ps) (among_on p sending) (among_all ps sending)

  messages_among : (far proof : Option ℕ) → AreAmong (messages_of t far proof) (owed_messages t reach)
  messages_among far proof = by t.config.refresh_to
    where
      unless_asked : (b : Bool) → AreAmong (cond b [] (due_messages t far)) (owed_messages t reach)
      unless_asked true = among_nothing (owed_messages t reach)
      unless_asked false = among_all t.paths (sending_reach t far)

      by : (to : RefreshTo) → AreAmong (messages_by t far proof to) (owed_messages t reach)
      by Lowest = unless_asked (is_some t.asked)
      by Highest = unless_asked (is_some t.asked)
      by Newer = among_all t.paths proof

  plan_among : (goal : Goal) (number : ℕ) (far : Option ℕ) (o : Option Plan) (q : PlanReport) → MatchOption o (IsUnreachable (client_of (view_of t)) goal) (IsPlan t far goal)
      → option_map (reported_plan t number) o ≡ Some q → AreAmong q.messages (owed_messages t reach)
  plan_among goal number far None q is at = absurd (none-some q at)
  plan_among goal number far (Some x) q is at =
      let messages : messages_of t far is.proof ≡ q.messages = sym is.messages ∙ ap (λ (y : PlanReport). y.messages) (same_Some (reported_plan t number x) q at) in
      subst (λ (xs : List Message). AreAmong xs (owed_messages t reach)) messages (messages_among far is.proof)

  planned_among : (number : ℕ) (p : PlannedReport) → IsPlanFor t number p → AreAmong (sent_in (planned p)) (owed_messages t reach)
  planned_among number p is = go p.plan (ap (λ (x : PlannedReport). x.plan) is.is)
    where
      go : (o : Option PlanReport) → o ≡ option_map (reported_plan t number) is.answer.plan → AreAmong (option_map_or (λ (q : PlanReport). q.messages) o []) (owed_messages t reach)
      go None at = among_nothing (owed_messages t reach)
      go (Some q) at = plan_among is.answer.goal number is.right.reach is.answer.plan q is.right.plan (sym at)

  pub sent_among : (outcome : Outcome) → IsRight t outcome → AreAmong (sent_in outcome) (owed_messages t reach)
  sent_among (held number) right = among_nothing (owed_messages t reach)
  sent_among (idle next) right = among_nothing (owed_messages t reach)
  sent_among (planned p) right = planned_among (right.0.batches + 1) p right.1.1

-- ---- one message after another

among_rest : (x : Message) (xs : List Message) (ws : List WaitingMessage) → AreAmong (x ∷ xs) ws → AreAmong xs ws
among_rest x xs [] h = absurd (nothing_is h)
  where
    nothing_is : x ∷ xs ≡ [] → ⊥
    nothing_is e = let f : List Message → Type 0 = elim [ [] ↦ ⊥ | _ ∷ _ ↦ Unit {0} ] in subst f e tt
among_rest x [] (w ∷ ws) h = tt
among_rest x (y ∷ ys) (w ∷ ws) (inl (is, h)) = inr h
among_rest x (y ∷ ys) (w ∷ ws) (inr h) = inr (among_rest x (y ∷ ys) ws h)

-- what was taken out of the first messages, with what is left of them
pub record IsUnsent (owed : List WaitingMessage) (xs : List Message) (i : ℕ) (ys : List Message) (waiting : List WaitingMessage) : Type 0 where
  pub among : AreAmong ys (drop i owed)
  pub on : (rest : List WaitingMessage) → IsLeft (drop i owed) ys rest → IsLeft owed xs (waiting ++ rest)

pub unsent_first : (owed : List WaitingMessage) (xs : List Message) → AreAmong xs owed → IsUnsent owed xs 0 xs []
unsent_first owed xs h = record { among = h; on = λ rest is. is }

module _ (owed : List WaitingMessage) (xs : List Message) (i : ℕ) (ys : List Message) (waiting : List WaitingMessage) (is : IsUnsent owed xs i ys waiting) (w : WaitingMessage)
    (at : drop i owed ≡ w ∷ drop (i + 1) owed) where
  here : AreAmong ys (w ∷ drop (i + 1) owed)
  here = subst (AreAmong ys) at is.among

  after : {zs : List Message} (rest : List WaitingMessage) → IsLeft (w ∷ drop (i + 1) owed) zs rest → IsLeft (drop i owed) zs rest
  after {zs} rest h = subst (λ (ws : List WaitingMessage). IsLeft ws zs rest) (sym at) h

  -- it is sent
  pub unsent_sent : (zs : List Message) → IsSentFirst w ys (Some zs) → IsUnsent owed xs (i + 1) zs waiting
  unsent_sent zs first = go ys is here first
    where
      greedy : (y : Message) (us : List Message) (ws : List WaitingMessage) → AreAmong (y ∷ us) (w ∷ ws) → AreAmong us ws
      greedy y us ws (inl (is, h)) = h
      greedy y us ws (inr h) = among_rest y us ws h

      go : (vs : List Message) → IsUnsent owed xs i vs waiting → AreAmong vs (w ∷ drop (i + 1) owed) → IsSentFirst w vs (Some zs) → IsUnsent owed xs (i + 1) zs waiting
      go [] known near f = absurd (none-some zs (sym f))
      go (y ∷ us) known near f = record {
        among = subst (λ (vs : List Message). AreAmong vs (drop (i + 1) owed)) (sym f.0) (greedy y us (drop (i + 1) owed) near);
        on = λ rest h. known.on rest (after rest (sent f.1 (subst (λ (vs : List Message). IsLeft (drop (i + 1) owed) vs rest) f.0 h)));
      }

  -- it isn't
  pub unsent_left : IsSentFirst w ys None → IsUnsent owed xs (i + 1) ys (waiting ++ w ∷ [])
  unsent_left first = record {
    among = go ys here first;
    on = λ rest h. subst (IsLeft owed xs) (sym (append_assoc waiting (w ∷ []) rest)) (is.on (w ∷ rest) (after (w ∷ rest) (left h)));
  }
    where
      go : (vs : List Message) → AreAmong vs (w ∷ drop (i + 1) owed) → IsSentFirst w vs None → AreAmong vs (drop (i + 1) owed)
      go [] near f = among_nothing (drop (i + 1) owed)
      go (y ∷ us) (inl (same, h)) f = absurd (f same)
      go (y ∷ us) (inr h) f = h

pub unsent_all : (owed : List WaitingMessage) (xs : List Message) (i : ℕ) (ys : List Message) (waiting : List WaitingMessage) → IsUnsent owed xs i ys waiting → drop i owed ≡ [] → IsLeft owed xs waiting
unsent_all owed xs i ys waiting is end =
    let nothing : ys ≡ [] = subst (AreAmong ys) end is.among in
    let last : IsLeft (drop i owed) ys [] = subst (λ (p : List WaitingMessage × List Message). IsLeft p.0 p.1 []) (λ j. (sym end j, sym nothing j)) none in
    subst (IsLeft owed xs) (append-nil waiting) (is.on [] last)

-- ---- what a path owes, one after another

module _ {X Y : Type 0} (f : ℕ × X → Y) (xs : List X) (i : ℕ) where
  pub told_more : (x : X) → i < length xs → x ≡ get_or xs i x → map f (take (i + 1) (enumerate_from 0 xs)) ≡ map f (take i (enumerate_from 0 xs)) ++ f (i, x) ∷ []
  told_more x less is =
      let ps = enumerate_from 0 xs in
      let within : i < length ps = omega (arith, length-enumerate_from 0 xs) in
      let at : get_or ps i (i, x) ≡ (i, x) = get_or-enumerate_from 0 xs i (i, x) less ∙ (λ k. (zero-add i k, sym is k)) in
      ap (map f) (take_more ps i (i, x) within) ∙ map-append f (take i ps) (get_or ps i (i, x) ∷ []) ∙ ap (λ (k : ℕ × X). map f (take i ps) ++ f k ∷ []) at

  pub told_all : length xs ≤ i → map f (take i (enumerate_from 0 xs)) ≡ map f (enumerate_from 0 xs)
  told_all past = ap (map f) (take_all i (enumerate_from 0 xs) (omega (arith, length-enumerate_from 0 xs)))
