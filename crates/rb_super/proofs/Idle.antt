-- Of a client that a turn reports as idle, the moment that is told is the first at which it has a goal.
use Rattle.std.proofs.Common.{◌≡◌, ℕ, suc, ◌+◌, ◌≤◌, Bool, true, false, List, [], ◌∷◌, length, Option, Some, None, IfSome, IsSomeAnd, is_some, refl, sym, ap, ◌∙◌, subst, arith, add-zero, if◌then◌else◌}
use Rattle.std.specs.List.{All, AllByRecursion, cons_option, enumerate_from, filter_map, slice_get}
use Rattle.std.specs.Option.{option_map, option_map_or}
use Rattle.std.proofs.lemmas.List.Elements.{All-from_recursion, recursion_from_All}
use Rattle.rb_base.specs.declared.gate.Part.{Part}
use Rattle.rb_base.specs.declared.gate.Part.TheVariants.{Packets, Channel}
use Rattle.rb_book.specs.Laws.{StaysABook}
use Rattle.rb_scan.specs.Owed.{expires_for, since_for, timeout_for, floor_of, message_of, messages, owed_part}
use Rattle.rb_scan.specs.Packet.{Packet}
use Rattle.rb_scan.specs.Path.{Path}
use Rattle.rb_scan.specs.declared.message.Kind.{Kind}
use Rattle.rb_scan.specs.declared.message.Kind.TheVariants.{Receive, Acknowledge, Timeout}
use Rattle.rb_scan.specs.declared.message.PacketMsg.{PacketMsg}
use Rattle.rb_step.specs.View.{IsView, client_of}
use Rattle.rb_plan_client.specs.Task.{PathTask, view_of, goal_of}
use Rattle.rb_core_model.specs.Config.{part_for}
use Rattle.rb_core_model.specs.Standing.{PathState, Standing, opening_standing, owed_at, path_task, path_tasks, view_of_path}
use Rattle.rb_core_model.proofs.Marks.{AllFound, all_at}
use Rattle.rb_core_model.proofs.Options.{mapped}
use Rattle.rb_core_model.proofs.Owed.{IsFound, append_all, owed_all}
use Rattle.rb_super_turn.specs.Script.{IsTurn}
use Rattle.rb_super_turn.specs.Turns.{IsOutcome}
use Rattle.rb_super.specs.Laws.{PlannedViewsAreViews}
use Rattle.rb_super.specs.Fewest.{ClientTurn}
use Rattle.rb_super.specs.Next.{IsTimely, AreTimely, NextIsNext, IdleUntilNext}
use Rattle.rb_super.proofs.Fewest.{new_found}
use Rattle.rb_super.proofs.InTime.{outcome_of}
use Rattle.rb_super.proofs.Later.{empty_books}
use Rattle.rb_super.proofs.Members.{all_in, from_get}
use Rattle.rb_super.proofs.Owing.{if_some}
use Rattle.rb_super.proofs.Records.{one_reach}
use Rattle.rb_super.proofs.Spent.{AreFound}
use Rattle.rb_super.proofs.Steady.{one_of_turns}
use Rattle.rb_super.proofs.PlannedViews.{turning, are_views}

-- ---- what is owed

owed_is_timely : (kind : Kind) (q : Packet) → IfSome (timeout_for kind q) (λ time. (kind ≡ Receive) × IsSomeAnd (expires_for kind q) (λ moment. moment ≤ time))
owed_is_timely Receive q = go (is_some q.timeout_height) q.timeout_time
  where
    go : (b : Bool) (o : Option ℕ) → IfSome o (λ time. (Receive ≡ Receive) × IsSomeAnd (if b then Some 0 else o) (λ moment. moment ≤ time))
    go b None = tt
    go true (Some time) = (refl, omega arith)
    go false (Some time) = (refl, omega arith)
owed_is_timely Acknowledge q = tt
owed_is_timely Timeout q = tt

timely : (records : List (ℕ × ℕ)) (kind : Kind) (q : Packet) (m : PacketMsg) → message_of records kind q ≡ Some m → IsTimely m
timely records kind q m e =
    let is = mapped (λ (floor : ℕ). record { kind = kind; sequence = q.sequence; floor = floor; expires = expires_for kind q; since = since_for kind q; timeout = timeout_for kind q }) (floor_of records kind q) m e in
    subst IsTimely is.2 (owed_is_timely kind q)

timely_kind : (v : Path) → AllByRecursion (IsFound v.packets) v.packets → (kind : Kind) → AllByRecursion IsTimely (messages v kind)
timely_kind v all kind = owed_all IsTimely v kind (λ q found. if_some IsTimely (message_of v.destination kind q) (timely v.destination kind q)) (λ _. all)

timely_part : (v : Path) → AllByRecursion (IsFound v.packets) v.packets → (part : Part) → AllByRecursion IsTimely (owed_part v part)
timely_part v all Packets = timely_kind v all Receive
timely_part v all Channel = append_all IsTimely (messages v Acknowledge) (messages v Timeout) (timely_kind v all Acknowledge) (timely_kind v all Timeout)

-- ---- of a client's paths

module _ (s : Standing) (found : AreFound s) (client : ℕ) where
  timely_at : (n : ℕ) (p : PathState) (part : Part) → slice_get s.paths n ≡ Some p → AllByRecursion IsTimely (owed_at s n part)
  timely_at n p part at =
      subst (λ o. AllByRecursion IsTimely (option_map_or (λ v. owed_part v part) (option_map (view_of_path s.books) o) [])) (sym at)
      (timely_part (view_of_path s.books p) (all_at AllFound s.paths n p found at) part)

  one_timely : (n : ℕ) (p : PathState) → slice_get s.paths n ≡ Some p → (o : Option Part) → (rest : List PathTask) → AllByRecursion (λ (x : PathTask). All IsTimely x.owed) rest
      → AllByRecursion (λ (x : PathTask). All IsTimely x.owed) (cons_option (option_map (λ part. record { path = n; order = p.config.order; gas = p.config.gas; waits = p.config.waits; owed = owed_at s n part }) o) rest)
  one_timely n p at None rest all = all
  one_timely n p at (Some part) rest all = (All-from_recursion IsTimely (owed_at s n part) (timely_at n p part at), all)

  all_timely : (n : ℕ) (rest : List PathState) → ((k : ℕ) (p : PathState) → slice_get rest k ≡ Some p → slice_get s.paths (n + k) ≡ Some p)
      → AllByRecursion (λ (x : PathTask). All IsTimely x.owed) (filter_map (path_task (owed_at s) client) (enumerate_from n rest))
  all_timely n [] places = tt
  all_timely n (p ∷ rest) places =
      one_timely n p (ap (slice_get s.paths) (sym (add-zero n)) ∙ places 0 p refl) (part_for p.config client) (filter_map (path_task (owed_at s) client) (enumerate_from (n + 1) rest))
      (all_timely (n + 1) rest (λ k q e. let next : (n + 1) + k ≡ n + suc k = omega arith in ap (slice_get s.paths) next ∙ places (suc k) q e))

  are_timely : All (λ (x : PathTask). All IsTimely x.owed) (path_tasks (owed_at s) s.paths client)
  are_timely =
      All-from_recursion (λ (x : PathTask). All IsTimely x.owed) (path_tasks (owed_at s) s.paths client)
      (all_timely 0 s.paths (λ k p e. let same : 0 + k ≡ k = omega arith in ap (slice_get s.paths) same ∙ e))

-- ---- the law

pub idle_until_next : StaysABook → PlannedViewsAreViews → NextIsNext → IdleUntilNext
idle_until_next stays views law script report place turn ks k next window is at outcome when =
    let opening = opening_standing script.config in
    let one = one_of_turns stays script.config place script.turns report ks opening (recursion_from_All (IsTurn script.config) script.turns is.is_script.turns) is.turns
    (new_found script.config.paths) (empty_books script.config.limit (length script.config.chains) is.is_script.config.rules.limit) turn k at in
    let this = turning place script.turns report ks opening is.turns turn k at in
    let right = subst (IsOutcome k.task k.client) outcome (outcome_of this.begun this.this this.report place k.client k.report k.task k.reach this.planned) in
    let view = all_in (λ (x : ClientTurn). IsView (view_of x.task)) ks k (are_views views script report place ks is) (from_get ks turn k at) in
    let timely_paths : AreTimely k.task = subst (λ ps. All (λ (x : PathTask). All IsTimely x.owed) ps) (sym one.stands.tasks) (are_timely one.standing one.stands.found place) in
    let same = one_reach (client_of (view_of k.task)) right.1.reach k.reach right.1.is_reach this.planned.is_reach in
    law k.task k.reach next window view timely_paths this.planned.is_reach (ap (goal_of k.task) (sym same) ∙ right.1.goal) right.2 when
