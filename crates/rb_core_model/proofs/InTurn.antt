-- The receives of an ORDERED path come in turn.
use Rattle.std.proofs.Common.{◌≡◌, ℕ, zero, suc, ◌+◌, ◌<◌, Bool, true, false, cond, eqb, ◌&&◌, List, [], ◌∷◌, ◌++◌, map, length, Option, Some, None, refl, sym, ap, ◌∙◌, subst, arith}
use Rattle.std.specs.List.{slice_get, filter, filter_map, flat_map, cons_option, enumerate_from, range_with_len, AllByRecursion}
use Rattle.std.specs.Option.{option_map, option_map_or}
use Rattle.std.proofs.lemmas.Bool.{ne_eqb, eq-eqb}
use Rattle.std.proofs.lemmas.Option.{none-some, same_Some}
use Rattle.std.proofs.lemmas.List.{map-append, length-map}
use Rattle.std.proofs.lemmas.List.Elements.{filter-append}
use Rattle.rb_scan.specs.Going.{can_go}
use Rattle.rb_scan.specs.Laws.{ReadyReceivesAreConsecutive, GoingReceivesAreConsecutive}
use Rattle.rb_scan.specs.Owed.{messages, owed_part, ready, same_kind, next_sequence}
use Rattle.rb_scan.specs.Path.{Path}
use Rattle.rb_scan.specs.declared.message.Kind.{Kind}
use Rattle.rb_scan.specs.declared.message.Kind.TheVariants.{Receive, Acknowledge, Timeout}
use Rattle.rb_scan.specs.declared.message.PacketMsg.{PacketMsg}
use Rattle.rb_scan.specs.declared.path.Order.{Order}
use Rattle.rb_scan.specs.declared.path.Order.TheVariants.{Ordered}
use Rattle.rb_base.specs.declared.gate.Part.{Part}
use Rattle.rb_base.specs.declared.gate.Part.TheVariants.{Packets, Channel}
use Rattle.rb_core_model.specs.Batches.{is_receive_on, receives_on, AreInTurn}
use Rattle.rb_core_model.specs.Config.{part_for}
use Rattle.rb_core_model.specs.Standing.{PathState, Standing, view_of_path, path_view, owed_at, path_task, path_tasks}
use Rattle.rb_script_types.specs.Gas.{PathGas}
use Rattle.rb_script_types.specs.declared.config.RefreshTo.{RefreshTo}
use Rattle.rb_script_types.specs.declared.config.RefreshTo.TheVariants.{Lowest, Highest, Newer}
use Rattle.rb_script_types.specs.declared.waits.Waits.{Waits}
use Rattle.rb_plan_client.specs.Task.{Task, PathTask, Message, message_on, bars_of, going_by, going_on, ready_on}
use Rattle.rb_core_model.proofs.Owed.{append_all, kinds_owed, ready_all, going_by_all, going_all}
use Rattle.rb_core_model.proofs.Options.{mapped}

-- ---- the receives among the messages of one path

receives-append : (path : ℕ) (ms ns : List Message) → receives_on path (ms ++ ns) ≡ receives_on path ms ++ receives_on path ns
receives-append path ms ns =
    ap (map (λ (m : Message). m.packet.sequence)) (filter-append (is_receive_on path) ms ns)
    ∙ map-append (λ (m : Message). m.packet.sequence) (filter (is_receive_on path) ms) (filter (is_receive_on path) ns)

elsewhere : (t : PathTask) (path : ℕ) → (t.path ≡ path → ⊥) → (ms : List PacketMsg) → receives_on path (map (message_on t) ms) ≡ []
elsewhere t path other [] = refl
elsewhere t path other (m ∷ ms) =
    ap (λ b. map (λ (x : Message). x.packet.sequence) (cond (b && same_kind m.kind Receive) (message_on t m ∷ filter (is_receive_on path) (map (message_on t) ms)) (filter (is_receive_on path) (map (message_on t) ms)))) (ne_eqb t.path path other)
    ∙ elsewhere t path other ms

all_receives : (t : PathTask) (ms : List PacketMsg) → AllByRecursion (λ (m : PacketMsg). m.kind ≡ Receive) ms → receives_on t.path (map (message_on t) ms) ≡ map (λ (m : PacketMsg). m.sequence) ms
all_receives t [] all = refl
all_receives t (m ∷ ms) all =
    let rest = filter (is_receive_on t.path) (map (message_on t) ms) in
    ap (λ (p : Bool × Kind). map (λ (x : Message). x.packet.sequence) (cond (p.0 && same_kind p.1 Receive) (message_on t m ∷ rest) rest)) (λ i. (eq-eqb t.path t.path refl i, all.0 i))
    ∙ ap (λ ns. m.sequence ∷ ns) (all_receives t ms all.1)

no_receives : (t : PathTask) (path : ℕ) (ms : List PacketMsg) → AllByRecursion (λ (m : PacketMsg). same_kind m.kind Receive ≡ false) ms → receives_on path (map (message_on t) ms) ≡ []
no_receives t path [] all = refl
no_receives t path (m ∷ ms) all =
    let rest = filter (is_receive_on path) (map (message_on t) ms) in
    ap (λ b. map (λ (x : Message). x.packet.sequence) (cond (eqb t.path path && b) (message_on t m ∷ rest) rest)) all.0
    ∙ left (eqb t.path path) ∙ no_receives t path ms all.1
  where
    left : (b : Bool) → map (λ (x : Message). x.packet.sequence) (cond (b && false) (message_on t m ∷ filter (is_receive_on path) (map (message_on t) ms)) (filter (is_receive_on path) (map (message_on t) ms))) ≡ receives_on path (map (message_on t) ms)
    left true = refl
    left false = refl

-- ---- among the messages of all paths

given : Task → Option ℕ → Option PathTask → List Message
given u reach None = []
given u reach (Some t) = ready_on u reach t

given-cons : (u : Task) (reach : Option ℕ) (o : Option PathTask) (ts : List PathTask) → flat_map (ready_on u reach) (cons_option o ts) ≡ given u reach o ++ flat_map (ready_on u reach) ts
unfolding given
given-cons u reach None ts = refl
given-cons u reach (Some t) ts = refl

module _ (owed : ℕ → Part → List PacketMsg) (client : ℕ) (u : Task) (reach : Option ℕ) where
  all_from : ℕ → List PathState → List Message
  all_from n paths = flat_map (ready_on u reach) (filter_map (path_task owed client) (enumerate_from n paths))

  one_at : ℕ → PathState → List Message
  one_at n p = given u reach (path_task owed client (n, p))

  first_of : (n path : ℕ) (p : PathState) (paths : List PathState) → receives_on path (all_from n (p ∷ paths)) ≡ receives_on path (one_at n p) ++ receives_on path (all_from (n + 1) paths)
  unfolding all_from one_at
  first_of n path p paths =
      ap (receives_on path) (given-cons u reach (path_task owed client (n, p)) (filter_map (path_task owed client) (enumerate_from (n + 1) paths)))
      ∙ receives-append path (given u reach (path_task owed client (n, p))) (flat_map (ready_on u reach) (filter_map (path_task owed client) (enumerate_from (n + 1) paths)))

  not_there : (n path : ℕ) (p : PathState) → (n ≡ path → ⊥) → receives_on path (one_at n p) ≡ []
  unfolding one_at given
  not_there n path p other = go (part_for p.config client)
    where
      go : (o : Option Part) → receives_on path (given u reach (option_map (λ part. record { path = n; order = p.config.order; gas = p.config.gas; waits = p.config.waits; owed = owed n part }) o)) ≡ []
      go None = refl
      go (Some part) =
          let t : PathTask = record { path = n; order = p.config.order; gas = p.config.gas; waits = p.config.waits; owed = owed n part } in
          elsewhere t path other (ready (going_on u t) p.config.order reach)

  later : (n path : ℕ) (paths : List PathState) → path < n → receives_on path (all_from n paths) ≡ []
  unfolding all_from
  later n path [] lt = refl
  later n path (p ∷ paths) lt =
      first_of n path p paths ∙ ap (λ ss. ss ++ receives_on path (all_from (n + 1) paths)) (not_there n path p (λ e. omega arith)) ∙ later (n + 1) path paths (omega arith)

  append-nothing : (xs ys : List ℕ) → ys ≡ [] → xs ++ ys ≡ xs
  append-nothing [] ys e = e
  append-nothing (x ∷ xs) ys e = ap (λ zs. x ∷ zs) (append-nothing xs ys e)

  at_place : (n k path : ℕ) (paths : List PathState) (p : PathState) → n + k ≡ path → slice_get paths k ≡ Some p → receives_on path (all_from n paths) ≡ receives_on path (one_at path p)
  at_place n k path [] p place e = absurd (none-some p e)
  at_place n zero path (q ∷ paths) p place e =
      let here : n ≡ path = omega arith in
      first_of n path q paths ∙ append-nothing (receives_on path (one_at n q)) (receives_on path (all_from (n + 1) paths)) (later (n + 1) path paths (omega arith))
      ∙ ap (λ (x : ℕ × PathState). receives_on path (one_at x.0 x.1)) (λ i. (here i, same_Some q p e i))
  at_place n (suc k) path (q ∷ paths) p place e =
      first_of n path q paths ∙ ap (λ ss. ss ++ receives_on path (all_from (n + 1) paths)) (not_there n path q (λ same. omega arith))
      ∙ at_place (n + 1) k path paths p (omega arith) e

-- ---- in turn

in_turn_from : (v : Path) (ss : List ℕ) → ss ≡ [] → AreInTurn v ss
in_turn_from v [] e = refl
in_turn_from v (s ∷ ss) e = absurd (cc)

acknowledges : (ms : List PacketMsg) → AllByRecursion (λ (m : PacketMsg). m.kind ≡ Acknowledge) ms → AllByRecursion (λ (m : PacketMsg). same_kind m.kind Receive ≡ false) ms
acknowledges [] all = tt
acknowledges (m ∷ ms) all = (ap (λ k. same_kind k Receive) all.0, acknowledges ms all.1)

timeouts : (ms : List PacketMsg) → AllByRecursion (λ (m : PacketMsg). m.kind ≡ Timeout) ms → AllByRecursion (λ (m : PacketMsg). same_kind m.kind Receive ≡ false) ms
timeouts [] all = tt
timeouts (m ∷ ms) all = (ap (λ k. same_kind k Receive) all.0, timeouts ms all.1)

module _ (v : Path) (ordered : v.order ≡ Ordered) (u : Task) (path : ℕ) (gas : PathGas) (waits : Waits) where
  abbrev receiving : PathTask
  receiving = record { path = path; order = Ordered; gas = gas; waits = waits; owed = messages v Receive }

  consecutive_in_turn : (ms : List PacketMsg) → AllByRecursion (λ (m : PacketMsg). m.kind ≡ Receive) ms → map (λ (m : PacketMsg). m.sequence) ms ≡ range_with_len (next_sequence v Receive) (length ms)
      → AreInTurn v (receives_on path (map (message_on receiving) ms))
  consecutive_in_turn ms kinds e =
      subst (AreInTurn v) (sym (all_receives receiving ms kinds)) (e ∙ ap (range_with_len (next_sequence v Receive)) (sym (length-map ms (λ (m : PacketMsg). m.sequence))))

  all_receive : (to : RefreshTo) (reach : ℕ) → AllByRecursion (λ (m : PacketMsg). m.kind ≡ Receive) (ready (going_by u receiving to) Ordered (Some reach))
  all_receive to reach = ready_all (λ m. m.kind ≡ Receive) (going_by u receiving to) Ordered (Some reach) (going_by_all (λ m. m.kind ≡ Receive) u receiving to (kinds_owed v Receive ordered))

  receives_in_turn : ReadyReceivesAreConsecutive → GoingReceivesAreConsecutive → (to : RefreshTo) (reach : Option ℕ)
      → AreInTurn v (receives_on path (map (message_on receiving) (ready (going_by u receiving to) Ordered reach)))
  receives_in_turn law going_too to None = refl
  receives_in_turn law going_too Lowest (Some reach) = consecutive_in_turn _ (all_receive Lowest reach) (law v reach ordered)
  receives_in_turn law going_too Highest (Some reach) = consecutive_in_turn _ (all_receive Highest reach) (law v reach ordered)
  receives_in_turn law going_too Newer (Some reach) = consecutive_in_turn _ (all_receive Newer reach) (going_too v (can_go (bars_of u receiving)) reach ordered)

  abbrev answering : Order → PathTask
  answering order = record { path = path; order = order; gas = gas; waits = waits; owed = owed_part v Channel }

  channel_in_turn : (order : Order) (reach : Option ℕ) → AreInTurn v (receives_on path (ready_on u reach (answering order)))
  channel_in_turn order reach = in_turn_from v _ (no_receives (answering order) path (ready (going_on u (answering order)) order reach)
      (ready_all (λ m. same_kind m.kind Receive ≡ false) (going_on u (answering order)) order reach (going_all (λ m. same_kind m.kind Receive ≡ false) u (answering order)
      (append_all (λ m. same_kind m.kind Receive ≡ false) (messages v Acknowledge) (messages v Timeout)
      (acknowledges (messages v Acknowledge) (kinds_owed v Acknowledge ordered)) (timeouts (messages v Timeout) (kinds_owed v Timeout ordered))))))

pub in_turn : ReadyReceivesAreConsecutive → GoingReceivesAreConsecutive → (s : Standing) (client path : ℕ) (u : Task) (reach : Option ℕ) (v : Path) → path_view s path ≡ Some v → v.order ≡ Ordered
    → AreInTurn v (receives_on path (flat_map (ready_on u reach) (path_tasks (owed_at s) s.paths client)))
unfolding all_from one_at given
in_turn law going_too s client path u reach v is ordered =
    let found = mapped (view_of_path s.books) (slice_get s.paths path) v is in
    let p : PathState = found.0 in
    let order : p.config.order ≡ Ordered = ap (λ (x : Path). x.order) found.2 ∙ ordered in
    subst (AreInTurn v) (sym (at_place (owed_at s) client u reach 0 path path s.paths p (omega arith) found.1)) (go p order (part_for p.config client))
  where
    go : (p : PathState) → p.config.order ≡ Ordered → (o : Option Part)
        → AreInTurn v (receives_on path (given u reach (option_map (λ part. record { path = path; order = p.config.order; gas = p.config.gas; waits = p.config.waits; owed = owed_at s path part }) o)))
    go p order None = refl
    go p order (Some Packets) =
        subst (λ (x : Order × Option Path). AreInTurn v (receives_on path (ready_on u reach (record { path = path; order = x.0; gas = p.config.gas; waits = p.config.waits; owed = option_map_or (λ w. owed_part w Packets) x.1 [] }))))
        (λ i. (sym order i, sym is i)) (receives_in_turn v ordered u path p.config.gas p.config.waits law going_too u.config.refresh_to reach)
    go p order (Some Channel) =
        subst (λ (x : Option Path). AreInTurn v (receives_on path (ready_on u reach (record { path = path; order = p.config.order; gas = p.config.gas; waits = p.config.waits; owed = option_map_or (λ w. owed_part w Channel) x [] }))))
        (sym is) (channel_in_turn v ordered u path p.config.gas p.config.waits p.config.order reach)
