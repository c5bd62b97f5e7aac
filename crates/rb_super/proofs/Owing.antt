-- What is owed to a client isn't settled.
use Rattle.std.proofs.Common.{◌≡◌, ℕ, suc, ◌+◌, false, List, [], ◌∷◌, map, Option, Some, None, IfSome, refl, sym, ap, ◌∙◌, subst, inl, inr, arith, add-zero, not, ◌&&◌}
use Rattle.std.specs.List.{slice_get, filter_map, flat_map, cons_option, enumerate_from, AllByRecursion}
use Rattle.std.specs.Option.{option_map, option_map_or, option_and_then}
use Rattle.std.proofs.lemmas.Bool.{cases_Bool}
use Rattle.std.proofs.lemmas.Option.{none-some}
use Rattle.rb_base.specs.declared.gate.Part.{Part}
use Rattle.rb_base.specs.declared.gate.Part.TheVariants.{Packets, Channel}
use Rattle.rb_scan.specs.Laws.{SettledIsNotOwed}
use Rattle.rb_scan.specs.Owed.{expires_for, since_for, timeout_for, floor_of, message_of, messages, owed_part, is_ready, is_near, ready_beyond}
use Rattle.rb_scan.specs.Packet.{Packet}
use Rattle.rb_scan.specs.Path.{Path}
use Rattle.rb_scan.specs.declared.message.Kind.{Kind}
use Rattle.rb_scan.specs.declared.message.Kind.TheVariants.{Receive, Acknowledge, Timeout}
use Rattle.rb_scan.specs.declared.message.PacketMsg.{PacketMsg}
use Rattle.rb_scan.specs.declared.path.Order.{Order}
use Rattle.rb_core_model.specs.Config.{part_for}
use Rattle.rb_core_model.specs.Standing.{PathState, Standing, view_of_path, owed_at, path_task, path_tasks}
use Rattle.rb_plan_client.specs.Task.{going_on, Task, PathTask, Message, message_on, ready_on}
use Rattle.rb_core_model.proofs.Marks.{all_at, all_weaker, part_of, is_settled, mark_in, mark_at, AllFound}
use Rattle.rb_core_model.proofs.Options.{mapped}
use Rattle.rb_core_model.proofs.Owed.{IsFound, append_all, owed_all, kept_all, ready_all, going_all}

not_settled : SettledIsNotOwed → (records : List (ℕ × ℕ)) (kind : Kind) (q : Packet) (m : PacketMsg) → message_of records kind q ≡ Some m → is_settled (part_of kind) q ≡ false
not_settled law records Receive q m e = elim (cases_Bool q.receive_settled) [ inl settled ↦ absurd (none-some m (sym ((law records q).0 settled).0 ∙ e)) | inr not_yet ↦ not_yet ]
not_settled law records Acknowledge q m e = elim (cases_Bool q.outcome_settled) [ inl settled ↦ absurd (none-some m (sym ((law records q).1 settled Acknowledge) ∙ e)) | inr not_yet ↦ not_yet ]
not_settled law records Timeout q m e = elim (cases_Bool q.outcome_settled) [ inl settled ↦ absurd (none-some m (sym ((law records q).1 settled Timeout) ∙ e)) | inr not_yet ↦ not_yet ]

pub named_by : (records : List (ℕ × ℕ)) (kind : Kind) (q : Packet) (m : PacketMsg) → message_of records kind q ≡ Some m → (m.kind ≡ kind) × (m.sequence ≡ q.sequence)
named_by records kind q m e =
    let is = mapped (λ (floor : ℕ). record { kind = kind; sequence = q.sequence; floor = floor; expires = expires_for kind q; since = since_for kind q; timeout = timeout_for kind q }) (floor_of records kind q) m e in
    (sym (ap (λ (x : PacketMsg). x.kind) is.2), sym (ap (λ (x : PacketMsg). x.sequence) is.2))

pub if_some : {X : Type 0} (P : X → Type 0) (o : Option X) → ((x : X) → o ≡ Some x → P x) → IfSome o P
if_some P None f = tt
if_some P (Some x) f = f x refl

-- a message that a part owes is of that part, and its packet is there and not settled
abbrev IsOpen : List Packet → Part → PacketMsg → Type 0
IsOpen ps part m = (part_of m.kind ≡ part) × (mark_in ps part m.sequence ≡ Some false)

module _ (law : SettledIsNotOwed) (v : Path) (all : AllByRecursion (IsFound v.packets) v.packets) where
  open_kind : (kind : Kind) → AllByRecursion (IsOpen v.packets (part_of kind)) (messages v kind)
  open_kind kind = owed_all (IsOpen v.packets (part_of kind)) v kind (λ q found. if_some (IsOpen v.packets (part_of kind)) (message_of v.destination kind q) (λ m e.
      let is = named_by v.destination kind q m e in (
        ap part_of is.0,
        ap (λ s. mark_in v.packets (part_of kind) s) is.1 ∙ ap (option_map (is_settled (part_of kind))) found ∙ ap (λ b. Some b) (not_settled law v.destination kind q m e),
      ))) (λ _. all)

  open_part : (part : Part) → AllByRecursion (IsOpen v.packets part) (owed_part v part)
  open_part Packets = open_kind Receive
  open_part Channel = append_all (IsOpen v.packets Channel) (messages v Acknowledge) (messages v Timeout) (open_kind Acknowledge) (open_kind Timeout)

-- ---- of a client's paths

-- the message of the path at a place isn't settled
abbrev pub IsOwing : List PathState → ℕ → PacketMsg → Type 0
IsOwing ps path m = mark_at ps path (part_of m.kind) m.sequence ≡ Some false

abbrev pub AreOwing : List PathState → PathTask → Type 0
AreOwing ps p = AllByRecursion (IsOwing ps p.path) p.owed

module _ (law : SettledIsNotOwed) (s : Standing) (found : AllByRecursion AllFound s.paths) (client : ℕ) where
  owing_at : (n : ℕ) (p : PathState) (part : Part) → slice_get s.paths n ≡ Some p → AllByRecursion (IsOwing s.paths n) (owed_at s n part)
  owing_at n p part at =
      all_weaker (IsOpen p.packets part) (IsOwing s.paths n)
      (λ m is. ap (λ x. mark_at s.paths n x m.sequence) is.0 ∙ ap (option_and_then (λ (q : PathState). mark_in q.packets part m.sequence)) at ∙ is.1)
      (owed_at s n part)
      (subst (λ o. AllByRecursion (IsOpen p.packets part) (option_map_or (λ v. owed_part v part) (option_map (view_of_path s.books) o) [])) (sym at)
      (open_part law (view_of_path s.books p) (all_at AllFound s.paths n p found at) part))

  one_owing : (n : ℕ) (p : PathState) → slice_get s.paths n ≡ Some p → (o : Option Part) → (rest : List PathTask) → AllByRecursion (AreOwing s.paths) rest
      → AllByRecursion (AreOwing s.paths) (cons_option (option_map (λ part. record { path = n; order = p.config.order; gas = p.config.gas; waits = p.config.waits; owed = owed_at s n part }) o) rest)
  one_owing n p at None rest all = all
  one_owing n p at (Some part) rest all = (owing_at n p part at, all)

  all_owing : (n : ℕ) (rest : List PathState) → ((k : ℕ) (p : PathState) → slice_get rest k ≡ Some p → slice_get s.paths (n + k) ≡ Some p)
      → AllByRecursion (AreOwing s.paths) (filter_map (path_task (owed_at s) client) (enumerate_from n rest))
  all_owing n [] places = tt
  all_owing n (p ∷ rest) places =
      one_owing n p (ap (slice_get s.paths) (sym (add-zero n)) ∙ places 0 p refl) (part_for p.config client) (filter_map (path_task (owed_at s) client) (enumerate_from (n + 1) rest))
      (all_owing (n + 1) rest (λ k q e. let next : (n + 1) + k ≡ n + suc k = omega arith in ap (slice_get s.paths) next ∙ places (suc k) q e))

  pub owing : AllByRecursion (AreOwing s.paths) (path_tasks (owed_at s) s.paths client)
  owing = all_owing 0 s.paths (λ k p e. let same : 0 + k ≡ k = omega arith in ap (slice_get s.paths) same ∙ e)

-- ---- what is ready was owed

pub far_all : (P : PacketMsg → Type 0) (ms : List PacketMsg) (order : Order) (near reach : Option ℕ) → AllByRecursion P ms → AllByRecursion P (ready_beyond ms order near reach)
far_all P ms order near None all = tt
far_all P ms order near (Some reach) all = kept_all P (λ (p : ℕ × PacketMsg). is_ready order reach ms p.0 p.1 && not (is_near order near ms p.0 p.1)) 0 ms all

-- so no message that goes is settled
on_path : (ps : List PathState) (p : PathTask) (ms : List PacketMsg) → AllByRecursion (IsOwing ps p.path) ms → AllByRecursion (λ (m : Message). IsOwing ps m.path m.packet) (map (message_on p) ms)
on_path ps p [] all = tt
on_path ps p (m ∷ ms) all = (all.0, on_path ps p ms all.1)

pub going : (t : Task) (ps : List PathState) (reach : Option ℕ) (tasks : List PathTask) → AllByRecursion (AreOwing ps) tasks
    → AllByRecursion (λ (m : Message). IsOwing ps m.path m.packet) (flat_map (ready_on t reach) tasks)
going t ps reach [] all = tt
going t ps reach (p ∷ tasks) all =
    append_all (λ (m : Message). IsOwing ps m.path m.packet) (ready_on t reach p) (flat_map (ready_on t reach) tasks)
    (on_path ps p _ (ready_all (IsOwing ps p.path) (going_on t p) p.order reach (going_all (IsOwing ps p.path) t p all.0))) (going t ps reach tasks all.1)
