-- A turn has at most one report.
use Rattle.std.proofs.Common.{◌≡◌, ℕ, ◌+◌, ◌-◌, ◌<◌, ◌≤◌, Bool, true, false, List, [], ◌∷◌, ◌++◌, Option, Some, None, All, MatchOption, length, map, drop, get_or, refl, sym, ap, ◌∙◌, subst, inl, inr, arith}
use Rattle.std.specs.List.{AllZip, enumerate_from}
use Rattle.std.specs.Option.{option_map}
use Rattle.std.proofs.lemmas.Bool.{cases_lt}
use Rattle.std.proofs.lemmas.List.{get_or-take, get_or-drop, length-take, length-drop, length-append, length-map}
use Rattle.std.proofs.lemmas.List.Sums.{get_or-le-sum_by}
use Rattle.std.proofs.lemmas.List.Elements.{All-head, All-tail}
use Rattle.std.proofs.lemmas.Option.{none-some, same_Some}
use Rattle.rb_batch.specs.Cut.{FollowOn, IsTransaction, IsDivision, IsFirstTooBig, run_of}
use Rattle.rb_batch.specs.Laws.{LeastCutIsOne, CutApartIsDivision, CutApartIsOne}
use Rattle.rb_batch.specs.Limits.{TransactionLimits, IsTooBig}
use Rattle.rb_batch.specs.declared.transaction.Transaction.{Transaction}
use Rattle.rb_script_types.specs.declared.goal.Goal.{Goal}
use Rattle.rb_plan_types.specs.Labelling.{label_of}
use Rattle.rb_plan_types.specs.Laws.{AnswersAreOne}
use Rattle.rb_plan_types.specs.Least.{IsUnreachable}
use Rattle.rb_plan_types.specs.ProofHeight.{IsProofHeight}
use Rattle.rb_step.specs.LightClient.{Update, Client}
use Rattle.rb_step.specs.View.{client_of}
use Rattle.rb_plan_client.specs.Draft.{Batch, Sending, nothing, too_big, batched, Plan, Planned as Answer, IsCut, IsBatch, IsSending, IsPlan, IsPlanned, IsIdle, planned_updates}
use Rattle.rb_plan_client.specs.Reach.{IsReach}
use Rattle.rb_core_model.specs.Standing.{OpenBatch, ClientState, Standing, task_in}
use Rattle.rb_plan_client.specs.Next.{IsNext}
use Rattle.rb_plan_client.specs.Task.{Task, Message, view_of, next_moment, goal_of, messages_of, is_apart, gas_of, gases}
use Rattle.rb_super_turn.specs.Report.{Outcome, held, idle, planned, ClientReport, TurnReport}
use Rattle.rb_super_turn.specs.Script.{Turn}
use Rattle.rb_super_turn.specs.Turns.{told_too_big, reported, IsOutcome, IsClientReport, before_plans, after_plans, reports_of_all, IsTurnReport}
use Rattle.rb_super_turn.proofs.OneLabelling.{one_labelling}

-- ---- no message of a division is too big alone

in_run : (limits : TransactionLimits) (messages : List ℕ) (t : Transaction) (i k : ℕ) → t.first + k ≡ i → IsTransaction limits messages t → k < t.count → i < length messages
    → IsTooBig limits (get_or messages i 0) → ⊥
in_run limits messages t i k e is few within big =
    let lt : k < length (run_of messages t) = omega (arith, length-take t.count (drop t.first messages), length-drop t.first messages) in
    let part = get_or-le-sum_by (λ (x : ℕ). x) (run_of messages t) k 0 lt in
    let same : get_or (run_of messages t) k 0 ≡ get_or messages i 0 =
    get_or-take t.count (drop t.first messages) k 0 few ∙ get_or-drop t.first messages k 0 ∙ ap (λ n. get_or messages n 0) e in
    omega (arith, part, same, is.gas, is.light, big)

in_division : (limits : TransactionLimits) (messages : List ℕ) (first : ℕ) (ts : List Transaction) (i : ℕ) → FollowOn first ts (length messages) → All (IsTransaction limits messages) ts
    → first ≤ i → i < length messages → IsTooBig limits (get_or messages i 0) → ⊥
in_division limits messages first [] i follow all from within big = omega (arith, follow)
in_division limits messages first (t ∷ ts) i follow all from within big = elim (cases_lt i (first + t.count)) [
  | inl here ↦ in_run limits messages t i (i - t.first) (omega (arith, follow.0)) (All-head (IsTransaction limits messages) t ts all) (omega (arith, follow.0)) within big
  | inr later ↦ in_division limits messages (first + t.count) ts i follow.1 (All-tail (IsTransaction limits messages) t ts all) later within big
]

cut_or_too_big : (limits : TransactionLimits) (messages : List ℕ) (ts : List Transaction) (index : ℕ) → IsDivision limits messages ts → IsFirstTooBig limits messages index → ⊥
cut_or_too_big limits messages ts index division big =
    in_division limits messages 0 ts index division.whole division.transactions (omega arith) big.place big.too_big

-- there is one cut at most, and it is a division
pub record CutsAreOne : Type 0 where
  pub least : LeastCutIsOne
  pub division : CutApartIsDivision
  pub apart : CutApartIsOne

cut_division : CutsAreOne → (b : Bool) (limits : TransactionLimits) (us ms : List ℕ) (ts : List Transaction) → IsCut b limits us ms ts → IsDivision limits (us ++ ms) ts
cut_division cuts true limits us ms ts is = cuts.division limits us ms ts is
cut_division cuts false limits us ms ts is = is.division

one_cut : CutsAreOne → (b : Bool) (limits : TransactionLimits) (us ms : List ℕ) (ts vs : List Transaction) → IsCut b limits us ms ts → IsCut b limits us ms vs → ts ≡ vs
one_cut cuts true limits us ms ts vs x y = cuts.apart limits us ms ts vs x y
one_cut cuts false limits us ms ts vs x y = cuts.least limits (us ++ ms) ts vs x y

one_index : (limits : TransactionLimits) (messages : List ℕ) (i j : ℕ) → IsFirstTooBig limits messages i → IsFirstTooBig limits messages j → i ≡ j
one_index limits messages i j a b = elim (cases_lt i j) [
  | inl less ↦ absurd (b.first i less a.too_big)
  | inr not_less ↦ elim (cases_lt j i) [ inl less ↦ absurd (a.first j less b.too_big) | inr equal ↦ omega arith ]
]

-- ---- the reach is one

pub one_reach : (client : Client) (a b : Option ℕ) → IsReach client a → IsReach client b → a ≡ b
one_reach client None None p q = refl
one_reach client None (Some n) p q = absurd (p.greatest n q.reached)
one_reach client (Some m) None p q = absurd (q.greatest m p.reached)
one_reach client (Some m) (Some n) p q = ap (λ x. Some x) (omega (arith, q.greatest m p.reached, p.greatest n q.reached))

-- so is the proof height
one_proof : (client : Client) (us : List Update) (a b : Option ℕ) → IsProofHeight client us a → IsProofHeight client us b → a ≡ b
one_proof client us None None p q = refl
one_proof client us None (Some n) p q = absurd (p.greatest n q.left)
one_proof client us (Some m) None p q = absurd (q.greatest m p.left)
one_proof client us (Some m) (Some n) p q = ap (λ x. Some x) (omega (arith, q.greatest m p.left, p.greatest n q.left))

length-gases : (t : Task) (us : List Update) (ms : List Message) → length (gases t us ms) ≡ length us + length ms
length-gases t us ms = omega (arith, length-append (map (gas_of t) us) (map (λ (m : Message). m.gas) ms), length-map us (gas_of t), length-map ms (λ (m : Message). m.gas))

-- how messages are sent goes by the messages alone
moved : (t : Task) (reach : Option ℕ) (p q : Plan) → p.updates ≡ q.updates → p.messages ≡ q.messages → (x : Sending) → IsSending t reach p x → IsSending t reach q x
moved t reach p q us ms nothing h = (sym us ∙ h.0, sym ms ∙ h.1)
moved t reach p q us ms (too_big index) h = subst (λ (y : List Update × List Message). IsFirstTooBig t.config.limits (gases t y.0 y.1) index) (λ i. (us i, ms i)) h
moved t reach p q us ms (batched b) h = record {
  some = subst (λ (y : List Update × List Message). 0 < length y.0 + length y.1) (λ i. (us i, ms i)) h.some;
  proof = subst (λ (y : List Update). IsProofHeight (client_of (view_of t)) y (Some b.proof)) us h.proof;
  transactions = subst (λ (y : List Update × List Message). IsCut (is_apart t reach) t.config.limits (map (gas_of t) y.0) (map (λ (m : Message). m.gas) y.1) b.transactions)
      (λ i. (us i, ms i)) h.transactions;
}

-- unreachable, or the plan
abbrev IsPlanOr : Task → Option ℕ → Goal → Option Plan → Type 0
IsPlanOr t reach goal plan = MatchOption plan (IsUnreachable (client_of (view_of t)) goal) (IsPlan t reach goal)

module _ (one : AnswersAreOne) (cuts : CutsAreOne) where
  nothing_is_small : (t : Task) (reach : Option ℕ) (p : Plan) (index : ℕ) → IsSending t reach p nothing → IsFirstTooBig t.config.limits (gases t p.updates p.messages) index → ⊥
  nothing_is_small t reach p index empty big = omega (arith, big.place, length-gases t p.updates p.messages, ap length empty.0, ap length empty.1)

  nothing_is_none : (t : Task) (reach : Option ℕ) (p : Plan) (b : Batch) → IsSending t reach p nothing → IsBatch t reach p b → ⊥
  nothing_is_none t reach p b empty batch = omega (arith, batch.some, ap length empty.0, ap length empty.1)

  batch_is_small : (t : Task) (reach : Option ℕ) (p : Plan) (b : Batch) (index : ℕ) → IsBatch t reach p b → IsFirstTooBig t.config.limits (gases t p.updates p.messages) index → ⊥
  batch_is_small t reach p b index batch big =
      cut_or_too_big t.config.limits (gases t p.updates p.messages) b.transactions index
      (cut_division cuts (is_apart t reach) t.config.limits (map (gas_of t) p.updates) (map (λ (m : Message). m.gas) p.messages) b.transactions batch.transactions) big

  one_sending : (t : Task) (reach : Option ℕ) (p : Plan) (a b : Sending) → IsSending t reach p a → IsSending t reach p b → a ≡ b
  one_sending t reach p nothing nothing x y = refl
  one_sending t reach p nothing (too_big j) x y = absurd (nothing_is_small t reach p j x y)
  one_sending t reach p nothing (batched b) x y = absurd (nothing_is_none t reach p b x y)
  one_sending t reach p (too_big i) nothing x y = absurd (nothing_is_small t reach p i y x)
  one_sending t reach p (too_big i) (too_big j) x y = ap (λ n. too_big n) (one_index t.config.limits (gases t p.updates p.messages) i j x y)
  one_sending t reach p (too_big i) (batched b) x y = absurd (batch_is_small t reach p b i y x)
  one_sending t reach p (batched a) nothing x y = absurd (nothing_is_none t reach p a y x)
  one_sending t reach p (batched a) (too_big j) x y = absurd (batch_is_small t reach p a j x y)
  one_sending t reach p (batched a) (batched b) x y =
      let proofs : a.proof ≡ b.proof = omega (arith, y.proof.greatest a.proof x.proof.left, x.proof.greatest b.proof y.proof.left) in
      let transactions =
      one_cut cuts (is_apart t reach) t.config.limits (map (gas_of t) p.updates) (map (λ (m : Message). m.gas) p.messages) a.transactions b.transactions x.transactions y.transactions in
      λ i. batched (record { proof = proofs i; transactions = transactions i })

  one_plan : (t : Task) (reach : Option ℕ) (goal : Goal) (p q : Plan) → IsPlan t reach goal p → IsPlan t reach goal q → p ≡ q
  one_plan t reach goal p q a b =
      let updates : p.updates ≡ q.updates = one.least (view_of t) goal p.updates q.updates a.least b.least in
      let proof : a.proof ≡ b.proof =
      one_proof (client_of (view_of t)) q.updates a.proof b.proof (subst (λ us. IsProofHeight (client_of (view_of t)) us a.proof) updates a.is_proof) b.is_proof in
      let messages : p.messages ≡ q.messages = a.messages ∙ ap (messages_of t reach) proof ∙ sym b.messages in
      let sending : p.sending ≡ q.sending = one_sending t reach q p.sending q.sending (moved t reach p q updates messages p.sending a.sending) b.sending in
      λ i. record { updates = updates i; messages = messages i; sending = sending i }

  one_or : (t : Task) (reach : Option ℕ) (goal : Goal) (p q : Option Plan) → IsPlanOr t reach goal p → IsPlanOr t reach goal q → p ≡ q
  one_or t reach goal None None a b = refl
  one_or t reach goal None (Some q) a b = absurd (a q.updates b.least.acceptable b.least.meets)
  one_or t reach goal (Some p) None a b = absurd (b p.updates a.least.acceptable a.least.meets)
  one_or t reach goal (Some p) (Some q) a b = ap (λ x. Some x) (one_plan t reach goal p q a b)

  one_planned : (t : Task) (p q : Answer) → IsPlanned t p → IsPlanned t q → p ≡ q
  one_planned t p q a b =
      let reach = one_reach (client_of (view_of t)) a.reach b.reach a.is_reach b.is_reach in
      let goal : p.goal ≡ q.goal = same_Some p.goal q.goal (sym a.goal ∙ ap (goal_of t) reach ∙ b.goal) in
      let labels : p.labels ≡ q.labels =
      one_labelling p.labels q.labels a.labels b.labels (one.exact (view_of t) (label_of p.labels) (label_of q.labels) a.exact b.exact)
      (one.exact (view_of t) (label_of q.labels) (label_of p.labels) b.exact a.exact) in
      let plan : p.plan ≡ q.plan = one_or t b.reach q.goal p.plan q.plan (subst (λ (x : Option ℕ × Goal). IsPlanOr t x.0 x.1 p.plan) (λ i. (reach i, goal i)) a.plan) b.plan in
      λ i. record { goal = goal i; labels = labels i; plan = plan i }

  idle_or_planned : (t : Task) (p : Answer) → IsIdle t → IsPlanned t p → ⊥
  idle_or_planned t p a b =
      none-some p.goal (sym a.goal ∙ ap (goal_of t) (one_reach (client_of (view_of t)) a.reach b.reach a.is_reach b.is_reach) ∙ b.goal)

  one_next : (t : Task) (us : List Update) (m n : Option ℕ) → IsNext t us m → IsNext t us n → m ≡ n
  one_next t us m n a b =
      let reach = one_reach (client_of (view_of t)) a.reach b.reach a.is_reach b.is_reach in
      let proof = one_proof (client_of (view_of t)) us a.proof b.proof a.is_proof b.is_proof in
      a.is ∙ (λ i. next_moment t (reach i) (proof i) us) ∙ sym b.is

  held_or_free : (c : ClientState) (n : ℕ) → option_map (λ (b : OpenBatch). b.number) c.batch ≡ Some n → c.batch ≡ None → ⊥
  held_or_free c n e free = none-some n (sym (ap (option_map (λ (b : OpenBatch). b.number)) free) ∙ e)

  one_outcome : (t : Task) (c : ClientState) (a b : Outcome) → IsOutcome t c a → IsOutcome t c b → a ≡ b
  one_outcome t c (held m) (held n) p q = ap (λ x. held x) (same_Some m n (sym p ∙ q))
  one_outcome t c (held m) (idle n) p q = absurd (held_or_free c m p q.0)
  one_outcome t c (held m) (planned b) p q = absurd (held_or_free c m p q.0)
  one_outcome t c (idle m) (held n) p q = absurd (held_or_free c n q p.0)
  one_outcome t c (idle m) (idle n) p q = ap (λ x. idle x) (one_next t [] m n p.2 q.2)
  one_outcome t c (idle m) (planned b) p q = absurd (idle_or_planned t q.1.answer p.1 q.1.right)
  one_outcome t c (planned a) (held n) p q = absurd (held_or_free c n q p.0)
  one_outcome t c (planned a) (idle n) p q = absurd (idle_or_planned t p.1.answer q.1 p.1.right)
  one_outcome t c (planned a) (planned b) p q =
      let answer : p.1.answer ≡ q.1.answer = one_planned t p.1.answer q.1.answer p.1.right q.1.right in
      let next : a.next ≡ b.next = one_next t (planned_updates (Some q.1.answer)) a.next b.next (subst (λ x. IsNext t (planned_updates (Some x)) a.next) answer p.1.next) q.1.next in
      ap (λ x. planned x) (p.1.is ∙ (λ i. reported t (c.batches + 1) (next i) (answer i)) ∙ sym q.1.is)

  -- ---- turns

  one_client : (s : Standing) (c : ℕ × ClientState) (r q : ClientReport) → IsClientReport s c r → IsClientReport s c q → r ≡ q
  one_client s c r q a b =
      let window : a.window ≡ b.window = same_Some a.window b.window (sym a.is_window ∙ b.is_window) in
      let id : r.id ≡ q.id = a.id ∙ sym b.id in
      let outcome : r.outcome ≡ q.outcome =
      one_outcome (task_in s b.window c.0 c.1) c.1 r.outcome q.outcome (subst (λ w. IsOutcome (task_in s w c.0 c.1) c.1 r.outcome) window a.outcome) b.outcome in
      let too_big : r.too_big ≡ q.too_big = a.too_big ∙ ap (λ w. told_too_big (task_in s w c.0 c.1) c.1) window ∙ sym b.too_big in
      λ i. record { id = id i; outcome = outcome i; too_big = too_big i }

  one_row : (s : Standing) (cs : List (ℕ × ClientState)) (rs qs : List ClientReport) → AllZip (IsClientReport s) cs rs → AllZip (IsClientReport s) cs qs → rs ≡ qs
  one_row s [] [] [] a b = refl
  one_row s [] [] (q ∷ qs) a b = absurd b
  one_row s [] (r ∷ rs) qs a b = absurd a
  one_row s (c ∷ cs) [] qs a b = absurd a
  one_row s (c ∷ cs) (r ∷ rs) [] a b = absurd b
  one_row s (c ∷ cs) (r ∷ rs) (q ∷ qs) a b =
      let here = one_client s c r q a.0 b.0 in
      let rest = one_row s cs rs qs a.1 b.1 in
      λ i. here i ∷ rest i

  pub one_turn : (s : Standing) (t : Turn) (r q : TurnReport) → IsTurnReport s t r → IsTurnReport s t q → r ≡ q
  one_turn s t r q a b =
      let window = a.window ∙ sym b.window in
      let hosts = a.hosts ∙ sym b.hosts in
      let refused = a.refused ∙ sym b.refused in
      let clients = one_row (before_plans s t) (enumerate_from 0 (before_plans s t).clients) r.clients q.clients a.clients b.clients in
      let settlements = a.settlements
      ∙ ap (λ (rs : List ClientReport). reports_of_all t.settlements t.taken (after_plans s t (record { window_back = r.window_back; hosts_back = r.hosts_back; refused = r.refused; clients = rs; settlements = r.settlements }))) clients
      ∙ sym b.settlements in
      λ i. record { window_back = window i; hosts_back = hosts i; refused = refused i; clients = clients i; settlements = settlements i }
