-- Paths with messages that can go.
use Rattle.std.proofs.Common.{◌≡◌, ℕ, ◌<◌, ◌≤◌, ◌+◌, Bool, true, false, not, List, [], ◌∷◌, length, get_or, take, Option, Some, None, is_some, is_none, All, refl, sym, ap, ◌∙◌, subst, arith}
use Rattle.std.specs.List.{Any}
use Rattle.std.proofs.lemmas.List.{take_all}
use Rattle.std.proofs.lemmas.List.Elements.{All-more}
use Rattle.rb_plan_client.specs.Reach.{IsReach}
use Rattle.rb_plan_client.specs.Task.{PathTask, Task, ready_messages, view_of}
use Rattle.rb_step.specs.View.{client_of}
use Rattle.rb_plan_types.specs.ProofHeight.{IsProofHeight}
use Rattle.std.proofs.lemmas.Bool.{true≢false, false≢true}
use Rattle.rb_explain.specs.Idle.{AnyGoes, Goes, HasSource, IsIdleReason, OwesAny}
use Rattle.rb_explain.specs.Refresh.{is_aged}
use Rattle.rb_explain.specs.declared.idle.IdleReason.TheVariants.{MessagesWait, NothingProved, NothingGoes, NothingYoung, NothingDue}

-- no path has a message that can go
abbrev pub NoneGoes : Task → List PathTask → Type 0
NoneGoes t ps = All (λ (p : PathTask). Goes t p → ⊥) ps

module _ (t : Task) (ps : List PathTask) where
  pub one_goes : (i : ℕ) (p : PathTask) → i < length ps → p ≡ get_or ps i p → Goes t p → Any (Goes t) ps
  one_goes i p lt is there = (i, p, lt, sym is, there)

  pub none_of : NoneGoes t ps → Any (Goes t) ps → ⊥
  none_of none (k, p, lt, at, is) = none k p lt (subst (Goes t) (sym at) is)

  pub none_more : (i : ℕ) (p : PathTask) → i < length ps → p ≡ get_or ps i p → (Goes t p → ⊥) → NoneGoes t (take i ps) → NoneGoes t (take (i + 1) ps)
  none_more i p lt is never none = All-more (λ (q : PathTask). Goes t q → ⊥) ps i p lt none (subst (λ (q : PathTask). Goes t q → ⊥) is never)

  pub none_all : (i : ℕ) → length ps ≤ i → NoneGoes t (take i ps) → Any (Goes t) ps → ⊥
  none_all i le none = none_of (subst (NoneGoes t) (take_all i ps le) none)

pub nothing_in : {X : Type 0} (xs : List X) → (0 < length xs → ⊥) → xs ≡ []
nothing_in [] none = refl
nothing_in (x ∷ xs) none = absurd (none (omega arith))

pub some_there : (top : Option ℕ) (b : Bool) → is_some top ≡ not b → b ≡ false → is_none top ≡ false
some_there (Some h) b is there = refl
some_there None b is there = absurd (false≢true (is ∙ ap not there))

-- a height that is left where there are no updates is stored and live
has_source : (t : Task) (top : Option ℕ) → IsProofHeight (client_of (view_of t)) [] top → is_none top ≡ false → HasSource t
has_source t None is some = absurd (true≢false some)
has_source t (Some h) is some = (h, is.left)

module _ (t : Task) (top reach : Option ℕ) (proof : IsProofHeight (client_of (view_of t)) [] top) (some : is_none top ≡ false) where
  pub messages_wait : (OwesAny t → IsReach (client_of (view_of t)) reach) → OwesAny t → 0 < length (ready_messages t reach) → IsIdleReason t MessagesWait
  messages_wait is owes some_ready = (has_source t top proof some, record { reach = reach; is_reach = is owes; ready = some_ready })

  pub nothing_proved : (OwesAny t → IsReach (client_of (view_of t)) reach) → OwesAny t → (0 < length (ready_messages t reach) → ⊥) → AnyGoes t → IsIdleReason t NothingProved
  nothing_proved is owes none goes = (has_source t top proof some, goes, record { reach = reach; is_reach = is owes; none = nothing_in (ready_messages t reach) none })

  pub nothing_goes : OwesAny t → (AnyGoes t → ⊥) → IsIdleReason t NothingGoes
  nothing_goes owes none = (has_source t top proof some, owes, none)

  pub nothing_young : (OwesAny t → ⊥) → is_aged t ≡ true → IsIdleReason t NothingYoung
  nothing_young none aged = (has_source t top proof some, none, aged)

  pub nothing_due : (OwesAny t → ⊥) → is_aged t ≡ false → IsIdleReason t NothingDue
  nothing_due none aged = (has_source t top proof some, none, aged)
