-- Updates are allowed whatever moments of the window they come at exactly where they are acceptable step by step.
use Rattle.std.proofs.Common.{◌≡◌, ℕ, ◌≤◌, List, [], ◌∷◌, Option, Some, None, map, refl, sym, ap, subst, arith}
use Rattle.std.specs.List.{All}
use Rattle.std.specs.Option.{IsSomeAnd}
use Rattle.std.proofs.lemmas.List.Elements.{All-nil, All-cons, All-head, All-tail}
use Rattle.rb_base.specs.Options.{ClientOptions}
use Rattle.rb_base.specs.Window.{Span, IsWithin}
use Rattle.rb_step.specs.KnownStep.{step_at}
use Rattle.rb_step.specs.LightClient.{Update, Runs}
use Rattle.rb_step.specs.Laws.{WindowIsByStep}
use Rattle.rb_step.specs.Machine.{Submission, Allows}
use Rattle.rb_step.specs.StepRule.{Step, Accepts, AcceptsWithin}
use Rattle.rb_step.specs.View.{View, client_of}

-- a known step that is accepted at each moment is accepted throughout
at_each_moment : (o : ClientOptions) (w : Span) (known : Option Step) → w.from ≤ w.until → ((m : ℕ) → IsWithin w m → IsSomeAnd known (Accepts o m)) → IsSomeAnd known (AcceptsWithin o w)
at_each_moment o w None ordered each = each w.from (omega arith, ordered)
at_each_moment o w (Some s) ordered each = each

at_moment : (o : ClientOptions) (w : Span) (known : Option Step) (m : ℕ) → IsWithin w m → IsSomeAnd known (AcceptsWithin o w) → IsSomeAnd known (Accepts o m)
at_moment o w None m within never = never
at_moment o w (Some s) m within throughout = throughout m within

-- the updates, each at one moment
all_at : ℕ → List Update → List Submission
all_at m [] = []
all_at m (u ∷ us) = record { update = u; moment = m } ∷ all_at m us

updates-all_at : (m : ℕ) (us : List Update) → map (λ (s : Submission). s.update) (all_at m us) ≡ us
unfolding all_at
updates-all_at m [] = refl
updates-all_at m (u ∷ us) = ap (λ (vs : List Update). u ∷ vs) (updates-all_at m us)

within-all_at : (w : Span) (m : ℕ) (us : List Update) → IsWithin w m → All (λ (s : Submission). IsWithin w s.moment) (all_at m us)
unfolding all_at
within-all_at w m [] within = All-nil (λ (s : Submission). IsWithin w s.moment)
within-all_at w m (u ∷ us) within = All-cons (λ (s : Submission). IsWithin w s.moment) (record { update = u; moment = m }) (all_at m us) within (within-all_at w m us within)

module _ (v : View) (ordered : v.window.from ≤ v.window.until) where
  abbrev InWindow : Submission → Type 0
  InWindow s = IsWithin v.window s.moment

  runs_from_allowed : (us : List Update) (stored : List ℕ) → ((ss : List Submission) → map (λ (s : Submission). s.update) ss ≡ us → All InWindow ss → Allows v.options v.book stored ss) → Runs (client_of v) stored us
  unfolding client_of
  runs_from_allowed [] stored allowed = tt
  runs_from_allowed (u ∷ us) stored allowed = (
    (first v.window.from (omega arith, ordered)).0,
    at_each_moment v.options v.window (step_at v.book u.trusted u.height) ordered (λ m within. (first m within).1),
    runs_from_allowed us (u.height ∷ stored) (λ ss same within. (allowed (at v.window.from ∷ ss) (ap (λ (vs : List Update). u ∷ vs) same) (All-cons InWindow (at v.window.from) ss (omega arith, ordered) within)).2),
  )
    where
      at : ℕ → Submission
      at m = record { update = u; moment = m }

      first : (m : ℕ) → IsWithin v.window m → Allows v.options v.book stored (at m ∷ all_at m us)
      first m within = allowed (at m ∷ all_at m us) (ap (λ (vs : List Update). u ∷ vs) (updates-all_at m us)) (All-cons InWindow (at m) (all_at m us) within (within-all_at v.window m us within))

  allowed_from_runs : (ss : List Submission) (stored : List ℕ) → Runs (client_of v) stored (map (λ (s : Submission). s.update) ss) → All InWindow ss → Allows v.options v.book stored ss
  unfolding client_of
  allowed_from_runs [] stored runs within = tt
  allowed_from_runs (s ∷ ss) stored runs within = (
    runs.0,
    at_moment v.options v.window (step_at v.book s.update.trusted s.update.height) s.moment (All-head InWindow s ss within) runs.1,
    allowed_from_runs ss (s.update.height ∷ stored) runs.2 (All-tail InWindow s ss within),
  )

pub window_is_by_step_lem : WindowIsByStep
unfolding client_of
window_is_by_step_lem v view us = (
  λ allowed. runs_from_allowed v view.window us v.stored allowed,
  λ runs ss same within. allowed_from_runs v view.window ss v.stored (subst (Runs (client_of v) v.stored) (sym same) runs) within,
)
