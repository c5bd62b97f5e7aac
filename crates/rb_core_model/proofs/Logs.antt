-- A state is that of its log.
use Rattle.std.proofs.Common.{◌≡◌, ℕ, suc, ◌+◌, Bool, true, false, cond, List, [], ◌∷◌, length, is_some, refl, sym, ap, ◌∙◌, arith}
use Rattle.std.specs.List.{fold}
use Rattle.rb_core_model.specs.Event.{Event}
use Rattle.rb_core_model.specs.Log.{accepted_from, StatesAreOfLogs}
use Rattle.rb_core_model.specs.Machine.{State, begun, refusal_of, accepted, after}

abbrev next : State → Event → Bool → State
next s e b = cond b s (accepted s e)

abbrev more : State → Event → List Event → Bool → List Event
more s e es b = cond b (accepted_from (next s e b) es) (e ∷ accepted_from (next s e b) es)

pub leads : (s : State) (es : List Event) → fold after s (accepted_from s es) ≡ fold after s es
leads s [] = refl
leads s (e ∷ es) = go (is_some (refusal_of s e)) refl (leads (after s e) es)
  where
    go : (b : Bool) → is_some (refusal_of s e) ≡ b → fold after (after s e) (accepted_from (after s e) es) ≡ fold after (after s e) es
        → fold after s (more s e es (is_some (refusal_of s e))) ≡ fold after (after s e) es
    go true at rest =
        ap (λ b. fold after s (more s e es b)) at
        ∙ ap (λ t. fold after t (accepted_from s es)) (sym (ap (next s e) at))
        ∙ ap (λ t. fold after (after s e) (accepted_from t es)) (sym (ap (next s e) at)) ∙ rest
    go false at rest =
        ap (λ b. fold after s (more s e es b)) at
        ∙ ap (λ t. fold after (after s e) (accepted_from t es)) (sym (ap (next s e) at)) ∙ rest

again : (s : State) (es : List Event) → accepted_from s (accepted_from s es) ≡ accepted_from s es
again s [] = refl
again s (e ∷ es) = go (is_some (refusal_of s e)) refl (again (after s e) es)
  where
    go : (b : Bool) → is_some (refusal_of s e) ≡ b → accepted_from (after s e) (accepted_from (after s e) es) ≡ accepted_from (after s e) es
        → accepted_from s (more s e es (is_some (refusal_of s e))) ≡ more s e es (is_some (refusal_of s e))
    go true at rest =
        ap (λ b. accepted_from s (more s e es b)) at
        ∙ ap (λ t. accepted_from t (accepted_from t es)) (sym (ap (next s e) at)) ∙ rest
        ∙ ap (λ t. accepted_from t es) (ap (next s e) at)
        ∙ sym (ap (more s e es) at)
    go false at rest =
        ap (λ b. accepted_from s (more s e es b)) at
        ∙ ap (more s e (accepted_from (accepted s e) es)) at
        ∙ ap (λ t. e ∷ accepted_from t (accepted_from t es)) (sym (ap (next s e) at)) ∙ ap (λ xs. e ∷ xs) rest
        ∙ ap (λ t. e ∷ accepted_from t es) (ap (next s e) at)
        ∙ sym (ap (more s e es) at)

long : (s : State) (es : List Event) → (fold after s es).front ≡ s.front + length (accepted_from s es)
long s [] = omega arith
long s (e ∷ es) = go (is_some (refusal_of s e)) refl (long (after s e) es)
  where
    go : (b : Bool) → is_some (refusal_of s e) ≡ b → (fold after (after s e) es).front ≡ (after s e).front + length (accepted_from (after s e) es)
        → (fold after (after s e) es).front ≡ s.front + length (more s e es (is_some (refusal_of s e)))
    go true at rest =
        rest ∙ ap (λ (t : State). t.front + length (accepted_from t es)) (ap (next s e) at) ∙ ap (λ b. s.front + length (more s e es b)) (sym at)
    go false at rest =
        let one : suc s.front + length (accepted_from (accepted s e) es) ≡ s.front + suc (length (accepted_from (accepted s e) es)) = omega arith in
        rest ∙ ap (λ (t : State). t.front + length (accepted_from t es)) (ap (next s e) at) ∙ one ∙ ap (λ b. s.front + length (more s e es b)) (sym at)

pub states_of_logs : StatesAreOfLogs
states_of_logs c events = record {
  state = leads (begun c events.start) events.events;
  log = ap (λ es. record events { events = es }) (again (begun c events.start) events.events);
  front = long (begun c events.start) events.events ∙ first (length (accepted_from (begun c events.start) events.events));
}
  where
    first : (n : ℕ) → 0 + n ≡ n
    first n = omega arith
