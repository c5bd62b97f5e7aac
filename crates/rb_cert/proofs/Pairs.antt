-- Headers that are judged two at a time, one of the lower half with one of the upper.
use Rattle.std.proofs.Common.{◌≡◌, ℕ, ◌+◌, ◌-◌, ◌*◌, ◌/◌, ◌<◌, ◌≤◌, ◌⊎◌, inl, inr, Bool, true, false, length, sym, ap, ◌∙◌, subst, arith, Some, slice_get, true≢false}
use Rattle.std.specs.Prelude.{MatchBool}
use Rattle.std.specs.Option.{IfSome}
use Rattle.rb_book.specs.Header.{Header}
use Rattle.rb_step.specs.View.{View, IsView, client_of}
use Rattle.rb_plan_types.specs.Labelling.{Labels}
use Rattle.rb_cert.specs.Checks.{IsLowAt, AreStepsLow, AreStepsIntoLow}
use Rattle.rb_cert.proofs.Rising.{EachBefore}
use Rattle.rb_cert.proofs.Walks.{IsLowInto, steps_low}

pub when_true : (P Q : Type 0) (b : Bool) → MatchBool b P Q → b ≡ true → P
when_true P Q true h e = h
when_true P Q false h e = absurd (true≢false (sym e))

sides : (n k : ℕ) → k < n → (k < n - n / 2) ⊎ ((n - 1 - k < n - n / 2) × (n - 1 - (n - 1 - k) ≡ k))
sides n k l = go (cases n k)
  where
    cases : (m j : ℕ) → (j < m - m / 2) ⊎ (m - m / 2 ≤ j)
    cases m j = grind arith

    go : (k < n - n / 2) ⊎ (n - n / 2 ≤ k) → (k < n - n / 2) ⊎ ((n - 1 - k < n - n / 2) × (n - 1 - (n - 1 - k) ≡ k))
    go (inl low) = inl low
    go (inr high) = inr (omega arith, omega arith)

-- all headers stand in such a pair
pub all_low : (v : View) → IsView v → (label : Labels) (n : ℕ) → length v.book.headers ≡ n
    → ((i : ℕ) → i < n - n / 2 → IsLowAt v label i × IsLowAt v label (n - 1 - i)) → AreStepsLow (client_of v) label
all_low v view label n is pairs = steps_low v view label n (omega (arith, is)) each
  where
    at_place : (k : ℕ) (x : Header) → slice_get v.book.headers k ≡ Some x → IsLowAt v label k → IsLowInto v label x
    at_place k x at low = subst (λ o. IfSome o (λ (h : Header). AreStepsIntoLow (client_of v) label h.height)) at low

    go : (k : ℕ) (x : Header) → slice_get v.book.headers k ≡ Some x → (k < n - n / 2) ⊎ ((n - 1 - k < n - n / 2) × (n - 1 - (n - 1 - k) ≡ k)) → IsLowInto v label x
    go k x at (inl low) = at_place k x at ((pairs k low).0)
    go k x at (inr (low, back)) = at_place k x at (subst (IsLowAt v label) back ((pairs (n - 1 - k) low).1))

    each : EachBefore (IsLowInto v label) v.book.headers n
    each k x l at = go k x at (sides n k l)
