-- The steps that a book knows.
use Rattle.std.specs.Prelude.{ℕ, Option, Some, IsSomeAnd, option_and_then}
use Rattle.rb_base.specs.Options.{ClientOptions}
use Rattle.rb_base.specs.Window.{Span}
use Rattle.rb_book.specs.Book.{Book, set_of, record_at, header_at}
use Rattle.rb_step.specs.StepRule.{Step, step_of, Accepts, AcceptsWithin}

infixl 10 ◌>>=◌
abbrev pub ◌>>=◌ : {A B : Type 0} → Option A → (A → Option B) → Option B
o >>= f = option_and_then f o

-- the step from the record at a trusted height to the header at a height, where both and the header's own set are known
unfoldable pub step_at : Book → ℕ → ℕ → Option Step
step_at book trusted_height height = do
  trusted ← record_at book trusted_height
  header ← header_at book height
  own ← set_of book header.set_hash
  Some (step_of trusted_height trusted (set_of book trusted.next) header own)

-- such a step is known, and accepted at the moment
abbrev pub IsAcceptedAt : ClientOptions → Book → ℕ → ℕ → ℕ → Type 0
IsAcceptedAt o book moment trusted_height height = IsSomeAnd (step_at book trusted_height height) (Accepts o moment)

-- such a step is known, and accepted at every moment of the window
abbrev pub IsAcceptedWithin : ClientOptions → Book → Span → ℕ → ℕ → Type 0
IsAcceptedWithin o book window trusted_height height = IsSomeAnd (step_at book trusted_height height) (AcceptsWithin o window)
