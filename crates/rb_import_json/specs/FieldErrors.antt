-- Reading as steps, of which the first that fails tells its flaw.
use Rattle.std.specs.Prelude.{◌≡◌, ⊤, Bool, true, false, Option, Some, None, Result, Ok, Err}
use Rattle.rb_import_json.specs.declared.error.FieldError.{FieldError}
use Rattle.rb_import_json.specs.declared.error.AnswerError.{AnswerError}
use Rattle.rb_import_json.specs.declared.error.AnswerError.TheVariants as errors

infixl 10 ◌>>=◌
abbrev pub ◌>>=◌ : {A B : Type 0} → Result A FieldError → (A → Result B FieldError) → Result B FieldError
(Ok x) >>= f = f x
(Err flaw) >>= f = Err flaw

-- what was read, or this flaw
abbrev pub or_flaw : {A : Type 0} → FieldError → Option A → Result A FieldError
or_flaw flaw (Some x) = Ok x
or_flaw flaw None = Err flaw

-- this flaw, where the test fails
abbrev pub must : FieldError → Bool → Result ⊤ FieldError
must flaw true = Ok tt
must flaw false = Err flaw

-- ---- what a function returned, beside what reading gives

-- the result, seen by view, is what reading gives
abbrev pub Reads : {X Y : Type 0} → (X → Y) → Result X FieldError → Result Y FieldError → Type 0
Reads view (Ok x) read = read ≡ Ok (view x)
Reads view (Err flaw) read = read ≡ Err flaw

-- the error is the flaw that reading gives, unless memory ran out
abbrev pub Fails : {Y : Type 0} → AnswerError → Result Y FieldError → Type 0
Fails (errors.Invalid flaw) read = read ≡ Err flaw
Fails errors.NoMemory read = ⊤

-- the result, seen by view, is what reading gives, unless memory ran out
abbrev pub Gives : {X Y : Type 0} → (X → Y) → Result X AnswerError → Result Y FieldError → Type 0
Gives view (Ok x) read = read ≡ Ok (view x)
Gives view (Err e) read = Fails e read
