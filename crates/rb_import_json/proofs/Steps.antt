-- Lemmas on reading as steps.
use Rattle.std.proofs.Common.{◌≡◌, Result, Ok, Err, refl}
use Rattle.rb_import_json.specs.declared.error.FieldError.{FieldError}
use Rattle.rb_import_json.specs.declared.error.AnswerError.{AnswerError}
use Rattle.rb_import_json.specs.declared.error.AnswerError.TheVariants as errors
use Rattle.rb_import_json.specs.FieldErrors.{◌>>=◌, Fails}

-- a step that fails makes all fail
pub fails-first : {A B : Type 0} (e : AnswerError) (read : Result A FieldError) (next : A → Result B FieldError) → Fails e read → Fails e (read >>= next)
fails-first (errors.Invalid flaw) read next h = rw h refl
fails-first errors.NoMemory read next h = tt

pub flaw-first : {A B : Type 0} (flaw : FieldError) (read : Result A FieldError) (next : A → Result B FieldError) → read ≡ Err flaw → (read >>= next) ≡ Err flaw
flaw-first flaw read next h = rw h refl

pub ruleset steps = (fails-first, flaw-first)
