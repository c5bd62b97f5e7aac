-- What a writer has taken after one more write.
use Rattle.std.proofs.Common.{ℕ, ◌+◌, List, [], ◌++◌, length, take, Option, Some, None, Result, Ok, Err, OnErr, sym, ap, ◌∙◌, subst, append_assoc, arith, length-append}
use Rattle.std.proofs.lemmas.List.{take-append-le, append-nil}
use Rattle.std.proofs.Math.Seq.{take-append-add}
use Rattle.std.specs.Io.KnownBytes.{Appends}
use Rattle.rb_base.specs.Sink.{AppendsBeginning}

pub appends-then : (old mid new : Option (List ℕ)) (a b : List ℕ) → Appends old mid a → Appends mid new b → Appends old new (a ++ b)
appends-then None mid new a b p q = tt
appends-then (Some x) None new a b p q = absurd p
appends-then (Some x) (Some y) None a b p q = absurd q
appends-then (Some x) (Some y) (Some z) a b p q = q ∙ ap (λ t. t ++ b) p ∙ append_assoc x a b

pub appends-none : (old : Option (List ℕ)) → Appends old old []
appends-none None = tt
appends-none (Some x) = sym (append-nil x)

-- nothing taken is a beginning
pub beginning-none : (old : Option (List ℕ)) (text : List ℕ) → AppendsBeginning old old text
beginning-none old text = (0, omega arith, appends-none old)

-- a beginning of the first part is one of the whole
pub beginning-first : (old new : Option (List ℕ)) (a b : List ℕ) → AppendsBeginning old new a → AppendsBeginning old new (a ++ b)
beginning-first old new a b h = (h.0, omega (arith, h.1, length-append a b), subst (Appends old new) (sym (take-append-le h.0 a b h.1)) h.2)

-- the first part, and a beginning of the second
pub beginning-then : (old mid new : Option (List ℕ)) (a b : List ℕ) → Appends old mid a → AppendsBeginning mid new b → AppendsBeginning old new (a ++ b)
beginning-then old mid new a b p h =
    (length a + h.0, omega (arith, h.1, length-append a b), subst (Appends old new) (sym (take-append-add a b h.0)) (appends-then old mid new a (take h.0 b) p h.2))

-- said of an error
pub on_err : {T E P : Type 0} (r : Result T E) → P → OnErr r P
on_err (Ok x) p = tt
on_err (Err e) p = p

pub ruleset beginnings = (appends-then, appends-none, beginning-none, beginning-first, beginning-then)
