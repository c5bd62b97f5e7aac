-- A problem is told of an object of a setup.
use Rattle.std.proofs.Common.{◌≡◌, ℕ, List, Option, Some, None, inl, inr, refl, subst, sym}
use Rattle.std.specs.Prelude.{Contains, IsSomeAnd, slice_get}
use Rattle.std.proofs.lemmas.Option.{get_or_from_slice_get, slice_get_within}
use Rattle.rb_import_setup.specs.declared.setup.ClientSetup.{ClientSetup}
use Rattle.rb_import_setup.specs.declared.setup.PathSetup.{PathSetup}
use Rattle.rb_import_setup.specs.declared.setup.ImportSetup.{ImportSetup}
use Rattle.rb_import_check.specs.declared.error.CheckError.{CheckError}
use Rattle.rb_import_check.specs.declared.error.ImportError.TheVariants as errors
use Rattle.rb_import_check.specs.declared.saved.SavedAnswers.{SavedAnswers}
use Rattle.rb_import_merge.specs.Errors.{IsNamedIn, IsToldIn}
use Rattle.rb_import_merge.specs.Reasons.{AtSome, IsOfAnswers, IsOfChainAnswers, IsOfClientAnswers, IsOfPathAnswers}
use Rattle.rb_import_merge.specs.Seen.{answers_at}

contained : {X : Type 0} (xs : List X) (i : ℕ) (x : X) → slice_get xs i ≡ Some x → Contains xs x
contained xs i x at = (i, slice_get_within xs i x at, get_or_from_slice_get xs i x x at)

-- what holds at some place holds of something that is contained
at_some : {X : Type 0} (Holds : X → ℕ → Type 0) (xs : List X) → AtSome Holds xs → (x : X) × (i : ℕ) × Contains xs x × Holds x i
at_some {X = X} Holds xs (i, w) = there (slice_get xs i) refl w
  where
    there : (o : Option X) → slice_get xs i ≡ o → IsSomeAnd o (λ x. Holds x i) → (x : X) × (i : ℕ) × Contains xs x × Holds x i
    there (Some x) at holds = (x, i, contained xs i x at, holds)
    there None at holds = absurd holds

pub told_in : (setup : ImportSetup) (answers : SavedAnswers) (p : CheckError) → IsOfAnswers setup answers (errors.CheckError p) → IsToldIn setup (errors.CheckError p)
told_in setup answers p (inl w) =
    let (id, i, among, holds) = at_some (λ id i. IsOfChainAnswers id (answers_at answers.chains.items i) (errors.CheckError p)) setup.chains.items w in
    subst (IsNamedIn setup) (sym holds.0) (inl among)
told_in setup answers p (inr (inl w)) =
    let (c, i, among, holds) = at_some (λ (c : ClientSetup) i. IsOfClientAnswers setup answers c (answers_at answers.clients.items i) (errors.CheckError p)) setup.clients.items w in
    subst (IsNamedIn setup) (sym holds.0) (inr (inl (c, among, refl)))
told_in setup answers p (inr (inr w)) =
    let (path, i, among, holds) = at_some (λ (x : PathSetup) i. IsOfPathAnswers x (answers_at answers.paths.items i) (errors.CheckError p)) setup.paths.items w in
    subst (IsNamedIn setup) (sym holds.0) (inr (inr (inl (path, among, refl))))
