use Rattle.std.proofs.Common.{◌≡◌, ◌∙◌, ℕ, Some, None, rules}
use Rattle.std.specs.Prelude.{slice_get}
use Rattle.std.specs.Borrow.{Bor}
use Rattle.std.specs.Result.{result_ok}
use Rattle.std.proofs.lemmas.List.Sorted.{answers_always}
use Rattle.rb_import_answers.specs.declared.client.ConsensusState.{ConsensusState}
use Rattle.rb_want.proofs.Searches.{absent, at_some, copied_at, nothing, something, stored}
use Rattle.rb_want.proofs.steps.stored_at.Goals as goal

abbrev height_of : Bor ConsensusState → ℕ
height_of r = r.now.height

-- where none was found, none is of the height
pub returns-in_err-place-clause-none : goal.returns-in_err-place-clause-none
returns-in_err-place-clause-none c =
    let none : result_ok c.binary_search_by_key.result ≡ None = search rules in
    nothing _ c.from_residual.result
    (absent height_of c.args.height c.args.records.now c.binary_search_by_key.result c.requires
    (c.binary_search_by_key.ensures.position height_of (answers_always _ _ _ (λ f a r q h. search rules))) none)

-- what was found is of the height
pub returns-clause-found : goal.returns-clause-found
returns-clause-found c =
    let some : result_ok c.binary_search_by_key.result ≡ Some c.in_ok-place.place = search rules in
    let is : c.copied.result ≡ slice_get c.args.records.now c.in_ok-place.place =
    c.copied.ensures ∙ copied_at c.args.records.now c.in_ok-place.place c.get.result c.get.ensures.lookup in
    stored c.args.height c.args.records.now c.binary_search_by_key.result c.copied.result c.binary_search_by_key.ensures.bound
    (c.binary_search_by_key.ensures.position height_of (answers_always _ _ _ (λ f a r q h. search rules)))
    (at_some c.args.records.now c.binary_search_by_key.result c.copied.result c.in_ok-place.place some is)

pub returns-clause-none : goal.returns-clause-none
returns-clause-none c =
    let some : result_ok c.binary_search_by_key.result ≡ Some c.in_ok-place.place = search rules in
    let is : c.copied.result ≡ slice_get c.args.records.now c.in_ok-place.place =
    c.copied.ensures ∙ copied_at c.args.records.now c.in_ok-place.place c.get.result c.get.ensures.lookup in
    something _ c.args.records.now c.binary_search_by_key.result c.copied.result c.in_ok-place.place some c.binary_search_by_key.ensures.bound is
