use Rattle.std.proofs.Common.{◌≡◌, ◌∙◌, ℕ, Some, None, rules, sym}
use Rattle.std.specs.Prelude.{slice_get}
use Rattle.std.specs.Result.{result_ok}
use Rattle.std.proofs.lemmas.List.Sorted.{answers_always}
use Rattle.rb_import_check.specs.declared.chain.Commit.{Commit}
use Rattle.rb_import_check.proofs.Finds.{find_only}
use Rattle.rb_import_check.proofs.Searches.{among, at_none, at_some, copied_at, only}
use Rattle.rb_import_check.proofs.chain.commit_of.Goals as goal

abbrev height_of : Commit → ℕ
height_of c = c.header.now.height

pub returns-in_err-place-clause-only : goal.returns-in_err-place-clause-only
returns-in_err-place-clause-only c =
    let none : result_ok c.binary_search_by_key.result ≡ None = search rules in
    only height_of c.args.height c.args.commits.now c.binary_search_by_key.result c.from_residual.result c.requires c.binary_search_by_key.ensures.bound
    (c.binary_search_by_key.ensures.position height_of (answers_always _ _ _ (λ f a r q h. search rules)))
    (at_none c.args.commits.now c.binary_search_by_key.result c.from_residual.result none c.from_residual.ensures)

pub returns-clause-found : goal.returns-clause-found
returns-clause-found c =
    let some : result_ok c.binary_search_by_key.result ≡ Some c.in_ok-place.place = search rules in
    let is : c.copied.result ≡ slice_get c.args.commits.now c.in_ok-place.place = c.copied.ensures ∙ copied_at c.args.commits.now c.in_ok-place.place c.get.result c.get.ensures.lookup in
    among height_of c.args.height c.args.commits.now c.binary_search_by_key.result c.copied.result c.binary_search_by_key.ensures.bound
    (c.binary_search_by_key.ensures.position height_of (answers_always _ _ _ (λ f a r q h. search rules)))
    (at_some c.args.commits.now c.binary_search_by_key.result c.copied.result c.in_ok-place.place some is)

pub returns-clause-only : goal.returns-clause-only
returns-clause-only c =
    let some : result_ok c.binary_search_by_key.result ≡ Some c.in_ok-place.place = search rules in
    let is : c.copied.result ≡ slice_get c.args.commits.now c.in_ok-place.place = c.copied.ensures ∙ copied_at c.args.commits.now c.in_ok-place.place c.get.result c.get.ensures.lookup in
    only height_of c.args.height c.args.commits.now c.binary_search_by_key.result c.copied.result c.requires c.binary_search_by_key.ensures.bound
    (c.binary_search_by_key.ensures.position height_of (answers_always _ _ _ (λ f a r q h. search rules)))
    (at_some c.args.commits.now c.binary_search_by_key.result c.copied.result c.in_ok-place.place some is)

pub returns-in_err-place-clause-first : goal.returns-in_err-place-clause-first
returns-in_err-place-clause-first c =
    sym (find_only height_of c.args.height c.args.commits.now c.from_residual.result (search rules) (returns-in_err-place-clause-only c))

pub returns-clause-first : goal.returns-clause-first
returns-clause-first c = sym (find_only height_of c.args.height c.args.commits.now c.copied.result (returns-clause-found c) (returns-clause-only c))
