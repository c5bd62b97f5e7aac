use Rattle.std.proofs.Common.{◌≡◌, ◌+◌, ℕ, List, get_or, map, rules, ◌∙◌}
use Rattle.rb_import_check.specs.declared.chain.Commit.{Commit}
use Rattle.rb_import_check.proofs.Naming.{falls}
use Rattle.rb_import_check.proofs.chain.judge_heights.Goals as goal

pub returns-in-Some-clause-named : goal.returns-in-Some-clause-named
returns-in-Some-clause-named c =
    let all : List Commit = c.args.commits.now in
    let height : Commit → ℕ = λ x. x.header.now.height in
    let are : c.as_slice.result.now ≡ map height all = c.as_slice.ensures.value ∙ c.in_ok-heights.ensures in
    let one : c.index-commits-place.result ≡ get_or all c.in-Some.place c.index-commits-place.result = search rules in
    let two : c.index-commits-place-in-Some.result ≡ get_or all (c.in-Some.place + 1) c.index-commits-place-in-Some.result = search rules in
    falls height (λ x. x.file.now) c.as_slice.result.now all c.two_commits.result c.in-Some.place c.index-commits-place.result c.index-commits-place-in-Some.result are c.in-Some.ensures.place c.in-Some.ensures.repeated one two
    c.two_commits.ensures.height c.two_commits.ensures.files
