use Rattle.std.proofs.Common.{◌≡◌, ◌<◌, ◌++◌, length, take, rules, subst}
use Rattle.std.proofs.lemmas.List.{take_all}
use Rattle.rb_import.specs.Tallies.{IsTally}
use Rattle.rb_import.proofs.Tallying.{commits_more}
use Rattle.rb_import.proofs.opening.with_commits.Goals as goal

pub loop-commit-preserved : goal.loop-commit-preserved
loop-commit-preserved c counted is =
    let small : c.loop-commit.commit-index < length c.args.commits.now = search rules in
    commits_more counted c.args.commits.now c.loop-commit.commit-index c.commit-item.result c.with_commit-whole.result small c.commit-item.is
    (c.with_commit-whole.ensures (counted ++ take c.loop-commit.commit-index c.args.commits.now) (c.loop-commit.invariant counted is))

pub returns : goal.returns
returns c counted is =
    let all : take c.loop-commit.commit-index c.args.commits.now ≡ c.args.commits.now = take_all _ _ (search rules) in
    subst (λ l. IsTally (counted ++ l) c.loop-commit.whole) all (c.loop-commit.invariant counted is)
