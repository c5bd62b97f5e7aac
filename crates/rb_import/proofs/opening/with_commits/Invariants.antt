use Rattle.std.proofs.Common.{◌++◌, List, take}
use Rattle.rb_import_check.specs.declared.chain.Commit.{Commit}
use Rattle.rb_import.specs.Tallies.{IsTally}
use Rattle.rb_import.proofs.opening.with_commits.Given as goal

-- the commits so far are counted, too
abbrev pub invariant-loop-commit : goal.invariant-loop-commit
invariant-loop-commit l = (counted : List Commit) → IsTally counted l.initial.whole → IsTally (counted ++ take l.commit-index l.commits) l.whole
