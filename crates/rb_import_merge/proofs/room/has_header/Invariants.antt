use Rattle.std.proofs.Common.{◌≢◌, All, take}
use Rattle.rb_import_check.specs.declared.chain.Commit.{Commit}
use Rattle.rb_import_merge.proofs.room.has_header.Given as goal

-- none of those so far is of this height
abbrev pub invariant-loop-commit : goal.invariant-loop-commit
invariant-loop-commit l = All (λ (c : Commit). c.header.now.height ≢ l.height) (take l.commit-index l.chain.commits.items)
