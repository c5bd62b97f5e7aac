use Rattle.std.proofs.Common.{rules, subst, ◌≢◌, All}
use Rattle.std.proofs.lemmas.List.{take_all}
use Rattle.rb_import_check.specs.declared.chain.Commit.{Commit}
use Rattle.rb_import_merge.proofs.Rooms.{header_here, no_header}
use Rattle.rb_import_merge.proofs.room.has_header.Goals as goal

pub returns-then-get-height : goal.returns-then-get-height
returns-then-get-height c = ((λ t. header_here c.args.chain.now c.args.height c.loop-commit.commit-index c.commit-item.result (search rules) (search rules) (search rules)), (λ w. search rules))

pub returns : goal.returns
returns c =
    let none : All (λ (x : Commit). x.header.now.height ≢ c.args.height) c.args.chain.now.commits.items =
    subst (All (λ (x : Commit). x.header.now.height ≢ c.args.height)) (take_all c.loop-commit.commit-index c.args.chain.now.commits.items (search rules)) c.loop-commit.invariant in
    ((λ t. search rules), (λ w. absurd (no_header c.args.chain.now c.args.height none w)))
