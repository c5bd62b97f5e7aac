use Rattle.std.proofs.Common.{ℕ, ◌≤◌, List, length, subst, arith}
use Rattle.rb_book.specs.Header.{Header}
use Rattle.rb_explain_plan.specs.Unreachable.{IsFirstOf}
use Rattle.rb_explain_plan.proofs.Told.{IsFirstAmong, wanted_more, wanted_all}
use Rattle.rb_explain_plan.proofs.unreachable.first_wanted.Goals as goal

pub loop-header-preserved : goal.loop-header-preserved
loop-header-preserved g c =
    let h = c.header-item.result in
    let step : IsFirstOf c.args.goal.now c.loop-header.first h.height c.first_of-first.result = subst (λ (n : ℕ). IsFirstOf c.args.goal.now c.loop-header.first n c.first_of-first.result) c.height.ensures c.first_of-first.ensures in
    wanted_more c.args.goal.now c.headers-headers.result.now c.loop-header.header-index h c.loop-header.first c.first_of-first.result c.loop-header-test.true c.header-item.is step c.loop-header.invariant

pub returns : goal.returns
returns g c =
    let headers = c.headers-headers.ensures.value in
    wanted_all c.args.goal.now c.args.book.now c.loop-header.header-index c.loop-header.first c.headers-headers.ensures.book (subst (λ (hs : List Header). length hs ≤ c.loop-header.header-index) headers (omega arith))
    (subst (λ (hs : List Header). IsFirstAmong c.args.goal.now hs c.loop-header.header-index c.loop-header.first) headers c.loop-header.invariant)
