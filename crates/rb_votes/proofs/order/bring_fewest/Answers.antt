use Rattle.std.proofs.Common.{◌≡◌, ◌-◌, length, take, drop, ap, ◌∙◌, arith}
use Rattle.std.specs.List.{sum_by}
use Rattle.std.proofs.lemmas.List.Sorted.{IsPermutation-trans}
use Rattle.rb_votes.specs.Power.{power_of, power_in}
use Rattle.rb_votes.specs.Votes.{falling, rising, least_prefix}
use Rattle.rb_votes.proofs.Taken.{rest_stand, rest_same, chosen}
use Rattle.rb_votes.proofs.order.bring_fewest.Goals as goal

pub returns-clause-fewest : goal.returns-clause-fewest
returns-clause-fewest c = λ given stand same.
    let f = power_of c.args.power in
    let g = power_of c.args.other in
    let enough = power_in c.args.power c.args.needed in
    let more = power_in c.args.other c.args.needed in
    let sorted = c.sort_from.new.self.list in
    let first = c.prefix_end-first.result in
    let new = c.sort_from-2.new.self.list in
    let is_sorted : sorted ≡ falling f given = c.sort_from.ensures.falling given stand same in
    let prefix = ap (λ n. length (least_prefix f n sorted)) c.needed.ensures in
    let is_first : first ≡ length (least_prefix f enough sorted) = omega (arith, c.prefix_end-first.ensures.end, prefix) in
    chosen f g enough more given stand sorted is_sorted first is_first new c.prefix_end.result c.lacking-lacking.result
    (c.lacking-lacking.ensures ∙ ap (λ n. n - sum_by g (take first sorted)) c.needed-2.ensures)
    c.sort_from-2.ensures.first
    (c.sort_from-2.ensures.falling (rising (drop first sorted)) (rest_stand f g enough more given stand sorted is_sorted first is_first)
    (rest_same f g enough more given stand sorted is_sorted first is_first))
    c.prefix_end.ensures.end

pub returns-clause-same : goal.returns-clause-same
returns-clause-same c = IsPermutation-trans c.args.voters.now.list c.sort_from.new.self.list c.sort_from-2.new.self.list c.sort_from.ensures.same c.sort_from-2.ensures.same
