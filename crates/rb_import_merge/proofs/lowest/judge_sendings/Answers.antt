use Rattle.std.proofs.Common.{◌≡◌, ◌-◌, Some, false, refl, rules, sym, subst, ap, arith}
use Rattle.rb_import_merge.specs.Lowest.{AreTwoOf}
use Rattle.rb_import_merge.proofs.lowest.judge_sendings.Goals as goal

pub returns-then-not-are_equal-clause-refused : goal.returns-then-not-are_equal-clause-refused
returns-then-not-are_equal-clause-refused c =
    let unequal : c.are_equal.result ≡ false = search rules in
    let two = c.are_equal.ensures.differ unequal in
    let lower = c.index-packets-place in
    let seen = c.index-packets-place-in-loop-place in
    subst (AreTwoOf c.args.packets.now) (sym c.between.ensures)
    (refl, (c.loop-place.place - 1, lower.result, omega arith, sym lower.is, (c.loop-place.place, seen.result, omega arith, sym seen.is, (two, ap (λ n. Some n) (sym two.2), (refl, refl)))))
