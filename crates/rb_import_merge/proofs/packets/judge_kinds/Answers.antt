use Rattle.std.proofs.Common.{◌≡◌, Some, true, false, refl, rules, sym, subst, ap}
use Rattle.rb_import_check.specs.declared.saved.Saved.{Saved}
use Rattle.rb_import_merge.specs.Packets.{IsOfOtherFolder, is_on_packets}
use Rattle.rb_import_merge.proofs.Searching.{at_end, one_more}
use Rattle.rb_import_merge.proofs.packets.judge_kinds.Goals as goal

pub returns-then-not-is_on_packets-clause-refused : goal.returns-then-not-is_on_packets-clause-refused
returns-then-not-is_on_packets-clause-refused c =
    let other : is_on_packets c.saved-item.result.answer ≡ false = search rules in
    subst (IsOfOtherFolder c.args.answers.now) (sym c.in_file.ensures)
    (refl, (c.loop-saved.saved-index, c.saved-item.result, c.loop-saved-test.true, sym c.saved-item.is, (other, (ap (λ l. Some l) c.as_str-file.ensures.value, refl), refl)))

pub loop-saved-preserved : goal.loop-saved-preserved
loop-saved-preserved c =
    let on : is_on_packets c.saved-item.result.answer ≡ true = search rules in
    one_more (λ (s : Saved). is_on_packets s.answer ≡ true) c.args.answers.now c.loop-saved.saved-index c.saved-item.result c.loop-saved-test.true c.saved-item.is c.loop-saved.invariant on

pub returns-clause-accepted : goal.returns-clause-accepted
returns-clause-accepted c = at_end (λ (s : Saved). is_on_packets s.answer ≡ true) c.args.answers.now c.loop-saved.saved-index c.loop-saved-test.false c.loop-saved.invariant
