use Rattle.std.proofs.Common.{rules, ◌<◌, ◌++◌, arith, string_bytes, sym, ap, subst, ◌∙◌}
use Rattle.std.proofs.lemmas.List.{map-id}
use Rattle.std.proofs.lemmas.Iterator.{YieldsList-from_chars, YieldsList-from_take}
use Rattle.std.proofs.lemmas.Iterator.Consumers.{YieldsList-end}
use Rattle.std.specs.Str.{chars}
use Rattle.rb_import_answers.specs.Said.{IsPlain}
use Rattle.rb_import_answers.proofs.PlainTexts.{all_added, one_more, one_plain}
use Rattle.rb_import_answers.proofs.said.push_plain.Goals as goal

pub loop-character-preserved : goal.loop-character-preserved
loop-character-preserved c =
    let one : IsPlain c.plain.result = subst IsPlain (sym c.plain.ensures) (one_plain c.in-Some.character) in
    let small : c.plain.result < 128 = omega (arith, one.1) in
    c.in_ok-push.ensures.bytes ∙ ap (λ l. string_bytes c.loop-character.text ++ l) (c.push.ensures.ascii small)
    ∙ one_more (string_bytes c.args.text.now) _ c.loop-character.yielded c.in-Some.character c.plain.result c.loop-character.invariant c.plain.ensures

pub returns : goal.returns
returns c = λ before e.
    let all = YieldsList-end (YieldsList-from_take c.saturating_sub-room.result (YieldsList-from_chars c.args.more.now c.utf8.more cc) cc)
    c.loop-character.yielded _ c.loop-character.yielded_by _ _ c.in-None.is c.next.ensures.steps in
    all_added (string_bytes c.args.text.now) _ before (chars c.args.more.now) c.loop-character.yielded c.saturating_sub-room.result e
    (search rules) (sym (map-id c.loop-character.yielded) ∙ all.0) c.loop-character.invariant
