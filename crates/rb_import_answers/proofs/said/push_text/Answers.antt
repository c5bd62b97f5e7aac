use Rattle.std.proofs.Common.{rules, ◌≡◌, OnOk, length, string_bytes, subst}
use Rattle.std.specs.Str.{chars}
use Rattle.rb_import_answers.specs.Said.{plain_text}
use Rattle.rb_import_answers.proofs.PlainTexts.{behind_colon, without_colon}
use Rattle.rb_import_answers.proofs.said.push_text.Goals as goal

pub returns-then-is_empty : goal.returns-then-is_empty
returns-then-is_empty c = λ before e.
    let none : length (string_bytes c.args.text.now) ≡ 0 = search rules in
    subst (λ l. OnOk c.push_plain.result (string_bytes c.push_plain.new.text ≡ plain_text l))
    (without_colon (string_bytes c.args.text.now) before (chars c.args.more.now) e none) (c.push_plain.ensures before e)

pub returns : goal.returns
returns c = λ before e.
    let some : ¬ (length (string_bytes c.args.text.now) ≡ 0) = λ none. search rules in
    subst (λ l. OnOk c.push_plain-3.result (string_bytes c.push_plain-3.new.text ≡ plain_text l))
    (behind_colon (string_bytes c.args.text.now) before (chars c.args.more.now) e some)
    (c.push_plain-3.ensures _ (c.in_ok-push_plain.ensures before e))
