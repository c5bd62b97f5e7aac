use Rattle.std.proofs.Common.{lit<}
use Rattle.std.proofs.lemmas.Str.Pattern.{strip_suffix_char}
use Rattle.rb_messages.proofs.Lines.{without_end, without_line}
use Rattle.rb_messages.proofs.transactions.text_line.Goals as goal

pub returns-in_default : goal.returns-in_default
returns-in_default c =
    let found = strip_suffix_char 10 c.args.text.now c.strip_suffix.result c.strip_suffix.ensures.cases (lit< tt) in
    without_line c.args.text.now (rw c.in_default.is at found)

pub returns : goal.returns
returns c =
    let found = strip_suffix_char 10 c.args.text.now c.strip_suffix.result c.strip_suffix.ensures.cases (lit< tt) in
    without_end c.args.text.now c.in-Some.line.now (rw c.in-Some.is at found)
