use Rattle.std.proofs.Common.{ap, ◌∙◌, arith, rules}
use Rattle.std.specs.List.{list_any}
use Rattle.std.proofs.lemmas.List.{take_all}
use Rattle.rb_script_read.proofs.Letters.{is_other, other_more}
use Rattle.rb_script_read.proofs.event.has_other.Goals as goal

pub loop-letter-preserved : goal.loop-letter-preserved
loop-letter-preserved c =
    let more = other_more c.args.letters.now c.loop-letter.letter-index (omega arith) in
    search (rules, more)

pub returns : goal.returns
returns c = c.loop-letter.invariant ∙ ap (λ ls. list_any is_other ls) (take_all c.loop-letter.letter-index c.args.letters.now (omega arith))
