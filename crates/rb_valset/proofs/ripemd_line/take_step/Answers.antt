use Rattle.std.proofs.Common.{arith}
use Rattle.rb_valset.proofs.RipemdLines.{place-below}
use Rattle.rb_valset.proofs.ripemd_line.take_step.Goals as goal

pub word_at-word-requires : goal.word_at-word-requires
word_at-word-requires c = record { block = c.requires.block; place = place-below c.args.line.now.places c.args.number c.requires.places (omega arith) }
