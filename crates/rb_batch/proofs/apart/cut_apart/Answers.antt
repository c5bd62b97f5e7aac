use Rattle.std.proofs.Common.{rules}
use Rattle.rb_batch.proofs.FirstTooBig.{front_big}
use Rattle.rb_batch.proofs.apart.cut_apart.Goals as goal

pub returns-in_err-transactions-clause-too_big : goal.returns-in_err-transactions-clause-too_big
returns-in_err-transactions-clause-too_big g c = λ index is.
    front_big c.args.limits c.args.updates.now c.args.messages.now index (c.in_err-transactions.ensures.too_big index (search rules))

pub returns-in_err-behind-clause-too_big : goal.returns-in_err-behind-clause-too_big
returns-in_err-behind-clause-too_big g c = λ index is.
    c.in_err-behind.ensures.too_big index c.in_ok-transactions.ensures.none_too_big (search rules)
