use Rattle.std.proofs.Common.{arith, map, option_map, string_bytes}
use Rattle.std.specs.Option.{option_to_list}
use Rattle.rb_messages.proofs.Parts.{made_of_part}
use Rattle.rb_messages.proofs.transactions.messages_in.Goals as goal

pub returns : goal.returns
returns c =
    let t = c.args.transaction.now in
    made_of_part (option_map string_bytes) option_to_list (map string_bytes c.loop-message.own.items) c.part-all.result.now c.loop-message.message-index t.count t.first
    c.args.messages.now c.part-all.ensures (omega (arith, c.loop-message-test.false)) c.loop-message.invariant
