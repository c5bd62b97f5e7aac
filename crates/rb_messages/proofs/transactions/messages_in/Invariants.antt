use Rattle.std.proofs.Common.{◌≡◌, ◌++◌, drop, map, option_map, string_bytes}
use Rattle.std.specs.List.{flat_map}
use Rattle.std.specs.Option.{option_to_list}
use Rattle.rb_messages.proofs.transactions.messages_in.Given as goal

-- the messages that are taken, and those that are left
abbrev pub invariant-loop-message : goal.invariant-loop-message
invariant-loop-message l =
    map string_bytes l.own.items ++ flat_map option_to_list (map (option_map string_bytes) (drop l.message-index l.all))
    ≡ flat_map option_to_list (map (option_map string_bytes) l.all)
