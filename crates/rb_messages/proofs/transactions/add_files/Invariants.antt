use Rattle.std.proofs.Common.{◌≡◌, ◌++◌, drop, map, option_map, string_bytes}
use Rattle.std.specs.List.{enumerate_from, flat_map}
use Rattle.rb_import_setup.specs.Senders.{sender_view}
use Rattle.rb_messages.specs.Transactions.{file_in, file_view}
use Rattle.rb_messages.proofs.transactions.add_files.Given as goal

-- what is added, and what is left
abbrev pub invariant-loop-before : goal.invariant-loop-before
invariant-loop-before l =
    map file_view l.files.items
    ++ flat_map (file_in l.parts.place (sender_view l.parts.sender.now) (map (option_map string_bytes) l.messages)) (enumerate_from l.before (drop l.before l.parts.batch.now.transactions.items))
    ≡ map file_view l.initial.files.items
    ++ flat_map (file_in l.parts.place (sender_view l.parts.sender.now) (map (option_map string_bytes) l.messages)) (enumerate_from 0 l.parts.batch.now.transactions.items)
