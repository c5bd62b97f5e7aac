use Rattle.std.proofs.Common.{◌≡◌, map, option_map, take}
use Rattle.rb_import_setup.specs.Senders.{sender_view}
use Rattle.rb_import_setup.proofs.rest.copies_of.Given as goal

-- these are copies of those so far
abbrev pub invariant-loop-sender : goal.invariant-loop-sender
invariant-loop-sender l = map (option_map sender_view) l.copies.items ≡ map (option_map sender_view) (take l.sender-index l.senders)
