use Rattle.std.proofs.Common.{◌≡◌, ◌++◌, drop, map, option_map, string_bytes}
use Rattle.std.specs.Prelude.{Some}
use Rattle.rb_import_setup.specs.Senders.{sender_view}
use Rattle.rb_messages.specs.Transactions.{messages_of, update_text}
use Rattle.rb_messages.proofs.transactions.messages_of.Given as goal

-- the messages of updates that are made, and those that are left
abbrev pub invariant-loop-update : goal.invariant-loop-update
invariant-loop-update l =
    map (option_map string_bytes) l.messages.items ++ map (λ f. Some (update_text l.parts.host.now l.parts.batch.now.client (sender_view l.parts.sender.now) f)) (drop l.update-index l.parts.updates.now)
    ≡ map (λ f. Some (update_text l.parts.host.now l.parts.batch.now.client (sender_view l.parts.sender.now) f)) l.parts.updates.now

-- all of them with the packet messages that are taken, and those that are left
abbrev pub invariant-loop-packet : goal.invariant-loop-packet
invariant-loop-packet l =
    map (option_map string_bytes) l.messages.items ++ map (option_map string_bytes) (drop l.packet-index l.parts.packets.now)
    ≡ messages_of l.parts.host.now l.parts.batch.now.client (sender_view l.parts.sender.now) l.parts.updates.now l.parts.packets.now
