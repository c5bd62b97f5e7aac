-- where an ORDERED path owes a timeout, the run of receives is empty
use Rattle.std.proofs.Common.{ℕ, ◌≡◌, ◌≢◌, zero, suc, length, true, false, cond, List, [], map, Option, Some, None, refl}
use Rattle.std.specs.List.{range_with_len}
use Rattle.std.specs.Option.{option_and_then, option_to_list, some_prefix}
use Rattle.rb_scan.specs.Packet.{Packet, is_in_flight}
use Rattle.rb_scan.specs.Path.{Path}
use Rattle.rb_scan.specs.Expiry.{is_expired}
use Rattle.rb_scan.specs.Owed.{message_of, packet_at, message_at, next_sequence, messages, open_messages}
use Rattle.rb_scan.specs.declared.path.Order.TheVariants.{Ordered}
use Rattle.rb_scan.specs.declared.message.Kind.TheVariants.{Receive, Timeout}
use Rattle.rb_scan.specs.declared.message.PacketMsg.{PacketMsg}

-- a packet that is owed a timeout is owed no receive
packet-replaced : (records : List (ℕ × ℕ)) (o : Option Packet)
    → option_to_list (option_and_then (message_of records Timeout) o) ≢ [] → option_and_then (message_of records Receive) o ≡ None
packet-replaced records None owes = refl
packet-replaced records (Some p) owes =
    (elim (is_in_flight p) as (λ f. is_in_flight p ≡ f → message_of records Receive p ≡ None) [
      | false ↦ λ e. rw e refl
      | true ↦ λ e.
          (elim (is_expired records p) as (λ b. is_expired records p ≡ b → message_of records Receive p ≡ None) [
            | true ↦ λ past. rw (e, past) refl
            | false ↦ λ past. absurd (owes (rw (e, past) refl))
          ])
          refl
    ])
    refl

-- a run that has nothing at its first number is empty
run-stops : (f : ℕ → Option PacketMsg) (s n : ℕ) → f s ≡ None → some_prefix (map f (range_with_len s n)) ≡ []
run-stops f s zero none = refl
run-stops f s (suc n) none = rw none refl

pub timeout-replaces : (path : Path) → path.order ≡ Ordered → messages path Timeout ≢ [] → messages path Receive ≡ []
timeout-replaces path ordered =
    elim path.closed as (λ b. cond b [] (open_messages path.order path Timeout) ≢ [] → cond b [] (open_messages path.order path Receive) ≡ []) [
      | true ↦ λ owes. refl
      | false ↦
          rw ordered (λ owes. run-stops (message_at path Receive) (next_sequence path Receive) (length path.packets) (packet-replaced path.destination (packet_at path (next_sequence path Timeout)) owes))
    ]
