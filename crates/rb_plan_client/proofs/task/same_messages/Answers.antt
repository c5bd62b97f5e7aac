use Rattle.std.proofs.Common.{◌≡◌, ◌∙◌, ◌==◌, ◌&&◌, Bool, true, false, nat_eq, ap, refl}
use denote.Enum.Bare.{sameb}
use Rattle.std.specs.Cmp.Lexicographic.{pointwise}
use Rattle.std.specs.Option.{option_eq}
use Rattle.rb_scan.specs.Owed.{same_kind}
use Rattle.rb_scan.specs.contracts.message.Kind.{the_type}
use Rattle.rb_scan.specs.contracts.message.PacketMsgPartialEq.TheImpl.{eq-value}
use Rattle.rb_scan.specs.declared.message.Kind.{Kind}
use Rattle.rb_scan.specs.declared.message.Kind.TheVariants.{Receive, Acknowledge, Timeout}
use Rattle.rb_scan.specs.declared.message.PacketMsg.{PacketMsg}
use Rattle.rb_plan_client.specs.Same.{same_packet_message}
use Rattle.rb_plan_client.proofs.task.same_messages.Goals as goal

same_kinds : (a b : Kind) → sameb the_type a b ≡ same_kind a b
same_kinds Receive Receive = refl
same_kinds Receive Acknowledge = refl
same_kinds Receive Timeout = refl
same_kinds Acknowledge Receive = refl
same_kinds Acknowledge Acknowledge = refl
same_kinds Acknowledge Timeout = refl
same_kinds Timeout Receive = refl
same_kinds Timeout Acknowledge = refl
same_kinds Timeout Timeout = refl

-- the derived comparison is grouped to the right
grouped : (a b c d e f : Bool) → (a && (b && (c && (d && (e && f))))) ≡ (a && b && c && d && e && f)
grouped false b c d e f = refl
grouped true false c d e f = refl
grouped true true false d e f = refl
grouped true true true false e f = refl
grouped true true true true e f = refl

-- what is compared beside the kind
same_rest : Bool → PacketMsg → PacketMsg → Bool
same_rest same m n =
    same && (m.sequence == n.sequence) && (m.floor == n.floor) && option_eq nat_eq m.expires n.expires && option_eq nat_eq m.since n.since
    && option_eq nat_eq m.timeout n.timeout

alike : (m n : PacketMsg) → eq-value.it m n ≡ same_packet_message m n
unfolding same_rest
alike m n =
    grouped (sameb the_type m.kind n.kind) (m.sequence == n.sequence) (m.floor == n.floor) (option_eq nat_eq m.expires n.expires)
    (option_eq nat_eq m.since n.since) (option_eq nat_eq m.timeout n.timeout)
    ∙ ap (λ same. same_rest same m n) (same_kinds m.kind n.kind)

pub returns : goal.returns
returns c = c.eq.ensures ∙ (λ i. pointwise (λ m n. alike m n i) c.args.messages.now c.args.others.now)
