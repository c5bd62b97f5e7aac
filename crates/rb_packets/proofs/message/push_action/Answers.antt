use Rattle.std.proofs.Common.{append_assoc, refl}
use Rattle.std.proofs.lemmas.Result.{on_ok_weaker}
use Rattle.rb_packets.specs.MessageTexts.{action_members}
use Rattle.rb_packets.proofs.message.push_action.Goals as goal

pub returns-in_ok-push_bytes-in-Acknowledge : goal.returns-in_ok-push_bytes-in-Acknowledge
unfolding action_members
returns-in_ok-push_bytes-in-Acknowledge c =
    on_ok_weaker c.push_proof-in-Acknowledge.result
    (λ last. rw last (rw c.in_ok-push_bytes-in-Acknowledge.ensures (rw c.in-Acknowledge.is (simp append_assoc refl))))
    c.push_proof-in-Acknowledge.ensures

pub returns-in_ok-push_number-in-Timeout : goal.returns-in_ok-push_number-in-Timeout
unfolding action_members
returns-in_ok-push_number-in-Timeout c =
    on_ok_weaker c.push_proof-in-Timeout.result
    (λ last. rw last (rw c.in_ok-push_number-in-Timeout.ensures (rw c.in-Timeout.is (simp append_assoc refl))))
    c.push_proof-in-Timeout.ensures
