-- Whether a message of a packet was settled, by what another settlement would change.
use Rattle.std.proofs.Common.{◌≡◌, true, ap}
use Rattle.std.proofs.lemmas.Bool.Decides.{same_from_decides}
use Rattle.rb_scan.specs.Packet.{Packet}
use Rattle.rb_scan.specs.Same.{same_packet, same_packet-Decides}

pub receive_told : (q : Packet) → same_packet q (record q { receive_settled = true }) ≡ q.receive_settled
receive_told q =
    same_from_decides (same_packet q (record q { receive_settled = true })) q.receive_settled (same_packet-Decides q (record q { receive_settled = true }))
    (λ e i. record q { receive_settled = e i }, λ e. ap (λ (x : Packet). x.receive_settled) e)

pub outcome_told : (q : Packet) → same_packet q (record q { outcome_settled = true }) ≡ q.outcome_settled
outcome_told q =
    same_from_decides (same_packet q (record q { outcome_settled = true })) q.outcome_settled (same_packet-Decides q (record q { outcome_settled = true }))
    (λ e i. record q { outcome_settled = e i }, λ e. ap (λ (x : Packet). x.outcome_settled) e)
