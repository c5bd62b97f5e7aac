-- The paths of packets (ICS 24, "Path-space"), which are the keys of the store `ibc`.
use Rattle.std.specs.Prelude.{ℕ, List, ◌++◌, codes}
use Rattle.std.specs.Fmt.{decimal}

-- what stands for a channel end, behind the word for it
abbrev pub channel_path : List ℕ → List ℕ → List ℕ → List ℕ
channel_path word port channel = word ++ (codes "/ports/" ++ (port ++ (codes "/channels/" ++ channel)))

-- the same for a packet of the channel
abbrev pub packet_path : List ℕ → List ℕ → List ℕ → ℕ → List ℕ
packet_path word port channel sequence =
    word ++ (codes "/ports/" ++ (port ++ (codes "/channels/" ++ (channel ++ (codes "/sequences/" ++ decimal sequence)))))

abbrev pub commitment_path : List ℕ → List ℕ → ℕ → List ℕ
commitment_path port channel sequence = packet_path (codes "commitments") port channel sequence

abbrev pub acknowledgement_path : List ℕ → List ℕ → ℕ → List ℕ
acknowledgement_path port channel sequence = packet_path (codes "acks") port channel sequence

abbrev pub receipt_path : List ℕ → List ℕ → ℕ → List ℕ
receipt_path port channel sequence = packet_path (codes "receipts") port channel sequence

abbrev pub next_sequence_path : List ℕ → List ℕ → List ℕ
next_sequence_path port channel = channel_path (codes "nextSequenceRecv") port channel
