-- What a node is asked for the proof of a claim (CometBFT, `/abci_query`; Cosmos SDK, `store/NAME/key`), and where its answer is kept (own choice).
use Rattle.std.specs.Prelude.{ℕ, ◌-◌, List, ◌++◌, codes}
use Rattle.std.specs.Fmt.{decimal}
use Rattle.hex.specs.Hex.{encode_lower}
use Rattle.rb_packets.specs.Packets.{ChannelPacket}
use Rattle.rb_packets.specs.Claims.{Claim, acknowledged, awaited, key_of, sent, unreceived}

abbrev pub query_text : List ℕ → ℕ → List ℕ
query_text digits block =
    codes "/abci_query?path=%22store/ibc/key%22&data=0x" ++ (digits ++ (codes "&height=" ++ (decimal block ++ codes "&prove=true")))

-- the header of the proof height has the app hash after the block before it
unfoldable pub query_of : ChannelPacket → Claim → ℕ → List ℕ
query_of p c proof_height = query_text (encode_lower (key_of p c)) (proof_height - 1)

-- the message of a claim, as reports name it
abbrev pub kind_of : Claim → List ℕ
kind_of sent = codes "recv"
kind_of (acknowledged bytes) = codes "ack"
kind_of unreceived = codes "timeout"
kind_of awaited = codes "timeout"

abbrev pub file_name : ChannelPacket → Claim → ℕ → List ℕ
file_name p c proof_height = kind_of c ++ (codes "-" ++ (decimal p.sequence ++ (codes "-" ++ (decimal proof_height ++ codes ".json"))))
