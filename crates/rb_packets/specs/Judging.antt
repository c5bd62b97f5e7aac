-- What a message has of a node's answer, or why the answer isn't taken.
use Rattle.std.specs.Prelude.{◌≡◌, ⊤, ℕ, List, if◌then◌else◌, Option, Some, None, unwrap_or, Result, Ok, Err}
use Rattle.rb_ics23.specs.Merkle.{merkle_proof}
use Rattle.rb_packets.specs.Answers.{StoreAnswer, store_answer}
use Rattle.rb_packets.specs.Packets.{ChannelPacket, next_sequence_in}
use Rattle.rb_packets.specs.declared.judging.ProofError.{ProofError}
use Rattle.rb_packets.specs.declared.judging.ProofError.TheVariants.{NoMemory, NoProof, NotProven}
use Rattle.rb_packets.specs.declared.judging.Proven.{Proven as CodeProven}
use Rattle.rb_packets.specs.Claims.{Claim, acknowledged, awaited, sent, unreceived}
use Rattle.rb_packets.specs.Proving.{proves}

pub record Proven : Type 0 where
  pub proof : List ℕ
  pub next : ℕ

abbrev pub proven_view : CodeProven → Proven
proven_view p = record { proof = p.proof.items; next = p.next }

-- the sequence that the packet's destination receives next: on an ORDERED channel by the value that is stored, else the packet's own (own choice:
-- `MsgTimeout` wants one above 0, and of an UNORDERED channel nobody reads it)
abbrev pub next_in : ChannelPacket → Claim → StoreAnswer → ℕ
next_in p sent a = p.sequence
next_in p (acknowledged bytes) a = p.sequence
next_in p unreceived a = p.sequence
next_in p awaited a = unwrap_or (next_sequence_in a.value) p.sequence

-- what a message has of an answer that proves its claim
abbrev pub proven_by : ChannelPacket → Claim → StoreAnswer → Proven
proven_by p c a = record { proof = merkle_proof a.proof a.store; next = next_in p c a }

unfoldable pub judged_answer : List ℕ → ChannelPacket → Claim → StoreAnswer → Result Proven ProofError
judged_answer app_hash p c a = if proves app_hash p c a then Ok (proven_by p c a) else Err NotProven

abbrev pub if_answer : List ℕ → ChannelPacket → Claim → Option StoreAnswer → Result Proven ProofError
if_answer app_hash p c None = Err NoProof
if_answer app_hash p c (Some a) = judged_answer app_hash p c a

unfoldable pub judged : List ℕ → ChannelPacket → Claim → List ℕ → Result Proven ProofError
judged app_hash p c answer = if_answer app_hash p c (store_answer answer)

-- the error is the refusal, unless memory ran out
abbrev pub Refuses : ProofError → Result Proven ProofError → Type 0
Refuses NoMemory judged = ⊤
Refuses NoProof judged = judged ≡ Err NoProof
Refuses NotProven judged = judged ≡ Err NotProven

-- the result is what the answer is judged to be, unless memory ran out
abbrev pub Judges : Result CodeProven ProofError → Result Proven ProofError → Type 0
Judges (Ok p) judged = judged ≡ Ok (proven_view p)
Judges (Err e) judged = Refuses e judged
