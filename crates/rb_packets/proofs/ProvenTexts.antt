-- A message that is made has proofs that show its claim.
use Rattle.std.proofs.Common.{◌≡◌, ℕ, Bool, true, false, cond, List, Option, Some, None, Ok, Err, IfOk, refl, subst}
use Rattle.rb_packets.specs.Answers.{StoreAnswer, store_answer}
use Rattle.rb_packets.specs.Judging.{if_answer, judged, judged_answer, proven_by}
use Rattle.rb_packets.specs.Proving.{proves}
use Rattle.rb_packets.specs.declared.judging.ProofError.TheVariants.{NotProven}
use Rattle.rb_packets.specs.Messages.{Due, IsProven, claim_of, message_of, packet_of, text_by}

made : (d : Due) (signer answer : List ℕ) → IfOk (message_of d signer answer) (IsProven d signer answer)
unfolding judged judged_answer
made d signer answer = if_stored (store_answer answer) refl
  where
    if_proven : (a : StoreAnswer) → store_answer answer ≡ Some a → (b : Bool) → proves d.app_hash (packet_of d) (claim_of d) a ≡ b
        → IfOk (text_by d signer (cond b (Ok (proven_by (packet_of d) (claim_of d) a)) (Err NotProven))) (IsProven d signer answer)
    if_proven a answered true shown = record { stored = a; answered = answered; shown = shown; told = refl }
    if_proven a answered false shown = tt

    if_stored : (o : Option StoreAnswer) → store_answer answer ≡ o → IfOk (text_by d signer (if_answer d.app_hash (packet_of d) (claim_of d) o)) (IsProven d signer answer)
    if_stored None answered = tt
    if_stored (Some a) answered = if_proven a answered (proves d.app_hash (packet_of d) (claim_of d) a) refl

pub proven : (d : Due) (signer answer text : List ℕ) → message_of d signer answer ≡ Ok text → IsProven d signer answer text
proven d signer answer text is = subst (λ made. IfOk made (IsProven d signer answer)) is (made d signer answer)
