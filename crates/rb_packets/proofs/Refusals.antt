-- Want of memory is no refusal.
use Rattle.std.proofs.Common.{◌≡◌, Result, sym, subst}
use Rattle.rb_packets.specs.Judging.{Proven, Refuses}
use Rattle.rb_packets.specs.declared.judging.ProofError.{ProofError}
use Rattle.rb_packets.specs.declared.judging.ProofError.TheVariants.{NoMemory}

pub for_memory : (e : ProofError) (judged : Result Proven ProofError) → e ≡ NoMemory → Refuses e judged
for_memory e judged is = subst (λ e. Refuses e judged) (sym is) tt

pub ruleset refusals = (for_memory)
