use Rattle.std.proofs.Common.{◌≡◌, take}
use Rattle.std.specs.Prelude.{option_map}
use Rattle.rb_import_check.proofs.Powers.{power_from}
use Rattle.rb_import_check.proofs.signed.signed_power.Given as goal

-- the power of the members so far whose votes count
abbrev pub invariant-loop-place : goal.invariant-loop-place
invariant-loop-place l =
    l.signed ≡ power_from l.signatures (option_map (λ v. v.now) l.commit.verdict) 0 l.commit.header.now.signatures.items (take l.place l.set)
