-- One digit more is written.
use Rattle.std.proofs.Common.{◌≡◌, ℕ, ◌+◌, ◌/◌, ◌%◌, ◌^◌, ◌<◌, ◌≤◌, [], ◌∷◌, ◌++◌, List, append_assoc}
use Rattle.rb_ics23.specs.Varint.{varint}
use Rattle.rb_ics23.proofs.Varints.{varint-step}

pub written : (done new start : List ℕ) (digit rest number : ℕ) → new ≡ done ++ digit ∷ [] → digit ≡ rest % 128 + 128 → rest < 2 ^ 64 → 128 ≤ rest
    → done ++ varint rest ≡ start ++ varint number → new ++ varint (rest / 128) ≡ start ++ varint number
written done new start digit rest number e d small more h =
    let step : varint rest ≡ digit ∷ varint (rest / 128) = rw d (varint-step rest more small) in
    rw (e, append_assoc) (rw step at h)
