-- The lines that end a part.
use Rattle.std.proofs.Common.{◌≡◌, ℕ, ◌-◌, Bool, true, false, List, ◌++◌, length, take, codes, refl, ap, ◌∙◌, length-append, arith}
use Rattle.std.proofs.Math.Seq.{take-append_seam}
use Rattle.hex.specs.Hex.{encode_lower, lower_digits}
use Rattle.hex.proofs.HexLemmas.{length-encode_with}
use Rattle.sha2.specs.Sha256.{sha256}
use Rattle.sha2.proofs.Facts256.{length-sha256}
use Rattle.rb_journal.specs.Parts.{closing, closing_length}

pub length-closing : (digests : Bool) (bytes : List ℕ) → length (closing digests bytes) ≡ closing_length digests
length-closing true bytes =
    let digits = length-encode_with lower_digits (sha256 bytes) in
    let size = length-sha256 bytes in
    let all = length-append (encode_lower (sha256 bytes)) (codes "\n# ---\n") in
    let whole = length-append (codes "# ") (encode_lower (sha256 bytes) ++ codes "\n# ---\n") in
    omega arith
length-closing false bytes = refl

-- without what ends a part
pub before-closing : (digests : Bool) (text bytes : List ℕ) → take (length (text ++ closing digests bytes) - closing_length digests) (text ++ closing digests bytes) ≡ text
before-closing digests text bytes =
    let all = length-append text (closing digests bytes) in
    let end = length-closing digests bytes in
    let place : length (text ++ closing digests bytes) - closing_length digests ≡ length text = omega arith in
    ap (λ (n : ℕ). take n (text ++ closing digests bytes)) place ∙ take-append_seam text (closing digests bytes)
