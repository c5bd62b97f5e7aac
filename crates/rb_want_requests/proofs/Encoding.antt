-- The bytes of identifiers and keys in a URL.
use Rattle.std.proofs.Common.{◌≡◌, ℕ, ◌<◌, ◌^◌, ◌-◌, [], ◌∷◌, true, false, encode_utf8, arith, refl}
use Rattle.std.specs.Fmt.{digits, format_spec, padded_integral}
use Rattle.std.proofs.lemmas.Bool.Decides.{nat_tests}
use Rattle.std.proofs.lemmas.Fmt.{hex_byte}
use Rattle.std.proofs.lemmas.Str.Ascii.{encode_ascii}
use Rattle.rb_want_requests.specs.PacketPaths.{encoded_byte, is_plain}

plain_is_ascii : (b : ℕ) → is_plain b ≡ true → b < 128
unfolding is_plain
plain_is_ascii b e = grind (arith, nat_tests)

-- a byte that stands for itself is written as the character
pub plain_byte : (b : ℕ) → is_plain b ≡ true → encode_utf8 b ≡ encoded_byte b
unfolding encoded_byte
plain_byte b e = rw e (encode_ascii b (plain_is_ascii b e))

-- another one as `%` and two digits
pub other_byte : (b : ℕ) → b < 256 → is_plain b ≡ false
    → 37 ∷ padded_integral (format_spec 32 0 4 2 (2 ^ 64 - 1)) false [] (digits 16 true b) ≡ encoded_byte b
unfolding encoded_byte
other_byte b small e = rw (e, hex_byte true b small) refl
