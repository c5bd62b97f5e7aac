-- The bits of a plane, by its bytes.
use Rattle.std.proofs.Common.{◌≡◌, ℕ, zero, suc, ◌+◌, ◌<◌, ◌≤◌, Bool, true, false, cond, eqb, List, [], ◌∷◌, length, get_or, drop, set, map, replicate, min, max, refl, sym, ap, ◌∙◌, arith}
use Rattle.std.specs.Int.{from_bool}
use Rattle.std.specs.Simd.Lanes.{chunk, zip2, top}
use Rattle.std.proofs.lemmas.List.{get_or-map, get_or-take, get_or-drop, drop-map, drop_min, length-map, map-set, set-get_or}
use Rattle.std.proofs.lemmas.Simd.{length-chunk}
use Rattle.rb_lanes.specs.Lanes.{bits_of}

abbrev is_one : ℕ → Bool
is_one byte = eqb byte 1

pub length-bits_of : (bytes : List ℕ) → length (bits_of bytes) ≡ length bytes
length-bits_of bytes = length-map bytes is_one

-- no byte of zeroes has a bit
pub no_bits : (n : ℕ) → bits_of (replicate n 0) ≡ replicate n false
no_bits zero = refl
no_bits (suc n) = ap (λ (l : List Bool). false ∷ l) (no_bits n)

-- a byte that becomes 1 sets the bit of its column alone
pub bit_raised : (bytes : List ℕ) (k : ℕ) → bits_of (set bytes k 1) ≡ set (bits_of bytes) k true
bit_raised bytes k = map-set is_one bytes k 1

-- the greater of a byte and a bit sets the bit of its column where the bit is set
pub bit_raised_if : (bytes : List ℕ) (k v : ℕ) (is_set : Bool) → get_or bytes k 0 ≤ 1 → v ≡ max (get_or bytes k 0) (from_bool is_set) → bits_of (set bytes k v) ≡ cond is_set (set (bits_of bytes) k true) (bits_of bytes)
bit_raised_if bytes k v true small e =
    let greatest : v ≡ max (get_or bytes k 0) 1 = e in
    let one : v ≡ 1 = omega (arith, greatest, small) in
    ap (λ (n : ℕ). bits_of (set bytes k n)) one ∙ bit_raised bytes k
bit_raised_if bytes k v false small e =
    let greatest : v ≡ max (get_or bytes k 0) 0 = e in
    let same : v ≡ get_or bytes k 0 = omega (arith, greatest) in
    ap (λ (n : ℕ). bits_of (set bytes k n)) same ∙ ap bits_of (set-get_or bytes k 0)

-- the test of a column's byte
pub bit_test : (bytes : List ℕ) (k d : ℕ) → k < length bytes → eqb (get_or bytes k d) 1 ≡ get_or (bits_of bytes) k false
bit_test bytes k d lt = sym (get_or-map is_one bytes k d false lt)

-- the bits from a column on
pub bits_from : (bytes : List ℕ) (first : ℕ) → bits_of (drop (min first (length bytes)) bytes) ≡ drop first (bits_of bytes)
bits_from bytes first = ap bits_of (drop_min first bytes) ∙ sym (drop-map is_one first bytes)

-- the bits of eight columns are the plane's there
pub bit_in_chunk : (bytes : List ℕ) (k j : ℕ) → k + 8 ≤ length bytes → j < 8 → get_or (bits_of (chunk k 8 bytes)) j false ≡ get_or (bits_of bytes) (k + j) false
bit_in_chunk bytes k j room lt =
    get_or-map is_one (chunk k 8 bytes) j 0 false (omega (arith, length-chunk k 8 bytes room))
    ∙ ap is_one (get_or-take 8 (drop k bytes) j 0 lt ∙ get_or-drop k bytes j 0)
    ∙ sym (get_or-map is_one bytes (k + j) 0 false (omega arith))

-- the lanes whose byte is 1, as the comparison of eight lanes finds them
top_test : (t : Bool) → top 63 (cond t 18446744073709551615 0) ≡ t
top_test true = refl
top_test false = refl

pub lanes_compared : (bytes : List ℕ) (n : ℕ) → length bytes ≡ n → map (top 63) (zip2 (λ a b. cond (eqb a b) 18446744073709551615 0) (map (λ (x : ℕ). x) bytes) (replicate n 1)) ≡ bits_of bytes
lanes_compared [] n e = refl
lanes_compared (b ∷ bs) zero e = absurd (omega arith)
lanes_compared (b ∷ bs) (suc n) e = λ i. top_test (is_one b) i ∷ lanes_compared bs n (omega arith) i
