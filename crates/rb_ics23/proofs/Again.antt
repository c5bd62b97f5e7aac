-- Each field is read as it was written.
use Rattle.std.proofs.Common.{◌≡◌, ℕ, zero, suc, ◌^◌, ◌<◌, ◌≤◌, ◌==◌, true, false, List, [], ◌∷◌, ◌++◌, length, Option, Some, None, refl, sym, ap, ◌∙◌, arith, append_assoc, length-append}
use Rattle.std.proofs.lemmas.Bool.{lt-leb, ne_eqb}
use Rattle.std.proofs.lemmas.List.{append-nil}
use Rattle.std.proofs.Math.Seq.{take-append_seam, drop-append_seam}
use Rattle.rb_ics23.specs.declared.proof.HashOp.TheVariants.{NoHash, Sha256}
use Rattle.rb_ics23.specs.declared.proof.LengthOp.TheVariants.{VarProto}
use Rattle.rb_ics23.specs.Varint.{varint, varint_at}
use Rattle.rb_ics23.proofs.Varints.{varint_at-varint}
use Rattle.rb_ics23.specs.Proof.{Inner, Existence, NonExistence}
use Rattle.rb_ics23.specs.Fields.{part, field, number}
use Rattle.rb_ics23.specs.Ops.{◌>>=◌, leaf_in, inner_in}
use Rattle.rb_ics23.specs.Read.{step_in, step_at, path_in, existence_in, side_in, sides_in, existence, non_existence}
use Rattle.rb_ics23.specs.Written.{field_text, leaf_text, inner_text, path_text, existence_text, side_text, absence_text, IsShort, AreShort, IsPlain, IsPlainSide, IsExistenceReadAgain, IsAbsenceReadAgain}

part-written : (bytes rest : List ℕ) → 0 < length bytes → length bytes < 2 ^ 64 → part (varint (length bytes) ++ (bytes ++ rest)) ≡ Some (bytes, rest)
unfolding part
part-written bytes rest some short =
    rw (
      varint_at-varint (length bytes) (bytes ++ rest) short,
      ne_eqb (length bytes) 0 (λ e. omega arith),
      lt-leb (suc (length (bytes ++ rest))) (length bytes) (omega (arith, length-append bytes rest)),
      take-append_seam bytes rest,
      drop-append_seam bytes rest,
    ) refl

-- another field stands here, or none
abbrev Skips : ℕ → List ℕ → Type 0
Skips tag rest = field tag rest ≡ Some ([], rest)

skips_end : (tag : ℕ) → Skips tag []
unfolding field
skips_end tag = refl

skips_other : (tag other : ℕ) (bytes rest : List ℕ) → (other == tag) ≡ false → Skips tag rest → Skips tag (field_text other bytes ++ rest)
unfolding field field_text
skips_other tag other [] rest h skips = skips
skips_other tag other (b ∷ bytes) rest h skips = rw h refl

skips_path : (tag : ℕ) (path : List Inner) → (34 == tag) ≡ false → Skips tag (path_text path)
unfolding path_text
skips_path tag [] h = skips_end tag
skips_path tag (step ∷ steps) h = skips_other tag 34 (inner_text step.prefix step.suffix) (path_text steps) h (skips_path tag steps h)

skips_last : (tag other : ℕ) (bytes : List ℕ) → (other == tag) ≡ false → Skips tag (field_text other bytes)
unfolding field field_text
skips_last tag other [] h = refl
skips_last tag other (b ∷ bytes) h = rw h refl

field-some : (tag : ℕ) (bytes rest : List ℕ) → (tag == tag) ≡ true → 0 < length bytes → length bytes < 2 ^ 64 → field tag (field_text tag bytes ++ rest) ≡ Some (bytes, rest)
unfolding field field_text
field-some tag [] rest h some short = absurd (omega arith)
field-some tag (b ∷ bytes) rest h some short =
    rw h (ap part (append_assoc (varint (length (b ∷ bytes))) (b ∷ bytes) rest) ∙ part-written (b ∷ bytes) rest some short)

field-written : (tag : ℕ) (bytes rest : List ℕ) → (tag == tag) ≡ true → length bytes < 2 ^ 64 → Skips tag rest → field tag (field_text tag bytes ++ rest) ≡ Some (bytes, rest)
unfolding field_text
field-written tag [] rest h short skips = skips
field-written tag (b ∷ bytes) rest h short skips = field-some tag (b ∷ bytes) rest h (omega arith) short

field-last : (tag : ℕ) (bytes : List ℕ) → (tag == tag) ≡ true → length bytes < 2 ^ 64 → field tag (field_text tag bytes) ≡ Some (bytes, [])
field-last tag bytes h short =
    ap (field tag) (sym (append-nil (field_text tag bytes))) ∙ field-written tag bytes [] h short (skips_end tag)

leaf-written : (prefix : List ℕ) → IsShort prefix
    → leaf_in (leaf_text prefix) ≡ Some (record { hash = Sha256; prehash_key = NoHash; prehash_value = Sha256; length = VarProto; prefix = prefix })
unfolding leaf_in leaf_text number varint_at
leaf-written prefix short = rw (field-last 42 prefix refl short) refl

inner-written : (prefix suffix : List ℕ) → IsShort prefix → IsShort suffix
    → inner_in (inner_text prefix suffix) ≡ Some (record { hash = Sha256; prefix = prefix; suffix = suffix })
unfolding inner_in inner_text number varint_at
inner-written prefix suffix front back =
    rw (field-written 18 prefix (field_text 26 suffix) refl front (skips_last 18 26 suffix refl), field-last 26 suffix refl back) refl

inner_text-some : (prefix suffix : List ℕ) → 0 < length (inner_text prefix suffix)
unfolding inner_text
inner_text-some prefix suffix = omega arith

step_in-some : (bytes : List ℕ) → 0 < length bytes → step_in bytes ≡ inner_in bytes
step_in-some bytes some = rw (ne_eqb (length bytes) 0 (λ e. omega arith)) refl

step-written : (prefix suffix rest : List ℕ) → IsShort prefix → IsShort suffix → IsShort (inner_text prefix suffix)
    → step_at (field_text 34 (inner_text prefix suffix) ++ rest) ≡ Some (record { hash = Sha256; prefix = prefix; suffix = suffix }, rest)
unfolding step_at
step-written prefix suffix rest front back short =
    let some = inner_text-some prefix suffix in
    rw (field-some 34 (inner_text prefix suffix) rest refl some short)
    (rw (step_in-some (inner_text prefix suffix) some ∙ inner-written prefix suffix front back) refl)

path_in-more : (most : ℕ) (bytes : List ℕ) → 0 < length bytes
    → path_in (suc most) bytes ≡ (step_at bytes >>= λ step. path_in most step.1 >>= λ steps. Some (step.0 ∷ steps))
unfolding path_in
path_in-more most [] some = absurd (omega arith)
path_in-more most (b ∷ bytes) some = refl

field_text-some : (tag : ℕ) (bytes rest : List ℕ) → 0 < length bytes → 0 < length (field_text tag bytes ++ rest)
unfolding field_text
field_text-some tag [] rest some = absurd (omega arith)
field_text-some tag (b ∷ bytes) rest some = omega arith

path_in-end : (most : ℕ) → path_in most [] ≡ Some []
unfolding path_in
path_in-end zero = refl
path_in-end (suc most) = refl

path-written : (most : ℕ) (path : List Inner) → AreShort path → length path ≤ most → path_in most (path_text path) ≡ Some path
unfolding path_text
path-written most [] short h = path_in-end most
path-written zero (step ∷ steps) short h = absurd (omega arith)
path-written (suc most) (step ∷ steps) (hash, front, back, whole, more) h =
    let some = field_text-some 34 (inner_text step.prefix step.suffix) (path_text steps) (inner_text-some step.prefix step.suffix) in
    path_in-more most (field_text 34 (inner_text step.prefix step.suffix) ++ path_text steps) some
    ∙ rw (step-written step.prefix step.suffix (path_text steps) front back whole)
    (rw (path-written most steps more (omega arith))
    (ap (λ op. Some (record { hash = op; prefix = step.prefix; suffix = step.suffix } ∷ steps)) (sym hash)))

existence_in-written : (p : Existence) → IsPlain p → existence_in (existence_text p) ≡ Some p
unfolding existence_in existence_text
existence_in-written p plain =
    let leaf = leaf_text p.leaf.prefix in
    let path = path_text p.path in
    rw (field-written 10 p.key (field_text 18 p.value ++ (field_text 26 leaf ++ path)) refl plain.key
    (skips_other 10 18 p.value (field_text 26 leaf ++ path) refl (skips_other 10 26 leaf path refl (skips_path 10 p.path refl))))
    (rw (field-written 18 p.value (field_text 26 leaf ++ path) refl plain.value (skips_other 18 26 leaf path refl (skips_path 18 p.path refl)))
    (rw (field-written 26 leaf path refl plain.leaf_short (skips_path 26 p.path refl))
    (rw (leaf-written p.leaf.prefix plain.prefix)
    (rw (path-written 128 p.path plain.path plain.steps)
    (ap (λ l. Some (record { key = p.key; value = p.value; leaf = l; path = p.path })) (sym plain.leaf))))))

pub existence-written : IsExistenceReadAgain
unfolding existence
existence-written p plain = rw (field-last 10 (existence_text p) refl plain.whole) (existence_in-written p plain)

existence_text-some : (p : Existence) → 0 < length (existence_text p)
unfolding existence_text leaf_text field_text
existence_text-some p =
    let leaf = leaf_text p.leaf.prefix in
    let path = path_text p.path in
    let last : 0 < length (field_text 26 leaf ++ path) = field_text-some 26 leaf path (omega arith) in
    omega (
      arith,
      length-append (field_text 10 p.key) (field_text 18 p.value ++ (field_text 26 leaf ++ path)),
      length-append (field_text 18 p.value) (field_text 26 leaf ++ path),
      last,
    )

side_in-written : (side : Option Existence) → IsPlainSide side → side_in (side_text side) ≡ Some side
unfolding side_in
side_in-written None plain = refl
side_in-written (Some p) plain =
    rw (ne_eqb (length (existence_text p)) 0 (λ e. omega (arith, existence_text-some p)), existence_in-written p plain) refl

side_short : (side : Option Existence) → IsPlainSide side → IsShort (side_text side)
side_short None plain = omega arith
side_short (Some p) plain = plain.whole

sides_in-written : (key : List ℕ) (p : NonExistence) → IsShort key → IsPlainSide p.left → IsPlainSide p.right
    → sides_in (absence_text key p) ≡ Some p
unfolding sides_in absence_text
sides_in-written key p short before behind =
    let l = side_text p.left in
    let r = side_text p.right in
    rw (field-written 10 key (field_text 18 l ++ field_text 26 r) refl short
    (skips_other 10 18 l (field_text 26 r) refl (skips_last 10 26 r refl)))
    (rw (field-written 18 l (field_text 26 r) refl (side_short p.left before) (skips_last 18 26 r refl))
    (rw (field-last 26 r refl (side_short p.right behind))
    (rw (side_in-written p.left before)
    (rw (side_in-written p.right behind) refl))))

pub absence-written : IsAbsenceReadAgain
unfolding non_existence
absence-written key p short before behind whole =
    rw (field-last 18 (absence_text key p) refl whole) (sides_in-written key p short before behind)
