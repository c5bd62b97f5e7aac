-- The text of a document, before its tables are read.
use Rattle.std.proofs.Common.{◌≡◌, ℕ, ◌≤◌, List, length, codes, Bool, true, false, Some, None, Ok, IsUtf8, nat_lt, if◌then◌else◌, refl, ap, arith}
use Rattle.std.specs.Str.{is_utf8}
use Rattle.std.proofs.lemmas.Bool.{false_from_ne_true, ltb-true}
use Rattle.std.proofs.lemmas.Str.{is_utf8-from_IsUtf8, IsUtf8-from_is_utf8}
use Rattle.toml.specs.Data.{Members}
use Rattle.toml.specs.Parse.{parse_document}
use Rattle.rb_script_toml.specs.Faults.{fault}
use Rattle.rb_script_toml.specs.declared.fault.FaultName.TheVariants.{NotToml}
use Rattle.rb_script_toml.specs.Documents.{max_bytes, max_marks, document, whole, of_document}
use Rattle.rb_script_toml.specs.Marks.{marks}

not_big : (bytes : List ℕ) → length bytes ≤ max_bytes → nat_lt max_bytes (length bytes) ≡ false
not_big bytes h = false_from_ne_true _ (λ e. let big = ltb-true max_bytes (length bytes) e in omega arith)

few_marks : (bytes : List ℕ) → marks bytes ≤ max_marks → nat_lt max_marks (marks bytes) ≡ false
few_marks bytes h = false_from_ne_true _ (λ e. let many = ltb-true max_marks (marks bytes) e in omega arith)

pub document-parsed : (bytes : List ℕ) (ms : Members) → length bytes ≤ max_bytes → marks bytes ≤ max_marks → IsUtf8 bytes → parse_document bytes ≡ Some ms
    → document bytes ≡ Ok (whole ms)
unfolding document
document-parsed bytes ms small few utf8 parsed =
    rw (not_big bytes small, few_marks bytes few, is_utf8-from_IsUtf8 bytes utf8, parsed) refl

no_document : (bytes : List ℕ) → (IsUtf8 bytes → parse_document bytes ≡ None) → (b : Bool) → is_utf8 bytes ≡ b
    → of_document (if b then parse_document bytes else None) ≡ fault NotToml (codes "-")
no_document bytes none true e = ap of_document (none (IsUtf8-from_is_utf8 bytes e))
no_document bytes none false e = refl

pub document-refused : (bytes : List ℕ) → length bytes ≤ max_bytes → marks bytes ≤ max_marks → (IsUtf8 bytes → parse_document bytes ≡ None)
    → document bytes ≡ fault NotToml (codes "-")
unfolding document
document-refused bytes small few none =
    rw (not_big bytes small, few_marks bytes few) (no_document bytes none (is_utf8 bytes) refl)
