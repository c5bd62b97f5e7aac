-- The identifier of a port or a channel is ASCII, so its bytes are a text.
use Rattle.std.proofs.Common.{◌<◌, ℕ, List, length, arith, inl, inr, refl}
use Rattle.std.specs.Prelude.{Result, Ok, Err, IsOk, MatchResult, IsUtf8}
use Rattle.std.specs.Str.{IsAscii}
use Rattle.std.proofs.lemmas.Bool.{cases_lt}
use Rattle.std.proofs.lemmas.Bool.Decides.{nat_tests}
use Rattle.std.proofs.lemmas.List.{get_or_past}
use Rattle.std.proofs.lemmas.List.Elements.{All-get_or}
use Rattle.std.proofs.lemmas.Str.{IsUtf8-from_ascii}
use Rattle.rb_base.specs.Identifier.{IsIdentifierByte}
use Rattle.rb_script_types.specs.EndIds.{IsEndId}

identifier_byte-small : (b : ℕ) → IsIdentifierByte b → b < 128
identifier_byte-small b h = grind (arith, nat_tests)

end_id-IsAscii : (text : List ℕ) → IsEndId text → IsAscii text
end_id-IsAscii text h i =
    elim (cases_lt i (length text)) [
      | inl within ↦ identifier_byte-small _ (All-get_or IsIdentifierByte text i 0 within h.2)
      | inr past ↦ omega (arith, get_or_past text i 0 past)
    ]

-- the test for UTF-8 passes at an identifier
pub end_id-is_text : {T E : Type 0} (r : Result T E) (P : T → Type 0) (Q : E → Type 0) (text : List ℕ)
    → IsEndId text → MatchResult r P (λ e. (¬ (IsUtf8 text)) × Q e) → IsOk r
end_id-is_text (Ok t) P Q text h m = refl
end_id-is_text (Err e) P Q text h m = absurd (m.0 (IsUtf8-from_ascii text (end_id-IsAscii text h)))
