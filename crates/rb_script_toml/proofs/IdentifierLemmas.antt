-- The test of an identifier decides whether it is one.
use Rattle.std.proofs.Common.{◌≡◌, ℕ, List, length, All, true, false, Option, Some, None, SomeIff, is_some, refl, sym}
use Rattle.std.specs.Bool.{Decides}
use Rattle.std.specs.List.{list_all}
use Rattle.std.proofs.lemmas.Bool.{false_from_ne_true, and_parts, and_from, le-leb, leb-true}
use Rattle.std.proofs.lemmas.Bool.Decides.{Decides-by_and}
use Rattle.rb_base.specs.Identifier.{IsIdentifier, IsIdentifierByte}
use Rattle.rb_script_toml.specs.Identifiers.{is_identifier, is_identifier_byte}

bytes-Decides : (text : List ℕ) → Decides (list_all is_identifier_byte text) (All IsIdentifierByte text)
bytes-Decides = Decides-by_and is_identifier_byte IsIdentifierByte (list_all is_identifier_byte) (λ b. (λ h. h, λ h. h)) refl (λ _ _. refl)

pub is_identifier-true : (text : List ℕ) → IsIdentifier text → is_identifier text ≡ true
is_identifier-true text h =
    and_from _ _ (and_from _ _ (le-leb 1 (length text) h.0) (le-leb (length text) 64 h.1)) ((bytes-Decides text).1 h.2)

pub IsIdentifier-from_test : (text : List ℕ) → is_identifier text ≡ true → IsIdentifier text
IsIdentifier-from_test text h =
    let outer = and_parts _ _ h in
    let inner = and_parts _ _ outer.0 in
    (leb-true 1 (length text) inner.0, leb-true (length text) 64 inner.1, (bytes-Decides text).0 outer.1)

pub is_identifier-false : (text : List ℕ) → ¬ IsIdentifier text → is_identifier text ≡ false
is_identifier-false text h = false_from_ne_true _ (λ e. h (IsIdentifier-from_test text e))

-- what is made of a text where it is an identifier, and of no other
pub is_some-is_identifier : (text : List ℕ) (r : Option (List ℕ)) → SomeIff r (IsIdentifier text) text → is_some r ≡ is_identifier text
is_some-is_identifier text None h = sym (is_identifier-false text h)
is_some-is_identifier text (Some x) h = sym (is_identifier-true text h.0)

pub ruleset identifiers = (IsIdentifier-from_test)
