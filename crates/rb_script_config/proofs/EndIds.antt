-- The test of an identifier of a port or a channel decides whether it is one.
use Rattle.std.proofs.Common.{◌≡◌, ℕ, List, length, All, true, false, Option, Some, None, SomeIff, is_some, refl, sym}
use Rattle.std.specs.Bool.{Decides}
use Rattle.std.specs.List.{list_all}
use Rattle.std.proofs.lemmas.Bool.{false_from_ne_true, and_parts, and_from, le-leb, leb-true}
use Rattle.std.proofs.lemmas.Bool.Decides.{Decides-by_and}
use Rattle.rb_base.specs.Identifier.{IsIdentifierByte}
use Rattle.rb_script_types.specs.EndIds.{IsEndId}
use Rattle.rb_script_toml.specs.Identifiers.{is_identifier_byte}
use Rattle.rb_script_config.specs.Channels.{is_end_id}

bytes-Decides : (text : List ℕ) → Decides (list_all is_identifier_byte text) (All IsIdentifierByte text)
bytes-Decides = Decides-by_and is_identifier_byte IsIdentifierByte (list_all is_identifier_byte) (λ b. (λ h. h, λ h. h)) refl (λ _ _. refl)

is_end_id-true : (text : List ℕ) → IsEndId text → is_end_id text ≡ true
is_end_id-true text h =
    and_from _ _ (and_from _ _ (le-leb 1 (length text) h.0) (le-leb (length text) 128 h.1)) ((bytes-Decides text).1 h.2)

pub IsEndId-from_test : (text : List ℕ) → is_end_id text ≡ true → IsEndId text
IsEndId-from_test text h =
    let outer = and_parts _ _ h in
    let inner = and_parts _ _ outer.0 in
    (leb-true 1 (length text) inner.0, leb-true (length text) 128 inner.1, (bytes-Decides text).0 outer.1)

is_end_id-false : (text : List ℕ) → ¬ IsEndId text → is_end_id text ≡ false
is_end_id-false text h = false_from_ne_true _ (λ e. h (IsEndId-from_test text e))

-- what is made of a text where it is such an identifier, and of no other
pub is_some-is_end_id : (text : List ℕ) (r : Option (List ℕ)) → SomeIff r (IsEndId text) text → is_some r ≡ is_end_id text
is_some-is_end_id text None h = sym (is_end_id-false text h)
is_some-is_end_id text (Some x) h = sym (is_end_id-true text h.0)

pub ruleset end_ids = (IsEndId-from_test)
