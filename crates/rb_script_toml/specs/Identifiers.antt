-- Whether a text is an identifier, as a test (the characters: ICS 24; the length: own choice).
use Rattle.std.specs.Prelude.{ℕ, Bool, ◌&&◌, ◌||◌, ◌==◌, nat_le, List, length, codes}
use Rattle.std.specs.List.{list_all, list_any}
use Rattle.std.specs.Char.{is_ascii_alphanumeric}

-- a letter, a digit, or one of . _ + - # [ ] < >
abbrev pub is_identifier_byte : ℕ → Bool
is_identifier_byte b = is_ascii_alphanumeric b || list_any (λ c. c == b) (codes "._+-#[]<>")

-- 1 to 64 such characters
abbrev pub is_identifier : List ℕ → Bool
is_identifier text = nat_le 1 (length text) && nat_le (length text) 64 && list_all is_identifier_byte text
