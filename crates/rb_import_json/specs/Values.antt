-- What a text of an answer says; none where it says nothing of that kind.
use Rattle.std.specs.Prelude.{ℕ, ◌+◌, ◌-◌, ◌*◌, ◌^◌, ◌&&◌, ◌||◌, ◌==◌, nat_le, nat_lt, if◌then◌else◌, Bool, List, length, take, slice_index, Option, Some, None, ℤ, pos, negsuc, Result, Ok, Err, codes, option_map, option_and_then}
use Rattle.std.specs.List.{list_all, list_any, position_or_len, before_first, after_first}
use Rattle.std.specs.Result.{result_ok}
use Rattle.std.specs.Char.{digit_value, is_ascii_alphanumeric}
use Rattle.std.specs.Str.Parse.{digits_value, without_leading_plus}
use Rattle.hex.specs.Hex.{decode_of as hex_decode_of, decode_sized}
use Rattle.base64.specs.Engines.{standard}
use Rattle.base64.specs.GeneralPurpose.{decode_of, decode_slice_of, decoded_bytes_of}
use Rattle.base64.specs.declared.decode.DecodeSliceError.{DecodeSliceError}
use Rattle.jiff.specs.Words.{parse_timestamp, Error as JiffError}

-- one decimal digit or more, and nothing else
abbrev pub is_numeral : List ℕ → Bool
is_numeral digits = nat_lt 0 (length digits) && list_all (λ c. nat_lt (digit_value c) 10) digits

abbrev pub number_below : ℕ → List ℕ → Option ℕ
number_below limit digits = if is_numeral digits && nat_lt (digits_value 10 digits) limit then Some (digits_value 10 digits) else None

-- a number below 2 ^ 64 in decimal digits, as CometBFT and ibc-go write numbers; a plus may stand before them
unfoldable pub number_of : List ℕ → Option ℕ
number_of text = number_below (2 ^ 64) (without_leading_plus text)

-- a block's height (CometBFT: from 1)
unfoldable pub height_of : ℕ → Option ℕ
height_of n = if nat_le 1 n && nat_lt n (2 ^ 63) then Some n else None

abbrev pub is_identifier_byte : ℕ → Bool
is_identifier_byte b = is_ascii_alphanumeric b || list_any (λ c. c == b) (codes "._+-#[]<>")

-- an identifier: 1 to 64 such characters (the characters: ICS 24; the length: own choice)
unfoldable pub identifier_of : List ℕ → Option (List ℕ)
identifier_of text = if nat_le 1 (length text) && nat_le (length text) 64 && list_all is_identifier_byte text then Some text else None

-- from 1970 on, at most 10 ^ 20 nanoseconds later (own choice)
abbrev pub in_range : Result ℤ JiffError → Option ℕ
in_range (Ok (pos n)) = if nat_le n (10 ^ 20) then Some n else None
in_range (Ok (negsuc n)) = None
in_range (Err e) = None

-- nanoseconds since 1970, of a time that `jiff` reads as a timestamp (RFC 3339, as CometBFT writes times, or ISO 8601 with an offset)
unfoldable pub moment_of : List ℕ → Option ℕ
moment_of text = in_range (parse_timestamp text)

-- so many bytes, in hexadecimal digits
unfoldable pub bytes_of : ℕ → List ℕ → Option (List ℕ)
bytes_of count text = result_ok (decode_sized text count)

abbrev pub if_all : ℕ → List ℕ → Result ℕ DecodeSliceError → Option (List ℕ)
if_all count bytes (Ok n) = if n == count then Some bytes else None
if_all count bytes (Err e) = None

-- so many bytes, in base64 (RFC 4648)
unfoldable pub key_of : ℕ → List ℕ → Option (List ℕ)
key_of count text = if_all count (decoded_bytes_of standard text) (decode_slice_of standard text count)

-- bytes, where they aren't too many
abbrev pub up_to : ℕ → List ℕ → Option (List ℕ)
up_to limit bytes = if nat_lt limit (length bytes) then None else Some bytes

-- at most so many bytes, in hexadecimal digits
unfoldable pub bytes_up_to : ℕ → List ℕ → Option (List ℕ)
bytes_up_to limit text = option_and_then (up_to limit) (result_ok (hex_decode_of text))

-- at most so many bytes, in base64
unfoldable pub base64_up_to : ℕ → List ℕ → Option (List ℕ)
base64_up_to limit text = option_and_then (up_to limit) (result_ok (decode_of standard text))

-- 32 bytes, in hexadecimal digits as ibc-go writes a hash, or in base64 as protojson does, which is shorter
unfoldable pub hash_of : List ℕ → Option (List ℕ)
hash_of text = if length text == 64 then bytes_of 32 text else key_of 32 text
