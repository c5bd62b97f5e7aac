-- Where a search by key ends in a list with rising keys.
use Rattle.std.specs.Prelude.{◌≡◌, ℕ, ◌<◌, Bool, List, length, find, count_by, slice_get, None, Result, MatchResult}

-- the value that passes the test stands at this place
pub record IsKnownPlace {X : Type 0} (is_it : X → Bool) (xs : List X) (place : ℕ) : Type 0 where
  pub found : find is_it xs ≡ slice_get xs place
  pub within : place < length xs

-- no value passes the test, and one that does belongs at this place, after those below it
pub record IsNewPlace {X : Type 0} (is_it is_lower : X → Bool) (xs : List X) (place : ℕ) : Type 0 where
  pub absent : find is_it xs ≡ None
  pub after : place ≡ count_by is_lower xs

abbrev pub IsPlace : {X : Type 0} → (X → Bool) → (X → Bool) → List X → Result ℕ ℕ → Type 0
IsPlace is_it is_lower xs place = MatchResult place (IsKnownPlace is_it xs) (IsNewPlace is_it is_lower xs)
