-- The list of updates that a light client's bisection makes (CometBFT light client specification, skipping verification and
-- Schedule: the header is tried at once; where a step is refused, the middle of the two heights; after each accepted step
-- again the header. Own: there are only the headers of the book, so of a middle the highest one up to it is tried, and
-- a step that is refused for any reason is bisected).
use Rattle.std.specs.Prelude.{◌≡◌, ℕ, ◌+◌, ◌/◌, ◌<◌, nat_lt, nat_le, Bool, ◌&&◌, max, List, [], ◌∷◌, map, filter, Option, Some}
use Rattle.std.specs.List.{reduce}
use Rattle.rb_book.specs.Book.{Book, header_height}
use Rattle.rb_step.specs.LightClient.{Update, Client}

abbrev pub is_between : ℕ → ℕ → ℕ → Bool
is_between trusted half h = nat_lt trusted h && nat_le h half

-- the highest header above the trusted height and up to the middle between it and the height that was tried
abbrev pub middle : Book → ℕ → ℕ → Option ℕ
middle b trusted tried = reduce max (filter (is_between trusted ((trusted + tried) / 2)) (map header_height b.headers))

abbrev pub update_to : ℕ → ℕ → Update
update_to height trusted = record { height = height; trusted = trusted }

-- from a trusted height, with a height that is tried next, these updates follow until the wanted height is trusted
pub data Bisects (client : Client) (b : Book) (wanted : ℕ) : ℕ → ℕ → List Update → Type 0 where
  arrived : {trusted tried : ℕ} → trusted ≡ wanted → Bisects client b wanted trusted tried []
  accepted : {trusted tried : ℕ} {us : List Update} → trusted < wanted → client.Accepts trusted tried
      → Bisects client b wanted tried wanted us → Bisects client b wanted trusted tried (update_to tried trusted ∷ us)
  refused : {trusted tried lower : ℕ} {us : List Update} → trusted < wanted → ¬ client.Accepts trusted tried → middle b trusted tried ≡ Some lower
      → Bisects client b wanted trusted lower us → Bisects client b wanted trusted tried us

-- the header is tried at once
abbrev pub IsBisection : Client → Book → ℕ → ℕ → List Update → Type 0
IsBisection client b trusted wanted us = Bisects client b wanted trusted wanted us
