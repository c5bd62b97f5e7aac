-- What is left of a journal that was cut.
use Rattle.std.specs.Prelude.{◌≡◌, ◌≢◌, ℕ, List, [], ◌++◌, All}
use Rattle.std.specs.List.{concat}
use Rattle.rb_journal.specs.Parts.{IsWhole, HasParts}

-- a journal that was cut within a part has the whole parts before it, and no other: what was answered is there, and what wasn't isn't
abbrev pub CutsLoseNoPart : Type 0
CutsLoseNoPart = (before : List (List ℕ)) (part cut lost : List ℕ) → All IsWhole before → IsWhole part → part ≡ cut ++ lost → lost ≢ []
    → (bytes : List ℕ) → bytes ≡ concat before ++ cut
    → (parts : List (List ℕ)) (rest : List ℕ) → HasParts bytes parts rest → (parts ≡ before) × (rest ≡ cut)
