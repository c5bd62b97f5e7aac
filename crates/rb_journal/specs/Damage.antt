-- Whether a journal with digests is as it was written.
use Rattle.std.specs.Prelude.{◌≡◌, ℕ, true, false, List, ◌++◌, length, All, None, ◌⊎◌}
use Rattle.std.specs.List.{concat}
use Rattle.rb_journal.specs.Parts.{part_end, digest_holds, lost_mark, IsWhole, HasParts}

abbrev pub Holds : List ℕ → Type 0
Holds part = digest_holds part ≡ true

-- each whole part has its digest, and what stands behind them is no part that lost its mark
pub record IsIntact (bytes : List ℕ) : Type 0 where
  pub parts : List (List ℕ)
  pub rest : List ℕ
  pub has : HasParts bytes parts rest
  pub hold : All Holds parts
  pub ends : lost_mark rest ≡ false

-- these bytes begin with a whole part that has another digest, or are a part that lost its mark
abbrev pub IsDamaged : List ℕ → Type 0
IsDamaged bytes =
    ((part : List ℕ) × (more : List ℕ) × (bytes ≡ part ++ more) × IsWhole part × (digest_holds part ≡ false))
    ⊎ ((part_end bytes ≡ None) × (lost_mark bytes ≡ true))

-- behind so many bytes is the first part that isn't as it was written
pub record IsDamagedAt (bytes : List ℕ) (place : ℕ) : Type 0 where
  pub parts : List (List ℕ)
  pub rest : List ℕ
  pub split : bytes ≡ concat parts ++ rest
  pub behind : place ≡ length (concat parts)
  pub whole : All IsWhole parts
  pub hold : All Holds parts
  pub damaged : IsDamaged rest
