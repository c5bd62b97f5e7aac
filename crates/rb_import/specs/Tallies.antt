-- How many commits a script has headers of, how many of these were verified, and how many of their votes are good, bad and not checkable.
use Rattle.std.specs.Prelude.{◌≡◌, ◌-◌, ◌^◌, ℕ, Bool, List, length, count_by, sum_by, min, is_some, Option, Some, None, option_map}
use Rattle.rb_import_answers.specs.declared.verdicts.CommitVerdict.{CommitVerdict}
use Rattle.rb_import_check.specs.declared.chain.Commit.{Commit}
use Rattle.rb_import.specs.declared.opening.Tally.{Tally}

-- the verdict on a commit, where there is one
abbrev pub verdict_on : Commit → Option CommitVerdict
verdict_on c = option_map (λ v. v.now) c.verdict

-- whether a commit was verified
abbrev pub is_verified : Commit → Bool
is_verified c = is_some (verdict_on c)

abbrev pub good_in : Option CommitVerdict → ℕ
good_in (Some v) = v.good
good_in None = 0

abbrev pub bad_in : Option CommitVerdict → ℕ
bad_in (Some v) = length v.bad.items
bad_in None = 0

abbrev pub unchecked_in : Option CommitVerdict → ℕ
unchecked_in (Some v) = length v.unchecked.items
unchecked_in None = 0

-- how many votes of a commit are good, bad, and not checkable
abbrev pub good_votes : Commit → ℕ
good_votes c = good_in (verdict_on c)

abbrev pub bad_votes : Commit → ℕ
bad_votes c = bad_in (verdict_on c)

abbrev pub unchecked_votes : Commit → ℕ
unchecked_votes c = unchecked_in (verdict_on c)

-- a number, or the greatest of 64 bits where it has more
abbrev pub capped : ℕ → ℕ
capped n = min n (2 ^ 64 - 1)

-- it is the tally of these commits
abbrev pub IsTally : List Commit → Tally → Type 0
IsTally commits t =
    (t.commits ≡ capped (length commits))
    × (t.verified ≡ capped (count_by is_verified commits))
    × (t.good ≡ capped (sum_by good_votes commits))
    × (t.bad ≡ capped (sum_by bad_votes commits))
    × (t.unchecked ≡ capped (sum_by unchecked_votes commits))
