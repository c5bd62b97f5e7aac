-- Chains of which some commits aren't canonical yet (CometBFT, `/commit`: of the newest block, which no next block commits to, the node answers the
-- votes that it has).
use Rattle.std.specs.Prelude.{ℕ, List, Bool, not, Option, count_by, filter, map, max, option_map}
use Rattle.std.specs.List.{reduce}
use Rattle.rb_import_check.specs.declared.chain.Commit.{Commit}
use Rattle.rb_import_merge.specs.declared.seen.SeenSetup.{SeenSetup}
use Rattle.rb_import_notices.specs.declared.notice.Notice.{Notice}
use Rattle.rb_import_notices.specs.declared.notice.Notice.TheVariants.{NotCanonical}
use Rattle.rb_import_notices.specs.Headers.{commits_of}

-- whether a commit isn't canonical
abbrev pub is_uncanonical : Commit → Bool
is_uncanonical c = not c.header.now.is_canonical

-- how many of these aren't, and the greatest height of those
abbrev pub uncanonical_in : List Commit → ℕ
uncanonical_in commits = count_by is_uncanonical commits

abbrev pub highest_in : List Commit → Option ℕ
highest_in commits = reduce max (map (λ (c : Commit). c.header.now.height) (filter is_uncanonical commits))

abbrev not_canonical_in : ℕ → List Commit → Option Notice
not_canonical_in chain commits = option_map (λ highest. NotCanonical chain (uncanonical_in commits) highest) (highest_in commits)

-- a chain of which some commits aren't canonical: how many, and the greatest height of these
abbrev pub not_canonical : SeenSetup → ℕ → Option Notice
not_canonical seen chain = not_canonical_in chain (commits_of seen chain)
