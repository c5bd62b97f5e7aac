-- To which height clients are refreshed, which votes their updates carry, and which heights come first, compared by value.
use Rattle.std.proofs.Common.{◌≡◌, Bool, refl}
use denote.Enum.Bare.{sameb}
use Rattle.rb_base.specs.declared.votes.CarriedVotes.{CarriedVotes}
use Rattle.rb_base.specs.declared.votes.CarriedVotes.TheVariants.{Commit, Cast, Needed}
use Rattle.rb_base.specs.contracts.votes.CarriedVotes.{the_type as votes_type}
use Rattle.rb_base.specs.declared.ties.Ties.{Ties}
use Rattle.rb_base.specs.declared.ties.Ties.TheVariants.{Lower, Higher}
use Rattle.rb_base.specs.contracts.ties.Ties.{the_type as ties_type}
use Rattle.rb_script_types.specs.declared.config.RefreshTo.{RefreshTo}
use Rattle.rb_script_types.specs.declared.config.RefreshTo.TheVariants.{Lowest, Highest, Newer}
use Rattle.rb_script_types.specs.contracts.config.RefreshTo.{the_type}
use Rattle.rb_plan_client.specs.Same.{same_refresh_to, same_carried, same_ties}

-- as `==` compares them
abbrev pub is_equal : RefreshTo → RefreshTo → Bool
is_equal a b = sameb the_type a b

pub same_refresh : (a b : RefreshTo) → is_equal a b ≡ same_refresh_to a b
same_refresh Lowest Lowest = refl
same_refresh Lowest Highest = refl
same_refresh Lowest Newer = refl
same_refresh Highest Lowest = refl
same_refresh Highest Highest = refl
same_refresh Highest Newer = refl
same_refresh Newer Lowest = refl
same_refresh Newer Highest = refl
same_refresh Newer Newer = refl

abbrev pub is_equally_carried : CarriedVotes → CarriedVotes → Bool
is_equally_carried v w = sameb votes_type v w

pub same_votes : (v w : CarriedVotes) → is_equally_carried v w ≡ same_carried v w
same_votes Commit Commit = refl
same_votes Commit Cast = refl
same_votes Commit Needed = refl
same_votes Cast Commit = refl
same_votes Cast Cast = refl
same_votes Cast Needed = refl
same_votes Needed Commit = refl
same_votes Needed Cast = refl
same_votes Needed Needed = refl

abbrev pub are_equal_ties : Ties → Ties → Bool
are_equal_ties a b = sameb ties_type a b

pub equal_ties : (a b : Ties) → are_equal_ties a b ≡ same_ties a b
equal_ties Lower Lower = refl
equal_ties Lower Higher = refl
equal_ties Higher Lower = refl
equal_ties Higher Higher = refl
