-- Voters by their places in a header's own set and in the trusted set.
use Rattle.std.specs.Prelude.{ℕ, List, slice_get}
use Rattle.std.specs.Option.{option_map_or}
use Rattle.rb_valset.specs.Validator.{Member}
use Rattle.rb_votes.specs.declared.voter.Voter.{Voter}

-- the members of the two sets, and the voters
pub record Voters : Type 0 where
  pub own : List Member
  pub trusted : List Member
  pub list : List Voter

-- the power of the member at a place, if there is one
abbrev pub power_at : List Member → ℕ → ℕ
power_at members place = option_map_or (λ m. m.power) (slice_get members place) 0

-- the voter at these places of the two sets
abbrev pub voter_at : List Member → List Member → ℕ → ℕ → Voter
voter_at own trusted place other = record { place = place; own = power_at own place; trusted = power_at trusted other }
