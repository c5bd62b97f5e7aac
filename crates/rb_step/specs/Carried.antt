-- The votes that an update carries (own choice; CometBFT light client: no hash goes over a commit, so a vote that no test needs
-- may be marked absent).
use Rattle.std.specs.Prelude.{ℕ, ◌+◌, Bool, ◌==◌, List, [], ◌∷◌, length, count_by, find, Option, Some, None, if◌then◌else◌}
use Rattle.std.specs.List.{list_any}
use Rattle.std.specs.Option.{option_map_or}
use Rattle.rb_base.specs.Options.{ClientOptions}
use Rattle.rb_base.specs.declared.votes.CarriedVotes.{CarriedVotes}
use Rattle.rb_base.specs.declared.votes.CarriedVotes.TheVariants.{Commit, Cast, Needed}
use Rattle.rb_valset.specs.Validator.{Member, address_of, has_address}
use Rattle.rb_valset.specs.ValidatorSet.{total_of}
use Rattle.rb_book.specs.Header.{Header, is_cast, is_commit}
use Rattle.rb_book.specs.declared.vote.Vote.{Vote}
use Rattle.rb_book.specs.declared.vote.Vote.TheVariants.{Absent}
use Rattle.rb_votes.specs.declared.voter.Voter.{Voter}
use Rattle.rb_votes.specs.declared.voter.Needed.{Needed as NeededPower}
use Rattle.rb_votes.specs.Votes.{least_power, fewest_by, sent_votes}

-- the power in a set, if it is known, of the member's address
abbrev pub power_in : Option (List Member) → Member → ℕ
power_in None m = 0
power_in (Some set) m = option_map_or (λ n. n.power) (find (has_address (address_of m.key)) set) 0

-- the members of a set, if it is known
abbrev pub members_of : Option (List Member) → List Member
members_of None = []
members_of (Some set) = set

-- the members with a commit vote, from a place of their set on, each with its place and its two powers
abbrev pub voters_from : ℕ → Option (List Member) → List Member → List Vote → List Voter
voters_from place next [] votes = []
voters_from place next (m ∷ ms) [] = []
voters_from place next (m ∷ ms) (v ∷ vs) =
    let rest = voters_from (place + 1) next ms vs in
    if is_commit v then record { place = place; own = m.power; trusted = power_in next m } ∷ rest else rest

-- the header's commit voters, by its own set and the next set of the trusted record
abbrev pub voters_of : Option (List Member) → Header → List Member → List Voter
voters_of next h own = voters_from 0 next own h.votes

-- the least power of the own set that passes its test
abbrev pub own_needed : List Member → ℕ
own_needed own = least_power (total_of own) 2 3

-- that of the trusted record's next set, if it is known; none for an adjacent header
abbrev pub trusted_needed : ClientOptions → ℕ → Option (List Member) → Header → ℕ
trusted_needed o trusted_height next h =
    if h.height == trusted_height + 1 then 0 else option_map_or (λ n. least_power (total_of n) o.trust.numerator o.trust.denominator) next 0

abbrev pub needed_of : ClientOptions → ℕ → Option (List Member) → Header → List Member → NeededPower
needed_of o trusted_height next h own = record { own = own_needed own; trusted = trusted_needed o trusted_height next h }

-- the voters whose votes an update carries that carries what is needed
abbrev pub needed_voters : ClientOptions → ℕ → Option (List Member) → Header → List Member → List Voter
needed_voters o trusted_height next h own = sent_votes (needed_of o trusted_height next h own) (voters_of next h own)

-- whether the vote at a place is one of these voters'
abbrev pub is_of : List Voter → ℕ → Bool
is_of voters place = list_any (λ v. v.place == place) voters

-- from a place on, these voters' votes; the others are marked absent
abbrev pub votes_of : List Voter → ℕ → List Vote → List Vote
votes_of voters place [] = []
votes_of voters place (v ∷ vs) = (if is_of voters place then v else Absent) ∷ votes_of voters (place + 1) vs

-- the header with these votes alone
abbrev pub only_votes : List Voter → Header → Header
only_votes voters h = record h { votes = votes_of voters 0 h.votes }

-- how many votes an update is charged for
abbrev pub carried_by : CarriedVotes → ClientOptions → ℕ → Option (List Member) → Header → List Member → ℕ
carried_by Commit o trusted_height next h own = count_by is_commit h.votes
carried_by Cast o trusted_height next h own = count_by is_cast h.votes
carried_by Needed o trusted_height next h own = length (needed_voters o trusted_height next h own)

unfoldable pub carried_votes : ClientOptions → ℕ → Option (List Member) → Header → List Member → ℕ
carried_votes o trusted_height next h own = carried_by o.votes o trusted_height next h own

-- the fewest that any step to the header carries
abbrev pub least_by : CarriedVotes → Header → List Member → ℕ
least_by Commit h own = count_by is_commit h.votes
least_by Cast h own = count_by is_cast h.votes
least_by Needed h own = length (fewest_by (λ v. v.own) (own_needed own) (voters_of None h own))

unfoldable pub least_votes : ClientOptions → Header → List Member → ℕ
least_votes o h own = least_by o.votes h own
