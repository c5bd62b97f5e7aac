-- laws of sent votes, over all lists of voters and of votes
use Rattle.std.specs.Prelude.{◌≡◌, ◌↔◌, ℕ, ◌+◌, ◌*◌, ◌<◌, ◌≤◌, ◌⊎◌, Bool, List, length, take, filter, sum_by}
use Rattle.std.specs.List.{remove}
use Rattle.rb_votes.specs.declared.voter.Voter.{Voter}
use Rattle.rb_votes.specs.declared.voter.Needed.{Needed}
use Rattle.rb_votes.specs.Votes.{least_power, Passes, IsPart, falling, fewest_by, sent_votes}

-- a power is more than a fraction of a total exactly where it is at least the least such power
abbrev pub LeastPowerExceeds : Type 0
LeastPowerExceeds =
    (power total numerator denominator : ℕ) → 0 < denominator
    → (total * numerator < power * denominator) ↔ (least_power total numerator denominator ≤ power)

-- the votes of those voters that pass a test are a part
abbrev pub FilterIsPart : Type 0
FilterIsPart = (test : Voter → Bool) (voters : List Voter) → IsPart (filter test voters) voters

-- no votes have more power than as many of the voters with the most
abbrev pub FirstHaveMost : Type 0
FirstHaveMost =
    (power : Voter → ℕ) (voters votes : List Voter) → IsPart votes voters
    → sum_by power votes ≤ sum_by power (take (length votes) (falling power voters))

-- where some votes have the needed power, the shortest prefix of the voters by power falling has it, and no fewer votes have it
abbrev pub PrefixIsLeast : Type 0
PrefixIsLeast =
    (power : Voter → ℕ) (needed : ℕ) (voters votes : List Voter) → IsPart votes voters → needed ≤ sum_by power votes
    → (needed ≤ sum_by power (fewest_by power needed voters)) × (length (fewest_by power needed voters) ≤ length votes)

-- the votes that are sent are some of the voters'
abbrev pub SentAreVoters : Type 0
SentAreVoters = (needed : Needed) (voters : List Voter) → IsPart (sent_votes needed voters) voters

-- they pass both tests where all voters' do
abbrev pub SentAreEnough : Type 0
SentAreEnough = (needed : Needed) (voters : List Voter) → Passes needed voters → Passes needed (sent_votes needed voters)

-- without any one of them they don't pass
abbrev pub NoneIsSuperfluous : Type 0
NoneIsSuperfluous =
    (needed : Needed) (voters : List Voter) (k : ℕ) → k < length (sent_votes needed voters)
    → ¬ Passes needed (remove (sent_votes needed voters) k)

-- the fewest votes for one test pass the other too
abbrev pub OneDecides : Needed → List Voter → Type 0
OneDecides needed voters =
    (needed.trusted ≤ sum_by (λ v. v.trusted) (fewest_by (λ v. v.own) needed.own voters))
    ⊎ (needed.own ≤ sum_by (λ v. v.own) (fewest_by (λ v. v.trusted) needed.trusted voters))

-- then no fewer votes pass both than are sent
abbrev pub LeastIfOneDecides : Type 0
LeastIfOneDecides =
    (needed : Needed) (voters votes : List Voter) → OneDecides needed voters → IsPart votes voters → Passes needed votes → length (sent_votes needed voters) ≤ length votes

-- they are no more than each test needs by itself, together
abbrev pub AtMostBoth : Type 0
AtMostBoth =
    (needed : Needed) (voters : List Voter) → Passes needed voters
    → length (sent_votes needed voters)
    ≤ length (fewest_by (λ v. v.own) needed.own voters) + length (fewest_by (λ v. v.trusted) needed.trusted voters)

-- they are at most twice as many as any votes that pass both tests
abbrev pub AtMostTwice : Type 0
AtMostTwice =
    (needed : Needed) (voters votes : List Voter) → IsPart votes voters → Passes needed votes
    → length (sent_votes needed voters) ≤ 2 * length votes

-- where all voters don't pass, all votes are sent
abbrev pub TooLittleSendsAll : Type 0
TooLittleSendsAll =
    (needed : Needed) (voters : List Voter) → ¬ Passes needed voters → length (sent_votes needed voters) ≡ length voters

-- no fewer are sent than the own set's test needs alone
abbrev pub OwnTestIsLeast : Type 0
OwnTestIsLeast =
    (needed : Needed) (voters : List Voter) → length (fewest_by (λ v. v.own) needed.own voters) ≤ length (sent_votes needed voters)

-- and just as many where these pass the trusted set's test too
abbrev pub OwnTestDecides : Type 0
OwnTestDecides =
    (needed : Needed) (voters : List Voter) → needed.trusted ≤ sum_by (λ v. v.trusted) (fewest_by (λ v. v.own) needed.own voters)
    → length (sent_votes needed voters) ≡ length (fewest_by (λ v. v.own) needed.own voters)
