-- Which votes an update sends (own choice): few, and with power enough for both tests of its step.
use Rattle.std.specs.Prelude.{ℕ, ◌+◌, ◌-◌, ◌*◌, ◌/◌, ◌≤◌, ◌==◌, nat_le, Bool, ◌&&◌, if◌then◌else◌, List, [], ◌∷◌, ◌++◌, length, drop, sum_by}
use Rattle.std.specs.List.Sorted.{IsPermutation}
use Rattle.rb_votes.specs.declared.voter.Voter.{Voter}
use Rattle.rb_votes.specs.declared.voter.Needed.{Needed}

-- ---- what a step needs

-- the least power that is more than a fraction of a total
abbrev pub least_power : ℕ → ℕ → ℕ → ℕ
least_power total numerator denominator = total * numerator / denominator + 1

-- the votes have power enough for both tests
pub record Passes (needed : Needed) (votes : List Voter) : Type 0 where
  pub own : needed.own ≤ sum_by (λ v. v.own) votes
  pub trusted : needed.trusted ≤ sum_by (λ v. v.trusted) votes

-- whether they do
abbrev pub are_enough : Needed → List Voter → Bool
are_enough needed votes = nat_le needed.own (sum_by (λ v. v.own) votes) && nat_le needed.trusted (sum_by (λ v. v.trusted) votes)

-- the votes are some of the voters', in any order
abbrev pub IsPart : List Voter → List Voter → Type 0
IsPart votes voters = (rest : List Voter) × IsPermutation voters (votes ++ rest)

-- ---- the rule

-- voters by power falling, with one more put before the first that has no more power
abbrev pub inserted : (Voter → ℕ) → Voter → List Voter → List Voter
inserted power v [] = v ∷ []
inserted power v (w ∷ ws) = if nat_le (power w) (power v) then v ∷ w ∷ ws else w ∷ inserted power v ws

-- the voters by power falling, ties in their order
abbrev pub falling : (Voter → ℕ) → List Voter → List Voter
falling power [] = []
falling power (v ∷ vs) = inserted power v (falling power vs)

-- of voters in an order the shortest prefix that has the needed power; all of them where they haven't
abbrev pub least_prefix : (Voter → ℕ) → ℕ → List Voter → List Voter
least_prefix power needed [] = []
least_prefix power needed (v ∷ vs) = if needed == 0 then [] else v ∷ least_prefix power (needed - power v) vs

-- the fewest votes that have the needed power
abbrev pub fewest_by : (Voter → ℕ) → ℕ → List Voter → List Voter
fewest_by power needed voters = least_prefix power needed (falling power voters)

-- voters by place rising, with one more put before the first that has no lower one
abbrev pub placed : Voter → List Voter → List Voter
placed v [] = v ∷ []
placed v (w ∷ ws) = if nat_le v.place w.place then v ∷ w ∷ ws else w ∷ placed v ws

-- the voters by place rising
abbrev pub rising : List Voter → List Voter
rising [] = []
rising (v ∷ vs) = placed v (rising vs)

-- the fewest votes that have the needed power, and of the others, by place, the fewest that with them have what is needed of the other power
abbrev pub fewest_then : (Voter → ℕ) → ℕ → (Voter → ℕ) → ℕ → List Voter → List Voter
fewest_then power needed other more voters =
    let first = fewest_by power needed voters in
    first ++ fewest_by other (more - sum_by other first) (rising (drop (length first) (falling power voters)))

-- from the last back each vote goes without which those before it and what is left of those behind it pass both tests
abbrev pub thinned : Needed → List Voter → List Voter → List Voter
thinned needed before [] = []
thinned needed before (v ∷ vs) =
    let behind = thinned needed (before ++ v ∷ []) vs in if are_enough needed (before ++ behind) then behind else v ∷ behind

-- for the own set's test first or for the trusted set's first, each without superfluous votes, whichever takes fewer
abbrev pub sent_votes : Needed → List Voter → List Voter
sent_votes needed voters =
    let by_own = thinned needed [] (fewest_then (λ v. v.own) needed.own (λ v. v.trusted) needed.trusted voters) in
    let by_trusted = thinned needed [] (fewest_then (λ v. v.trusted) needed.trusted (λ v. v.own) needed.own voters) in
    if nat_le (length by_own) (length by_trusted) then by_own else by_trusted
