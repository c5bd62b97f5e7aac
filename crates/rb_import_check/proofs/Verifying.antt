-- Votes that count where verified ones alone do count as answers give them, too.
use Rattle.std.proofs.Common.{ℕ, ◌+◌, ◌≤◌, List, [], ◌∷◌, Bool, true, false, not, ◌&&◌, ◌||◌, cond, Option, Some, None, arith}
use Rattle.std.specs.Prelude.{option_map}
use Rattle.rb_valset.specs.Validator.{Member}
use Rattle.rb_import_answers.specs.declared.commit.Signature.{Signature}
use Rattle.rb_import_answers.specs.declared.verdicts.CommitVerdict.{CommitVerdict}
use Rattle.rb_import_check.specs.declared.chain.Commit.{Commit}
use Rattle.rb_import_check.specs.declared.signed.Signatures.TheVariants.{AsGiven, Verified}
use Rattle.rb_import_check.specs.Signed.{IsSignedBy, VerifiedVotesAreGiven, is_bad, is_for_block, is_good}
use Rattle.rb_import_check.specs.Verdicts.{is_among}
use Rattle.rb_import_check.proofs.Powers.{none_members, none_votes, power_cons, power_from, power_whole}

less : (bad unchecked : Bool) (k : ℕ) → cond (not (bad || unchecked)) k 0 ≤ cond (not bad) k 0
less true unchecked k = omega arith
less false true k = omega arith
less false false k = omega arith

none : (k : ℕ) → 0 ≤ k
none k = omega arith

-- what a good vote lends, a vote that isn't bad lends, too
lends : (for_block : Bool) (verdict : Option CommitVerdict) (place k : ℕ) → cond (for_block && is_good verdict place) k 0 ≤ cond (for_block && not (is_bad verdict place)) k 0
lends false verdict place k = omega arith
lends true (Some v) place k = less (is_among v.bad.items place) (is_among v.unchecked.items place) k
lends true None place k = none k

fewer : (verdict : Option CommitVerdict) (n : ℕ) (votes : List Signature) (set : List Member) → power_from Verified verdict n votes set ≤ power_from AsGiven verdict n votes set
fewer verdict n [] set =
    let one = none_votes Verified verdict n set in
    let other = none_votes AsGiven verdict n set in
    omega (arith, one, other)
fewer verdict n (s ∷ votes) [] =
    let one = none_members Verified verdict n (s ∷ votes) in
    let other = none_members AsGiven verdict n (s ∷ votes) in
    omega (arith, one, other)
fewer verdict n (s ∷ votes) (m ∷ set) =
    let one = power_cons Verified verdict n s votes m set in
    let other = power_cons AsGiven verdict n s votes m set in
    let rest = fewer verdict (n + 1) votes set in
    let own = lends (is_for_block s.flag) verdict n m.power in
    omega (arith, one, other, rest, own)

signed : (c : Commit) (set : List Member) → IsSignedBy Verified c set → IsSignedBy AsGiven c set
unfolding IsSignedBy
signed c set by =
    let verdict : Option CommitVerdict = option_map (λ v. v.now) c.verdict in
    let votes : List Signature = c.header.now.signatures.items in
    let one = power_whole Verified verdict votes set in
    let other = power_whole AsGiven verdict votes set in
    let at_most = fewer verdict 0 votes set in
    omega (arith, one, other, at_most, by)

pub verified_votes_are_given : VerifiedVotesAreGiven
verified_votes_are_given sets c (k, s, small, is, (hash, by)) = (k, s, small, is, (hash, signed c s.set by))
