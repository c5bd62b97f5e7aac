-- how a client judges headers (ICS 7, ClientState): trusting period and clock drift in nanoseconds, trust level; and which
-- votes of a header its updates carry, and which heights come first in lists of updates that are equally cheap
use Rattle.std.specs.Prelude.{ℕ}
use Rattle.rb_base.specs.Fraction.{Ratio}
use Rattle.rb_base.specs.declared.votes.CarriedVotes.{CarriedVotes}
use Rattle.rb_base.specs.declared.votes.CarriedVotes.TheVariants.{Commit, Cast, Needed}
use Rattle.rb_base.specs.declared.ties.Ties.{Ties}
use Rattle.rb_base.specs.declared.ties.Ties.TheVariants.{Lower, Higher}

-- the variants by number, to compare them
abbrev pub carried_number : CarriedVotes → ℕ
carried_number Commit = 0
carried_number Cast = 1
carried_number Needed = 2

abbrev pub ties_number : Ties → ℕ
ties_number Lower = 0
ties_number Higher = 1

pub record ClientOptions : Type 0 where
  pub period : ℕ
  pub drift : ℕ
  pub trust : Ratio
  pub votes : CarriedVotes
  pub ties : Ties
