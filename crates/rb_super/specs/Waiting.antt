-- Which choices of turns keep every deadline, where messages may wait for one another (own choice). Turns are numbered from 0.
use Rattle.std.specs.Prelude.{ℕ, ◌<◌, ◌≤◌, List, All, Any}

-- a message that only an update brings across, by the turns that matter: the first in which it is ready, and it stays so until
-- it is sent; the first in which it is ready and presses, past the last turn if it never does
pub record Message : Type 0 where
  pub ready : ℕ
  pub presses : ℕ

-- the message goes no earlier than it is ready, and no later than it presses
abbrev pub GoesInTime : List ℕ → Message → Type 0
GoesInTime choice m = Any (λ turn. (m.ready ≤ turn) × (turn ≤ m.presses)) choice

-- each message that presses in one of the first so many turns goes in time
abbrev pub IsPunctual : ℕ → List Message → List ℕ → Type 0
IsPunctual turns messages choice = All (λ m. m.presses < turns → GoesInTime choice m) messages
