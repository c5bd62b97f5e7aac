-- The tables of a turn's goals and settlements.
use Rattle.std.specs.Prelude.{ℕ, List, [], ◌∷◌, codes, Option, Some, None, Result, Ok, Bool, not, ◌==◌}
use Rattle.std.specs.List.{list_any}
use Rattle.rb_script_types.specs.declared.goal.Goal.{Goal}
use Rattle.rb_script_types.specs.declared.goal.Goal.TheVariants.{Exactly, AtLeast}
use Rattle.rb_script_types.specs.declared.script.Asked.{Asked}
use Rattle.rb_script_types.specs.declared.script.Settlement.{Settlement}
use Rattle.rb_script_toml.specs.Faults.{Fault, ◌>>=◌, fault, check}
use Rattle.rb_script_toml.specs.Fields.{Section, only, needs, optional, maybe, number, height, max_number}
use Rattle.rb_script_toml.specs.declared.fault.FaultName.TheVariants.{OutOfRange, TwoGoals}
use Rattle.rb_script_config.specs.Named.{reference}

-- ---- goals

-- exactly one of the two
abbrev pub goal_of : Option ℕ → Option ℕ → Option Goal
goal_of (Some h) None = Some (AtLeast h)
goal_of None (Some h) = Some (Exactly h)
goal_of (Some h) (Some k) = None
goal_of None None = None

abbrev pub one_goal : List ℕ → Option Goal → Result Goal Fault
one_goal path (Some goal) = Ok goal
one_goal path None = fault TwoGoals path

abbrev pub goal_keys : List (List ℕ)
goal_keys = codes "client" ∷ codes "at_least" ∷ codes "exactly" ∷ []

abbrev pub is_asked : ℕ → List Asked → Bool
is_asked client before = list_any (λ g. g.client == client) before

-- a goal for one of the clients of these identifiers, beside those before it in the turn
unfoldable pub asked : List (List ℕ) → List Asked → Section → Result Asked Fault
asked clients before s = do
  _ ← only goal_keys s
  client ← needs (codes "client") (reference clients) s
  least ← maybe height (optional (codes "at_least") s)
  exact ← maybe height (optional (codes "exactly") s)
  goal ← one_goal s.path (goal_of least exact)
  _ ← check (not (is_asked client before)) TwoGoals s.path
  Ok (record { client = client; goal = goal })

-- ---- settlements

abbrev pub settlement_keys : List (List ℕ)
settlement_keys = codes "client" ∷ codes "batch" ∷ codes "done" ∷ []

-- how many transactions of a client's batch were taken; those before it in the turn don't matter
unfoldable pub settlement : List (List ℕ) → List Settlement → Section → Result Settlement Fault
settlement clients before s = do
  _ ← only settlement_keys s
  client ← needs (codes "client") (reference clients) s
  batch ← needs (codes "batch") (number 1 max_number OutOfRange) s
  done ← needs (codes "done") (number 0 max_number OutOfRange) s
  Ok (record { client = client; batch = batch; done = done })
