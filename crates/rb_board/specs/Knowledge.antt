-- (internal) What is known at a place of the board.
use Rattle.std.specs.Prelude.{◌≡◌, ◌⊎◌, List, [], Option, None}
use mathlib.Core.List.{IsPrefix}
use Rattle.rb_script_types.specs.Config.{Config}
use Rattle.rb_core_model.specs.Entry.{Logged}
use Rattle.rb_core_model.specs.Snapshot.{Snapshot}

-- how the board's core is configured and what its log begins with, and the entries of a beginning of the board's log
pub record Knowledge : Type 0 where
  pub origin : Option (Config × Snapshot)
  pub entries : List Logged

-- what a newcomer knows
abbrev pub nothing_yet : Knowledge
nothing_yet = record { origin = None; entries = [] }

-- the second knows all that the first knows
abbrev pub Begins : Knowledge → Knowledge → Type 0
Begins a b = ((a.origin ≡ None) ⊎ (a.origin ≡ b.origin)) × IsPrefix a.entries b.entries
