-- what a client is to be brought to (own choice)
use Rattle.std.specs.Prelude.{◌≡◌, ℕ, ◌≤◌}
use Rattle.rb_script_types.specs.declared.goal.Goal.{Goal}
use Rattle.rb_script_types.specs.declared.goal.Goal.TheVariants.{Exactly, AtLeast}

-- the height that a goal names
abbrev pub height_in : Goal → ℕ
height_in (Exactly g) = g
height_in (AtLeast g) = g

-- the goal is met where this height is stored and live
abbrev pub Wants : Goal → ℕ → Type 0
Wants (Exactly g) h = h ≡ g
Wants (AtLeast g) h = g ≤ h
