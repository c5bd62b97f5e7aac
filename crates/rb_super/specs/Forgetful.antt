-- Reports of turns after which something is forgotten.
use Rattle.std.specs.Prelude.{ℕ, Bool, List, [], ◌∷◌, Option, Some, None, if◌then◌else◌}
use Rattle.std.specs.Option.{option_map}
use Rattle.rb_core_model.specs.Forgetting.{floor, rest}
use Rattle.rb_core_model.specs.Standing.{Standing}
use Rattle.rb_super_turn.specs.Report.{Report}
use Rattle.rb_super_turn.specs.Script.{Turn}
use Rattle.rb_super_turn.specs.Turns.{IsTurnReport, after_turn}

-- what is left after a turn, where heights are given to forget below
abbrev pub forgotten : Option (ℕ → ℕ) → Standing → Standing
forgotten None s = s
forgotten (Some m) s = rest m s

-- the reports of turns, after each of which something may be forgotten
abbrev pub AreForgetful : Standing → List Turn → List (Option (ℕ → ℕ)) → Report → Type 0
AreForgetful t [] os [] = Unit {0}
AreForgetful t [] os (r ∷ rs) = ⊥
AreForgetful t (turn ∷ turns) [] rs = ⊥
AreForgetful t (turn ∷ turns) (o ∷ os) [] = ⊥
AreForgetful t (turn ∷ turns) (o ∷ os) (r ∷ rs) = IsTurnReport t turn r × AreForgetful (forgotten o (after_turn t turn r)) turns os rs

-- the floors, where it is chosen to forget
abbrev pub floors_if : (Standing → Bool) → Standing → Option (ℕ → ℕ)
floors_if chosen s = if chosen s then option_map (λ w. floor w s) s.window else None

-- the same after each of turns that were reported so
abbrev pub floors_after : (Standing → Bool) → Standing → List Turn → Report → List (Option (ℕ → ℕ))
floors_after chosen t [] rs = []
floors_after chosen t (turn ∷ turns) [] = []
floors_after chosen t (turn ∷ turns) (r ∷ rs) =
    floors_if chosen (after_turn t turn r)
    ∷ floors_after chosen (forgotten (floors_if chosen (after_turn t turn r)) (after_turn t turn r)) turns rs
