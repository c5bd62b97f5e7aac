-- Voters in the order of their set.
use Rattle.std.specs.Prelude.{◌<◌, List, [], ◌∷◌}
use Rattle.std.specs.List.{AllByRecursion}
use Rattle.rb_votes.specs.declared.voter.Voter.{Voter}

-- each stands before those at higher places
abbrev pub StandByPlace : List Voter → Type 0
StandByPlace [] = Unit {0}
StandByPlace (v ∷ vs) = AllByRecursion (λ w. v.place < w.place) vs × StandByPlace vs
