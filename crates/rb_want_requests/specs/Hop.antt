-- (internal) Where a search goes from a trusted height.
use Rattle.std.specs.Prelude.{◌≡◌, ℕ}
use Rattle.rb_want_requests.specs.Search.{Judgements, IsDeadEnd, IsFarthestStep, IsNotAccepted, IsQuestion, IsWithin}
use Rattle.rb_want_requests.specs.declared.searching.Aim.{Aim}
use Rattle.rb_want_requests.specs.declared.searching.Hop.{Hop}
use Rattle.rb_want_requests.specs.declared.searching.Hop.TheVariants.{To, Asks, Stuck}

-- the step goes up, no higher than the aim, and isn't accepted
abbrev pub IsRefusedStep : Judgements → Aim → ℕ → ℕ → Type 0
IsRefusedStep judges aim trusted height = IsWithin aim trusted height × IsNotAccepted judges trusted height

abbrev pub IsHop : Judgements → Aim → ℕ → Hop → Type 0
IsHop judges aim trusted (To height) = IsFarthestStep judges aim trusted height
IsHop judges aim trusted (Asks q) = (q.trusted ≡ trusted) × IsQuestion judges aim q
IsHop judges aim trusted (Stuck height) = IsWithin aim trusted height × IsDeadEnd judges trusted height
