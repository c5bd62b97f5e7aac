-- What a log may begin with: nothing, or what a text tells that fits; or what is left after all that happened since.
use Rattle.std.specs.Prelude.{◌≡◌, ◌⊎◌, ℕ, ◌≤◌, ◌^◌, List, [], ◌∷◌, All}
use Rattle.std.specs.List.{fold}
use Rattle.rb_script_types.specs.Config.{Config}
use Rattle.rb_core_model.specs.Event.{Event, IsEvent}
use Rattle.rb_core_model.specs.Fits.{Fits}
use Rattle.rb_core_model.specs.Forgetting.{rest_at_floors}
use Rattle.rb_core_model.specs.Machine.{after, begun}
use Rattle.rb_core_model.specs.Snapshot.{ClientSnapshot, Snapshot, nothing, snapshot_of, standing_from}

-- what is known after lists of events since then, the latest list first, after each of which all below the floors was forgotten
abbrev pub known_since : Config → Snapshot → List (List Event) → Snapshot
known_since c first [] = first
known_since c first (events ∷ earlier) = snapshot_of (rest_at_floors (fold after (begun c (known_since c first earlier)) events).standing)

-- the most batches that a client may have opened before (own choice)
abbrev pub max_begun : ℕ
max_begun = 2 ^ 62

-- what a relayer that is configured so may begin with
pub record IsBegun (c : Config) (start : Snapshot) : Type 0 where
  pub first : Snapshot
  pub fits : (first ≡ nothing) ⊎ Fits (standing_from c first)
  pub earlier : List (List Event)
  pub events : All (All IsEvent) earlier
  pub is : start ≡ known_since c first earlier
  pub few : All (λ (x : ClientSnapshot). x.batches ≤ max_begun) start.clients
