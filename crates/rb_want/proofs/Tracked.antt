-- The client at a place of a setup, by what is there of it.
use Rattle.std.proofs.Common.{◌≡◌, ℕ, ◌-◌, List, length, Some, refl, sym, subst}
use Rattle.std.specs.Prelude.{Option, slice_get}
use Rattle.rb_base.specs.Window.{Span}
use Rattle.rb_import_setup.specs.declared.setup.ClientSetup.{ClientSetup}
use Rattle.rb_import_setup.specs.declared.setup.ImportSetup.{ImportSetup}
use Rattle.rb_import_setup.specs.declared.setup.TurnSetup.{TurnSetup}
use Rattle.rb_import_setup.specs.Windows.{window_of}
use Rattle.rb_script_types.specs.declared.goal.Goal.{Goal}
use Rattle.rb_want_requests.specs.declared.content.Folder.{Folder}
use Rattle.rb_want.specs.Needs.{Tracking, goal_at, tracking_at, tracking_with}

module _ (setup : ImportSetup) (own chains : List Folder) (place : ℕ) (c : ClientSetup) (turn : TurnSetup) (host tracks : List ℕ) (folder chain : Folder) where
  abbrev so : Option Goal → Span → Tracking
  so goal window = record { place = place; setup = c; host = host; tracks = tracks; goal = goal; window = window; own = folder; chain = chain }

  pub tracked : (goal : Option Goal) (window : Span)
      → slice_get setup.turns.items (length setup.turns.items - 1) ≡ Some turn
      → slice_get setup.chains.items c.host ≡ Some host
      → slice_get setup.chains.items c.tracks ≡ Some tracks
      → slice_get own place ≡ Some folder
      → slice_get chains c.tracks ≡ Some chain
      → goal ≡ goal_at place turn.goals.items → window ≡ window_of setup place turn.window
      → tracking_at setup own chains (place, c) ≡ Some (so goal window)
  unfolding tracking_at
  tracked goal window e1 e2 e3 e4 e5 eg ew =
      subst (λ o. tracking_with setup place c o (slice_get setup.chains.items c.host) (slice_get setup.chains.items c.tracks) (slice_get own place) (slice_get chains c.tracks) ≡ Some (so goal window)) (sym e1)
      (subst (λ o. tracking_with setup place c (Some turn) o (slice_get setup.chains.items c.tracks) (slice_get own place) (slice_get chains c.tracks) ≡ Some (so goal window)) (sym e2)
      (subst (λ o. tracking_with setup place c (Some turn) (Some host) o (slice_get own place) (slice_get chains c.tracks) ≡ Some (so goal window)) (sym e3)
      (subst (λ o. tracking_with setup place c (Some turn) (Some host) (Some tracks) o (slice_get chains c.tracks) ≡ Some (so goal window)) (sym e4)
      (subst (λ o. tracking_with setup place c (Some turn) (Some host) (Some tracks) (Some folder) o ≡ Some (so goal window)) (sym e5)
      (subst (λ g. Some (so (goal_at place turn.goals.items) (window_of setup place turn.window)) ≡ Some (so g window)) (sym eg)
      (subst (λ w. Some (so (goal_at place turn.goals.items) (window_of setup place turn.window)) ≡ Some (so (goal_at place turn.goals.items) w)) (sym ew) refl))))))
