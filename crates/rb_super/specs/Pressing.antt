-- Where a message presses, all that are ready go (own choice).
use Rattle.std.specs.Prelude.{◌≡◌, ℕ, Bool, true, false, Option, Some, None, IsSomeAnd}
use Rattle.rb_book.specs.Invariant.{IsBook}
use Rattle.rb_script_types.specs.declared.config.RefreshTo.{RefreshTo}
use Rattle.rb_script_types.specs.declared.config.RefreshTo.TheVariants.{Lowest, Highest, Newer}
use Rattle.rb_script_types.specs.declared.goal.Goal.{Goal}
use Rattle.rb_script_types.specs.declared.goal.Goal.TheVariants.{AtLeast, Exactly}
use Rattle.rb_step.specs.View.{client_of}
use Rattle.rb_plan_client.specs.Draft.{Plan, Planned, IsAnswer}
use Rattle.rb_plan_client.specs.Reach.{IsReach}
use Rattle.rb_plan_client.specs.Task.{Task, view_of, ready_messages, presses}

-- the client was asked for a height that has to be met exactly
abbrev pub asks_exactly : Option Goal → Bool
asks_exactly None = false
asks_exactly (Some (AtLeast height)) = false
asks_exactly (Some (Exactly height)) = true

-- what was asked for keeps no message back, by how the client is refreshed: by age no goal was asked for, by gain none that has to be met exactly
abbrev pub KeepsNoneBack : Option Goal → RefreshTo → Type 0
KeepsNoneBack asked Lowest = asked ≡ None
KeepsNoneBack asked Highest = asked ≡ None
KeepsNoneBack asked Newer = asks_exactly asked ≡ false

-- Where a message presses, and nothing that was asked for keeps it back, every client is planned for, its goal can be reached, and all that are
-- ready go; one that is refreshed by gain, if heights and times rise together in its book.
abbrev pub PressingGoes : Type 0
PressingGoes =
    (t : Task) (reach : Option ℕ) (answer : Option Planned) → (t.config.refresh_to ≡ Newer → IsBook t.book) → IsReach (client_of (view_of t)) reach
    → KeepsNoneBack t.asked t.config.refresh_to → presses t reach ≡ true → IsAnswer t answer
    → IsSomeAnd answer (λ (a : Planned). IsSomeAnd a.plan (λ (p : Plan). p.messages ≡ ready_messages t reach))
