-- The client as a machine, whose state is the heights that it has stored (ICS 2, client updates; ICS 7).
use Rattle.std.specs.Prelude.{◌≡◌, ℕ, List, [], ◌∷◌, map, All, Contains}
use Rattle.rb_base.specs.Options.{ClientOptions}
use Rattle.rb_base.specs.Window.{IsWithin}
use Rattle.rb_book.specs.Book.{Book}
use Rattle.rb_step.specs.KnownStep.{IsAcceptedAt}
use Rattle.rb_step.specs.LightClient.{Update}
use Rattle.rb_step.specs.View.{View}

-- an update, and the moment at which the client gets it
pub record Submission : Type 0 where
  pub update : Update
  pub moment : ℕ

-- each update in turn trusts a stored height, which may be any, and its step is accepted at its moment;
-- then its height is stored, which it may have been before
abbrev pub Allows : ClientOptions → Book → List ℕ → List Submission → Type 0
Allows o book stored [] = Unit {0}
Allows o book stored (s ∷ ss) =
    Contains stored s.update.trusted
    × IsAcceptedAt o book s.moment s.update.trusted s.update.height
    × Allows o book (s.update.height ∷ stored) ss

-- the machine allows the updates, whatever moments of the window they come at
abbrev pub IsAllowedThroughout : View → List Update → Type 0
IsAllowedThroughout v us =
    (submissions : List Submission) → map (λ s. s.update) submissions ≡ us → All (λ s. IsWithin v.window s.moment) submissions
    → Allows v.options v.book v.stored submissions
