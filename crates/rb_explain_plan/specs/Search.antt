-- (internal) A bisection on its way.
use Rattle.std.specs.Prelude.{◌≡◌, ℕ, ◌<◌, ◌≤◌, ◌⊎◌, List, ◌++◌}
use Rattle.rb_book.specs.Book.{Book}
use Rattle.rb_graph.specs.StepTable.{Target}
use Rattle.rb_step.specs.LightClient.{Update, Client}
use Rattle.rb_step.specs.View.{View}
use Rattle.rb_explain_plan.specs.Bisection.{Bisects, IsBisection}

-- any updates that bisect on from here make a bisection with those before, and each bisection goes on from here
pub record IsSoFar (c : Client) (b : Book) (wanted first : ℕ) (us : List Update) (trusted tried : ℕ) : Type 0 where
  pub on : (vs : List Update) → Bisects c b wanted trusted tried vs → IsBisection c b first wanted (us ++ vs)
  pub back : (vs : List Update) → IsBisection c b first wanted vs → (ws : List Update) × Bisects c b wanted trusted tried ws
  pub above : trusted < wanted → trusted < tried
  pub within : tried ≤ wanted

-- a lower height is tried next, or a higher one is trusted, up to the wanted one
abbrev pub IsNearer : ℕ → ℕ → ℕ → ℕ → ℕ → Type 0
IsNearer wanted trusted tried next_trusted next_tried = ((next_trusted ≡ trusted) × (next_tried < tried)) ⊎ ((trusted < next_trusted) × (next_trusted ≤ wanted))

-- a height, as the view's client is to reach it
abbrev pub target_of : View → ℕ → Target
target_of v h = record { book = v.book; options = v.options; window = v.window; fees = v.fees; height = h }
