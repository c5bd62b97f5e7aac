-- (internal) From which heights on what is left changes no report.
use Rattle.std.specs.Prelude.{◌≡◌, ℕ, ◌<◌, ◌≤◌, ◌+◌, ◌-◌, ◌⊎◌, length, All, Some, IfSome, IsSome, IsSomeAnd, slice_get}
use Rattle.rb_base.specs.Window.{Span}
use Rattle.rb_book.specs.Header.{Record}
use Rattle.rb_book.specs.Book.{Book, height_of, record_at}
use Rattle.rb_step.specs.LightClient.{Update}
use Rattle.rb_core_model.specs.Standing.{OpenBatch, ClientState, Standing, book_at, window_for}
use Rattle.rb_super.specs.Remains.{PathFits}

-- nothing is below the height, or there is a record at it
abbrev pub IsAtRecord : ℕ → Book → Type 0
IsAtRecord m b = All (λ k. m ≤ height_of k) b.records ⊎ IsSome (record_at b m)

-- no live stored height of the client is below, nor is its greatest one, nor the height of an update in its open batch, this being the common window
pub record NeedsNoLower (m : ℕ) (w : Span) (b : Book) (c : ClientState) : Type 0 where
  pub dead : All (λ h. h < m → IsSomeAnd (record_at b h) (λ (r : Record). (window_for w c).until < r.time + c.config.options.period) → ⊥) c.stored
  pub newest : IfSome (slice_get c.stored (length c.stored - 1)) (λ h. m ≤ h)
  pub batch : IfSome c.batch (λ (x : OpenBatch). All (λ (u : Update). m ≤ u.height) x.updates)

pub record AreFloors (m : ℕ → ℕ) (s : Standing) : Type 0 where
  pub window : Span
  pub in_force : s.window ≡ Some window
  pub records : (chain : ℕ) → IsAtRecord (m chain) (book_at s.books chain)
  pub clients : All (λ (c : ClientState). NeedsNoLower (m c.config.tracks) window (book_at s.books c.config.tracks) c) s.clients
  pub fit : All (PathFits m s.books) s.paths
