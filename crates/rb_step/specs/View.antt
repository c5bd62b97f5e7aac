-- What a client is in a window, over the book of the chain that it tracks.
use Rattle.std.specs.Prelude.{ℕ, ◌+◌, ◌<◌, ◌≤◌, List, IsSome, IsSomeAnd, All}
use Rattle.std.specs.List.Sorted.{IsStrictlyIncreasing}
use Rattle.rb_base.specs.Fee.{Fees, IsFeeTable}
use Rattle.rb_base.specs.Options.{ClientOptions}
use Rattle.rb_base.specs.Window.{Span}
use Rattle.rb_book.specs.Book.{Book, record_at}
use Rattle.rb_book.specs.Invariant.{IsBook}
use Rattle.rb_step.specs.Fee.{fee_at}
use Rattle.rb_step.specs.KnownStep.{IsAcceptedWithin}
use Rattle.rb_step.specs.LightClient.{Client}

-- its options and fees, the heights that it has stored, the window in which it is updated, and the book
pub record View : Type 0 where
  pub options : ClientOptions
  pub fees : Fees
  pub stored : List ℕ
  pub window : Span
  pub book : Book

-- heights rise, and each has a record
pub record AreKnown (book : Book) (heights : List ℕ) : Type 0 where
  pub rising : IsStrictlyIncreasing heights
  pub recorded : All (λ h. IsSome (record_at book h)) heights

-- what is true of every view
pub record IsView (v : View) : Type 0 where
  pub stored : AreKnown v.book v.stored
  pub window : v.window.from ≤ v.window.until
  pub fees : IsFeeTable v.fees
  pub book : IsBook v.book

-- the record at the height is known, and doesn't expire in the window (ICS 7, trusting period)
abbrev pub IsLive : View → ℕ → Type 0
IsLive v height = IsSomeAnd (record_at v.book height) (λ r. v.window.until < r.time + v.options.period)

-- the client that goes by the step rule, over the steps that the book knows
unfoldable pub client_of : View → Client
client_of v = record {
  stored = v.stored;
  IsLive = IsLive v;
  Accepts = IsAcceptedWithin v.options v.book v.window;
  fee = fee_at v.options v.fees v.book;
  ties = v.options.ties;
}
