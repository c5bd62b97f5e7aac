-- (internal) A header in its book, and what is read of it: a cell for each lower record (own choice of form; the numbers
-- are those of CometBFT's light client), and whether the step from that record is accepted, and for what fee.
use Rattle.std.specs.Prelude.{ℕ, Bool, true, false, List, length, filter, Option, Some, None, if◌then◌else◌}
use Rattle.std.specs.Option.{option_map}
use Rattle.rb_base.specs.Fee.{Fees}
use Rattle.rb_base.specs.Options.{ClientOptions}
use Rattle.rb_base.specs.Window.{Span}
use Rattle.rb_valset.specs.ValidatorSet.{total_of}
use Rattle.rb_book.specs.Header.{Header}
use Rattle.rb_book.specs.Book.{Book, RecordAt, is_below, set_of}
use Rattle.rb_step.specs.SignedPower.{signed_power}
use Rattle.rb_step.specs.StepRule.{Step, step_of}
use Rattle.rb_step.specs.Fee.{fee_of}
use Rattle.rb_step.specs.Answer.{answer_within}
use Rattle.rb_step.specs.declared.verdict.Verdict.{Verdict}
use Rattle.rb_step.specs.declared.verdict.Verdict.TheVariants.{Success, NotEnoughTrust, Invalid}
use Rattle.rb_graph.specs.StoredRow.{own_set}

-- a header in its book
pub record Source : Type 0 where
  pub book : Book
  pub header : Header

abbrev pub source_of : Book → Header → Source
source_of b h = record { book = b; header = h }

-- what a lower record's next set says of a header: the power in that set of the header's commit voters, the set's total
-- power, its number of members
pub record Cell : Type 0 where
  pub signed : ℕ
  pub total : ℕ
  pub size : ℕ

-- the cell of a header and a known record, where the record's next set is known
unfoldable pub cell_of : Book → Header → RecordAt → Option Cell
cell_of b h k = option_map
    (λ next. record { signed = signed_power next (own_set b h) h; total = total_of next; size = length next })
    (set_of b k.record_of.next)

-- the known records below a height
abbrev pub lower_records : Book → ℕ → List RecordAt
lower_records b height = filter (is_below height) b.records

abbrev pub is_success : Verdict → Bool
is_success Success = true
is_success (NotEnoughTrust signed total) = false
is_success (Invalid reason) = false

-- the step from a known record to the header
abbrev pub step_from : Source → RecordAt → Step
step_from s k = step_of k.height k.record_of (set_of s.book k.record_of.next) s.header (own_set s.book s.header)

-- whether the client accepts it at every moment of the window
unfoldable pub is_accepted_from : ClientOptions → Span → Source → RecordAt → Bool
is_accepted_from o w s k = is_success (answer_within o w (step_from s k))

-- the charge for the step from a known record, where it is accepted
abbrev pub fee_from : ClientOptions → Span → Fees → Source → RecordAt → Option ℕ
fee_from o w fees s k = if is_accepted_from o w s k then Some (fee_of o fees (step_from s k)) else None
