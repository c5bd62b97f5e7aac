-- The steps that a book knows to a header.
use Rattle.std.proofs.Common.{◌≡◌, ℕ, List, Option, Some, None, refl, ap, ◌∙◌}
use Rattle.std.specs.Option.{option_and_then}
use Rattle.rb_valset.specs.Validator.{Member}
use Rattle.rb_book.specs.Header.{Record, Header}
use Rattle.rb_book.specs.Book.{Book, set_of, record_at, header_at}
use Rattle.rb_book.specs.Invariant.{IsBacked}
use Rattle.rb_step.specs.StepRule.{Step, step_of}
use Rattle.rb_step.specs.KnownStep.{step_at}
use Rattle.rb_graph.specs.StoredRow.{own_set}
use Rattle.rb_graph.proofs.OwnSet.{own_known}

module _ (b : Book) (t height : ℕ) where
  abbrev by_own : Record → Header → Option (List Member) → Option Step
  by_own r h own = option_and_then (λ own. Some (step_of t r (set_of b r.next) h own)) own

  abbrev by_header : Record → Option Header → Option Step
  by_header r h = option_and_then (λ header. by_own r header (set_of b header.set_hash)) h

  abbrev by_record : Option Record → Option Step
  by_record r = option_and_then (λ trusted. by_header trusted (header_at b height)) r

  pub known_step : (r : Record) (h : Header) → record_at b t ≡ Some r → header_at b height ≡ Some h → IsBacked b h
      → step_at b t height ≡ Some (step_of t r (set_of b r.next) h (own_set b h))
  unfolding step_at
  known_step r h recorded found backed = ap by_record recorded ∙ ap (by_header r) found ∙ ap (by_own r h) (own_known b h backed)

  pub no_record : record_at b t ≡ None → step_at b t height ≡ None
  unfolding step_at
  no_record none = ap by_record none

  pub no_header : header_at b height ≡ None → step_at b t height ≡ None
  unfolding step_at
  no_header none = by (record_at b t)
    where
      by : (r : Option Record) → by_record r ≡ None
      by None = refl
      by (Some r) = ap (by_header r) none
