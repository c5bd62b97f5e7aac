-- The step from the record at a place to a target.
use Rattle.std.proofs.Common.{◌≡◌, ◌↔◌, ℕ, ◌+◌, ◌<◌, ◌≤◌, Bool, true, false, [], Option, Some, None, length, get_or, refl, sym, ap, subst, ◌∙◌, arith}
use Rattle.std.specs.Prelude.{IsSomeAnd, if◌then◌else◌}
use Rattle.std.specs.List.{find, slice_get}
use Rattle.std.specs.Option.{option_map, option_map_or}
use Rattle.std.proofs.lemmas.Bool.{true≢false}
use Rattle.std.proofs.lemmas.Option.{same_Some, none-some, slice_get-get_or, slice_get_within, get_or_from_slice_get}
use Rattle.rb_book.specs.Header.{Header}
use Rattle.rb_base.specs.Fee.{charge_of}
use Rattle.rb_book.specs.Book.{RecordAt, height_of, is_at, header_at, set_of}
use Rattle.rb_book.specs.Invariant.{IsBook}
use Rattle.rb_step.specs.Carried.{least_votes}
use Rattle.rb_step.specs.Fee.{fee_of, fee_at, size_of}
use Rattle.rb_step.specs.StepRule.{Step, AcceptsWithin}
use Rattle.rb_step.specs.KnownStep.{step_at}
use Rattle.rb_step.specs.Laws.{SuccessIsAcceptance, LeastFeeIsLeast}
use Rattle.rb_graph.specs.StepTable.{Target, IsStepFee}
use Rattle.rb_graph.specs.StoredRow.{own_set}
use Rattle.rb_graph.specs.Source.{lower_records, Source, source_of, step_from, is_accepted_from, fee_from}
use Rattle.rb_graph.proofs.Charges.{own_valid}
use Rattle.rb_graph.proofs.Filtered.{low-within}
use Rattle.rb_graph.proofs.Headers.{backed_at}
use Rattle.rb_graph.proofs.Into.{accepted_is, step_is}
use Rattle.rb_graph.proofs.RecordAt.{no_header}
use Rattle.rb_graph.proofs.Rising.{heights_up}
use Rattle.rb_graph.proofs.Lower.{lower-at, length-lower}
use Rattle.rb_graph.proofs.Members.{find-In, in_at}

no_known : RecordAt
no_known = record { height = 0; record_of = record { time = 0; root = []; next = [] } }

module _ (law : SuccessIsAcceptance) (x : Target) (book : IsBook x.book) (ordered : x.window.from ≤ x.window.until) where
  module _ (h : Header) (found : header_at x.book x.height ≡ Some h) (k : RecordAt) (p : ℕ) (at : slice_get x.book.records p ≡ Some k) where
    abbrev s : Source
    s = source_of x.book h

    known : find (is_at k.height) x.book.records ≡ Some k
    known = find-In height_of k x.book.records (heights_up x.book book) (in_at x.book.records p k at)

    step_known : step_at x.book k.height x.height ≡ Some (step_from s k)
    step_known = step_is law x.book x.options x.window ordered x.height h found (backed_at x.book x.height h book found) k.height k known refl

    accepted : (is_accepted_from x.options x.window s k ≡ true) ↔ AcceptsWithin x.options x.window (step_from s k)
    accepted = accepted_is law x.book x.options x.window ordered x.height h found (backed_at x.book x.height h book found) k

    fee_known : fee_at x.options x.fees x.book k.height x.height ≡ fee_of x.options x.fees (step_from s k)
    fee_known = ap (λ (o : Option Step). option_map_or (fee_of x.options x.fees) o 0) step_known

    -- the charge for the fewest votes is no more than the fee
    least_known : LeastFeeIsLeast → (r votes : ℕ) → votes ≡ least_votes x.options h (own_set x.book h)
        → r ≡ charge_of x.fees votes (length (own_set x.book h) + size_of (set_of x.book k.record_of.next)) → r ≤ fee_at x.options x.fees x.book k.height x.height
    least_known least r votes is_votes is =
        let charged = ap (λ n. charge_of x.fees n (length (own_set x.book h) + size_of (set_of x.book k.record_of.next))) is_votes in
        let fewer = least x.options x.fees (step_from s k) (own_valid x.book h book (backed_at x.book x.height h book found)) in
        omega (arith, is, charged, fewer, fee_known)

    by_accepted : (b : Bool) (r : Option ℕ) → is_accepted_from x.options x.window s k ≡ b → r ≡ (if b then Some (fee_of x.options x.fees (step_from s k)) else None) → IsStepFee x k.height r
    by_accepted true None e is = absurd (none-some _ is)
    by_accepted true (Some fee) e is = (
      rw step_known (accepted.0 e),
      same_Some fee (fee_of x.options x.fees (step_from s k)) is ∙ sym fee_known,
    )
    by_accepted false None e is = λ a. true≢false (sym (accepted.1 (rw step_known at a)) ∙ e)
    by_accepted false (Some fee) e is = absurd (none-some _ (sym is))

    -- the record is not lower
    high : length (lower_records x.book h.height) ≤ p → IsStepFee x k.height None
    high above a =
        let all : AcceptsWithin x.options x.window (step_from s k) = rw step_known at a in
        let low : k.height < h.height = (all x.window.from (omega arith, ordered)).higher in
        let read : get_or x.book.records p k ≡ k = get_or_from_slice_get x.book.records p k k at in
        let within = low-within height_of h.height x.book.records p k (heights_up x.book book) (slice_get_within x.book.records p k at) (omega (arith, low, ap height_of read)) in
        omega (arith, above, within, length-lower x.book h.height)

  abbrev Told : ℕ → Option ℕ → Type 0
  Told p r = IsSomeAnd (slice_get x.book.records p) (λ k. IsStepFee x k.height r)

  told : (p : ℕ) (r : Option ℕ) (k : RecordAt) → slice_get x.book.records p ≡ Some k → IsStepFee x k.height r → Told p r
  told p r k at is = subst (λ (o : Option RecordAt). IsSomeAnd o (λ j. IsStepFee x j.height r)) (sym at) is

  taken : (h : Header) (p : ℕ) (r : Option ℕ) → header_at x.book x.height ≡ Some h → p < length x.book.records → p < length (lower_records x.book h.height)
      → IsSomeAnd (slice_get (lower_records x.book h.height) p) (λ k. r ≡ fee_from x.options x.window x.fees (source_of x.book h) k) → Told p r
  taken h p r found within low is =
      let k = get_or x.book.records p no_known in
      let at : slice_get x.book.records p ≡ Some k = slice_get-get_or x.book.records p no_known within in
      let here : r ≡ fee_from x.options x.window x.fees (source_of x.book h) k =
      subst (λ (o : Option RecordAt). IsSomeAnd o (λ j. r ≡ fee_from x.options x.window x.fees (source_of x.book h) j)) (lower-at x.book h.height p book low ∙ at) is in
      told p r k at (by_accepted h found k p at (is_accepted_from x.options x.window (source_of x.book h) k) r refl here)

  pub fee_taken : (s : Source) (p : ℕ) (r : Option ℕ) → Some s ≡ option_map (source_of x.book) (header_at x.book x.height) → p < length x.book.records
      → p < length (lower_records s.book s.header.height)
      → IsSomeAnd (slice_get (lower_records s.book s.header.height) p) (λ k. r ≡ fee_from x.options x.window x.fees s k) → Told p r
  fee_taken s p r source within = by (header_at x.book x.height) refl source
    where
      by : (o : Option Header) → header_at x.book x.height ≡ o → Some s ≡ option_map (source_of x.book) o → p < length (lower_records s.book s.header.height)
          → IsSomeAnd (slice_get (lower_records s.book s.header.height) p) (λ k. r ≡ fee_from x.options x.window x.fees s k) → Told p r
      by None found is = absurd (cc)
      by (Some h) found is =
          let same : s ≡ source_of x.book h = (cc) in
          subst (λ (t : Source). p < length (lower_records t.book t.header.height)
          → IsSomeAnd (slice_get (lower_records t.book t.header.height) p) (λ k. r ≡ fee_from x.options x.window x.fees t k) → Told p r) (sym same)
          (λ low told. taken h p r found within low told)

  pub fee_high : (s : Source) (p : ℕ) → Some s ≡ option_map (source_of x.book) (header_at x.book x.height) → p < length x.book.records
      → length (lower_records s.book s.header.height) ≤ p → Told p None
  fee_high s p source within = by (header_at x.book x.height) refl source
    where
      by : (o : Option Header) → header_at x.book x.height ≡ o → Some s ≡ option_map (source_of x.book) o → length (lower_records s.book s.header.height) ≤ p → Told p None
      by None found is = absurd (cc)
      by (Some h) found is =
          let same : s ≡ source_of x.book h = (cc) in
          let k = get_or x.book.records p no_known in
          let at : slice_get x.book.records p ≡ Some k = slice_get-get_or x.book.records p no_known within in
          subst (λ (t : Source). length (lower_records t.book t.header.height) ≤ p → Told p None) (sym same)
          (λ above. told p None k at (high h found k p at above))

  pub fee_nowhere : (p : ℕ) → None ≡ option_map (source_of x.book) (header_at x.book x.height) → p < length x.book.records → Told p None
  fee_nowhere p source within = by (header_at x.book x.height) refl source
    where
      k : RecordAt
      k = get_or x.book.records p no_known

      by : (o : Option Header) → header_at x.book x.height ≡ o → ◌≡◌ {A = Option Source} None (option_map (source_of x.book) o) → Told p None
      by (Some h) found is = absurd (cc)
      by None found is = told p None k (slice_get-get_or x.book.records p no_known within) (λ a. absurd (rw (no_header x.book k.height x.height found) at a))

  -- ---- the least fee

  abbrev AtMost : ℕ → ℕ → Type 0
  AtMost p r = IsSomeAnd (slice_get x.book.records p) (λ k. r ≤ fee_at x.options x.fees x.book k.height x.height)

  at_most : (p : ℕ) (r : ℕ) (k : RecordAt) → slice_get x.book.records p ≡ Some k → r ≤ fee_at x.options x.fees x.book k.height x.height → AtMost p r
  at_most p r k at is = subst (λ (o : Option RecordAt). IsSomeAnd o (λ j. r ≤ fee_at x.options x.fees x.book j.height x.height)) (sym at) is

  pub least_nothing : (p : ℕ) → p < length x.book.records → AtMost p 0
  least_nothing p within = at_most p 0 (get_or x.book.records p no_known) (slice_get-get_or x.book.records p no_known within) (omega arith)

  abbrev ChargedWith : Source → ℕ → ℕ → ℕ → Type 0
  ChargedWith s p votes r =
      IsSomeAnd (slice_get (lower_records s.book s.header.height) p) (λ k. r ≡ charge_of x.fees votes (length (own_set s.book s.header) + size_of (set_of s.book k.record_of.next)))

  pub least_taken : LeastFeeIsLeast → (s : Source) (p votes r : ℕ) → Some s ≡ option_map (source_of x.book) (header_at x.book x.height) → p < length x.book.records
      → p < length (lower_records s.book s.header.height) → votes ≡ least_votes x.options s.header (own_set s.book s.header) → ChargedWith s p votes r → AtMost p r
  least_taken least s p votes r source within = by (header_at x.book x.height) refl source
    where
      by : (o : Option Header) → header_at x.book x.height ≡ o → Some s ≡ option_map (source_of x.book) o → p < length (lower_records s.book s.header.height)
          → votes ≡ least_votes x.options s.header (own_set s.book s.header) → ChargedWith s p votes r → AtMost p r
      by None found is = absurd (cc)
      by (Some h) found is =
          let same : s ≡ source_of x.book h = (cc) in
          let k = get_or x.book.records p no_known in
          let at : slice_get x.book.records p ≡ Some k = slice_get-get_or x.book.records p no_known within in
          subst (λ (t : Source). p < length (lower_records t.book t.header.height) → votes ≡ least_votes x.options t.header (own_set t.book t.header) → ChargedWith t p votes r → AtMost p r) (sym same)
          (λ low is_votes charged.
          at_most p r k at (least_known h found k p at least r votes is_votes
          (subst (λ (o : Option RecordAt). IsSomeAnd o (λ j. r ≡ charge_of x.fees votes (length (own_set x.book h) + size_of (set_of x.book j.record_of.next)))) (lower-at x.book h.height p book low ∙ at) charged)))

-- what is told of a struct's fields is told of the target that a caller sees
pub least_told_of : (x y : Target) → x ≡ y → (p r : ℕ) → p < length y.book.records
    → (p < length x.book.records → IsSomeAnd (slice_get x.book.records p) (λ k. r ≤ fee_at x.options x.fees x.book k.height x.height))
    → IsSomeAnd (slice_get y.book.records p) (λ k. r ≤ fee_at y.options y.fees y.book k.height y.height)
least_told_of x y e p r within told =
    subst (λ (z : Target). p < length z.book.records → IsSomeAnd (slice_get z.book.records p) (λ k. r ≤ fee_at z.options z.fees z.book k.height z.height)) e told within

pub told_of : (x y : Target) → x ≡ y → (p : ℕ) (r : Option ℕ) → p < length y.book.records → (p < length x.book.records → IsSomeAnd (slice_get x.book.records p) (λ k. IsStepFee x k.height r))
    → IsSomeAnd (slice_get y.book.records p) (λ k. IsStepFee y k.height r)
told_of x y e p r within told =
    subst (λ (z : Target). p < length z.book.records → IsSomeAnd (slice_get z.book.records p) (λ k. IsStepFee z k.height r)) e told within
