use Rattle.std.proofs.Common.{◌≡◌, ◌<◌, ℕ, List, Option, length, get_or, map, sym, ap, ◌∙◌, arith, rules}
use Rattle.std.proofs.lemmas.Option.{get_or_from_slice_get, slice_get_within}
use Rattle.std.proofs.lemmas.List.{set-get_or, get_or-map, length-map}
use Rattle.rb_valset.specs.Validator.{Member}
use Rattle.rb_book.specs.Header.{Header}
use Rattle.rb_book.specs.Book.{Book}
use Rattle.rb_book.specs.Intake.{with_set}
use Rattle.rb_graph.specs.StoredRow.{StoredRow, stored_power, stored_row_of}
use Rattle.rb_graph.proofs.Inserted.{written-is, written-none, written-here, written-step, written-all, length-written}
use Rattle.rb_graph.proofs.reached.enter_powers.Goals as goal

pub loop-index-init : goal.loop-index-init
loop-index-init g c =
    let b = c.args.book.now in
    c.requires.rows ∙ sym (written-none (stored_row_of b) (stored_row_of (with_set b c.args.set.now)) b.headers)

pub header_at-header-requires : goal.header_at-header-requires
header_at-header-requires g c =
    let b = c.args.book.now in
    let new : Book = with_set b c.args.set.now in
    omega (arith, c.loop-index-test.true, ap (λ (l : List StoredRow). length l) c.loop-index.invariant, length-written (stored_row_of b) (stored_row_of new) b.headers c.loop-index.index)

pub bounds-powers-index : goal.bounds-powers-index
bounds-powers-index g c =
    let b = c.args.book.now in
    let new : Book = with_set b c.args.set.now in
    let lt : c.loop-index.index < length b.headers = omega (arith, c.loop-index-test.true, ap (λ (l : List StoredRow). length l) c.loop-index.invariant, length-written (stored_row_of b) (stored_row_of new) b.headers c.loop-index.index) in
    omega (arith, lt, ap (λ (l : List (Option ℕ)). length l) c.requires.powers, length-map b.headers (λ (h : Header). stored_power b h c.args.set.now))

pub enter_power-requires-clause-row : goal.enter_power-requires-clause-row
enter_power-requires-clause-row g c =
    let b = c.args.book.now in
    let new : Book = with_set b c.args.set.now in
    let h : Header = c.header_at-header.result.now in
    let at = c.loop-index.index in
    let there = c.header_at-header.ensures.header in
    ap (λ (l : List StoredRow). get_or l at c.index-rows-index.result) c.loop-index.invariant
    ∙ written-here (stored_row_of b) (stored_row_of new) b.headers at h c.index-rows-index.result (slice_get_within b.headers at h there)
    ∙ ap (stored_row_of b) (get_or_from_slice_get b.headers at h h there)

pub enter_power-requires-clause-power : goal.enter_power-requires-clause-power
enter_power-requires-clause-power g c =
    let b = c.args.book.now in
    let set : List Member = c.args.set.now in
    let h : Header = c.header_at-header.result.now in
    let at = c.loop-index.index in
    let there = c.header_at-header.ensures.header in
    let power : (d : Option ℕ) → get_or c.args.powers.now at d ≡ stored_power b h set =
    λ d. ap (λ (l : List (Option ℕ)). get_or l at d) c.requires.powers
    ∙ get_or-map (λ (x : Header). stored_power b x set) b.headers at h d (slice_get_within b.headers at h there)
    ∙ ap (λ (x : Header). stored_power b x set) (get_or_from_slice_get b.headers at h h there) in
    search (rules, power)

pub loop-index-preserved : goal.loop-index-preserved
loop-index-preserved g c =
    let b = c.args.book.now in
    let new : Book = with_set b c.args.set.now in
    let h : Header = c.header_at-header.result.now in
    let at = c.loop-index.index in
    let there = c.header_at-header.ensures.header in
    let here : get_or b.headers at h ≡ h = get_or_from_slice_get b.headers at h h there in
    (λ i. Rattle.std.proofs.Common.set (c.loop-index.invariant i) at ((c.in-Ok.ensures.entered ∙ ap (stored_row_of new) (sym here)) i))
    ∙ written-step (stored_row_of b) (stored_row_of new) b.headers at h (slice_get_within b.headers at h there)

pub leave_powers-requires-clause-count : goal.leave_powers-requires-clause-count
leave_powers-requires-clause-count g c =
    let b = c.args.book.now in
    let new : Book = with_set b c.args.set.now in
    omega (arith, c.loop-index-test.true, ap (λ (l : List StoredRow). length l) c.loop-index.invariant, length-written (stored_row_of b) (stored_row_of new) b.headers c.loop-index.index)

pub leave_powers-requires-clause-rows : goal.leave_powers-requires-clause-rows
leave_powers-requires-clause-rows g c =
    let b = c.args.book.now in
    let new : Book = with_set b c.args.set.now in
    let at = c.loop-index.index in
    ap (λ (r : StoredRow). Rattle.std.proofs.Common.set c.loop-index.rows at r) c.in_default.ensures.unchanged
    ∙ set-get_or c.loop-index.rows at c.index-rows-index.result
    ∙ c.loop-index.invariant
    ∙ sym (written-is (stored_row_of b) (stored_row_of new) b.headers at)

pub returns-clause-entered : goal.returns-clause-entered
returns-clause-entered g c =
    let b = c.args.book.now in
    let new : Book = with_set b c.args.set.now in
    c.loop-index.invariant
    ∙ written-all (stored_row_of b) (stored_row_of new) b.headers c.loop-index.index
    (omega (arith, c.loop-index-test.false, ap (λ (l : List StoredRow). length l) c.loop-index.invariant, length-written (stored_row_of b) (stored_row_of new) b.headers c.loop-index.index))

pub returns-in_default-clause-unchanged : goal.returns-in_default-clause-unchanged
returns-in_default-clause-unchanged g c = c.leave_powers.ensures ∙ sym c.requires.rows
