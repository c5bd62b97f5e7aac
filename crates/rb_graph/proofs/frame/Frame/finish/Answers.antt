use Rattle.std.proofs.Common.{ℕ, List, length, subst, sym, ap, ◌∙◌}
use Rattle.std.proofs.lemmas.List.Sorted.{All-permutation}
use Rattle.rb_book.specs.Book.{Book}
use Rattle.rb_graph.specs.Frame.{FrameRow, IsRowOf, IsWhole, kept_rows}
use Rattle.rb_graph.specs.TableError.{Explains}
use Rattle.rb_graph.specs.Ordered.{AreOrdered, AreBelow, AreInPlace}
use Rattle.rb_graph.proofs.Finishing.{rows_below, explains_before, whole_before, all_kept}
use Rattle.rb_graph.proofs.frame.Frame.finish.Goals as goal

pub flaw-requires-clause-ordered : goal.flaw-requires-clause-ordered
flaw-requires-clause-ordered g c = subst AreOrdered (sym c.as_slice.ensures.value) c.sort_by_number.ensures.ordered

pub flaw-requires-clause-below : goal.flaw-requires-clause-below
flaw-requires-clause-below g c =
    let b : Book = c.args.self in
    let sorted : List FrameRow = c.sort_by_number.new.rows.items in
    let right = All-permutation (IsRowOf b) c.args.rows.items sorted c.sort_by_number.ensures.same c.requires in
    subst (λ (l : List FrameRow). AreBelow c.rows.result l) (sym c.as_slice.ensures.value)
    (subst (λ (n : ℕ). AreBelow n sorted) (sym c.rows.ensures) (rows_below b sorted right))

pub returns-in-Some-clause-cause : goal.returns-in-Some-clause-cause
returns-in-Some-clause-cause g c =
    let b : Book = c.args.self in
    let sorted : List FrameRow = c.sort_by_number.new.rows.items in
    explains_before (length b.headers) c.args.rows.items sorted c.in-Some.cause c.sort_by_number.ensures.same
    (subst (λ (l : List FrameRow). Explains (length b.headers) l c.in-Some.cause) c.as_slice.ensures.value
    (subst (λ (n : ℕ). Explains n c.as_slice.result.now c.in-Some.cause) c.rows.ensures c.in-Some.ensures.cause))

pub invariant_of-result : goal.invariant_of-result
invariant_of-result g c =
    let b : Book = c.args.self in
    let sorted : List FrameRow = c.sort_by_number.new.rows.items in
    let right = All-permutation (IsRowOf b) c.args.rows.items sorted c.sort_by_number.ensures.same c.requires in
    let placed : AreInPlace (length b.headers) sorted =
    subst (λ (l : List FrameRow). AreInPlace (length b.headers) l) c.as_slice.ensures.value
    (subst (λ (n : ℕ). AreInPlace n c.as_slice.result.now) c.rows.ensures c.in_default.ensures.in_place) in (
      c.self.invariant.0,
      c.kept_in_order.ensures ∙ all_kept b sorted right placed ∙ ap kept_rows (sym c.self.view_is),
      c.self.invariant.1,
      (c.self.invariant.2, c.self.invariant.3),
    )

pub returns-clause-whole : goal.returns-clause-whole
returns-clause-whole g c =
    let b : Book = c.args.self in
    let sorted : List FrameRow = c.sort_by_number.new.rows.items in
    whole_before (length b.headers) c.args.rows.items sorted c.sort_by_number.ensures.same
    (subst (λ (l : List FrameRow). IsWhole (length b.headers) l) c.as_slice.ensures.value
    (subst (λ (n : ℕ). IsWhole n c.as_slice.result.now) c.rows.ensures c.in_default.ensures.whole))
