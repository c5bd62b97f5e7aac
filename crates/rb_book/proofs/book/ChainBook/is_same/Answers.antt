use Rattle.std.proofs.Common.{◌≡◌, ap, refl, sym, ◌∙◌}
use Rattle.std.specs.Cmp.Lexicographic.{pointwise}
use Rattle.std.proofs.lemmas.Slice.Eq.{slice_eq-Decides}
use Rattle.rb_book.specs.Book.{Book, same_known}
use Rattle.rb_book.specs.Same.{same_known-Decides}
use Rattle.rb_book.proofs.book.ChainBook.is_same.Goals as goal

pub has_same_headers-requires : goal.has_same_headers-requires
has_same_headers-requires g c =
    let xs = c.as_slice.result.now in
    let ys = c.as_slice-2.result.now in
    let decides = slice_eq-Decides same_known-Decides xs ys (pointwise same_known xs ys) refl in
    let records = λ (b : Book). b.records in
    sym (ap records c.self.view_is) ∙ sym c.as_slice.ensures.value ∙ decides.0 (sym c.if-not-same_records.ensures) ∙ c.as_slice-2.ensures.value
    ∙ ap records c.other.view_is
