use Rattle.std.proofs.Common.{◌≡◌, ◌<◌, ◌∙◌, List, Some, length, sym, ap, subst, arith, rules}
use Rattle.std.specs.List.{slice_get}
use Rattle.std.proofs.lemmas.Option.{slice_get-get_or}
use Rattle.rb_book.specs.Book.{Book}
use Rattle.rb_book.specs.Header.{Header}
use Rattle.rb_book.specs.Invariant.{IsBook}
use Rattle.rb_graph.proofs.Headers.{position_of_height}
use Rattle.rb_graph.proofs.graph.Graph.header_place.Goals as goal

pub returns-then-eq-clause-value : goal.returns-then-eq-clause-value
returns-then-eq-clause-value g c =
    let h : Header = c.index-headers-place.result in
    let lt : c.args.place < length c.headers-headers.result.now = omega (arith, c.if-place-headers.true) in
    let headers = c.headers-headers.ensures.value ∙ ap (λ (b : Book). b.headers) c.self.view_is in
    let at : slice_get c.args.self.now.headers c.args.place ≡ Some h =
    ap (λ (hs : List Header). slice_get hs c.args.place) (sym headers) ∙ slice_get-get_or c.headers-headers.result.now c.args.place h lt ∙ ap (λ (x : Header). Some x) (sym c.index-headers-place.is) in
    let same : h.height ≡ c.args.height = search rules in
    position_of_height c.args.self.now c.args.height c.args.place h (subst IsBook c.self.view_is c.headers-headers.ensures.book) at same
