use Rattle.std.proofs.Common.{◌≡◌, arith, ap, length, get_or, sym, subst, ◌∙◌}
use Rattle.rb_book.specs.Book.{Book}
use Rattle.rb_book.specs.Invariant.{IsBook}
use Rattle.rb_book.specs.Same.{same_header-Decides}
use Rattle.rb_book.proofs.Compared.{backed_at, decided, decided_not, differs_by, other_at, same_next, same_whole, signing-Decides}
use Rattle.rb_book.proofs.book.ChainBook.has_same_headers.Goals as goal

pub returns-then-not-is_same_signing : goal.returns-then-not-is_same_signing
returns-then-not-is_same_signing g c =
    let b = c.args.self.now in
    let d = c.args.other.now in
    let h = c.index.result.now in
    let k = c.index-in-loop-place.result.now in
    let here = ap (λ (b : Book). length b.headers) c.self.view_is in
    let there = ap (λ (b : Book). length b.headers) c.other.view_is in
    let read = c.index.ensures ∙ ap (λ (b : Book). get_or b.headers c.loop-place.place h) c.self.view_is in
    let read_other = c.index-in-loop-place.ensures ∙ ap (λ (b : Book). get_or b.headers c.loop-place.place k) c.other.view_is in
    let decides = signing-Decides b d h k c.requires (backed_at b c.loop-place.place h (subst IsBook c.self.view_is c.self.invariant.0).backed (omega (arith, here, there)) read)
    (backed_at d c.loop-place.place k (subst IsBook c.other.view_is c.other.invariant.0).backed (omega (arith, here, there)) read_other) in
    decided_not same_header-Decides _ _
    (other_at b.headers d.headers c.loop-place.place h k (omega (arith, here, there)) read read_other (differs_by decides c.if-not-is_same_signing.ensures))

pub loop-place-preserved : goal.loop-place-preserved
loop-place-preserved g c =
    let b = c.args.self.now in
    let d = c.args.other.now in
    let h = c.index.result.now in
    let k = c.index-in-loop-place.result.now in
    let here = ap (λ (b : Book). length b.headers) c.self.view_is in
    let there = ap (λ (b : Book). length b.headers) c.other.view_is in
    let read = c.index.ensures ∙ ap (λ (b : Book). get_or b.headers c.loop-place.place h) c.self.view_is in
    let read_other = c.index-in-loop-place.ensures ∙ ap (λ (b : Book). get_or b.headers c.loop-place.place k) c.other.view_is in
    let decides = signing-Decides b d h k c.requires (backed_at b c.loop-place.place h (subst IsBook c.self.view_is c.self.invariant.0).backed (omega (arith, here, there)) read)
    (backed_at d c.loop-place.place k (subst IsBook c.other.view_is c.other.invariant.0).backed (omega (arith, here, there)) read_other) in
    same_next b.headers d.headers c.loop-place.place h k (omega (arith, here, there)) (omega (arith, here, there)) c.loop-place.invariant read read_other
    (decides.0 (sym c.if-not-is_same_signing.ensures))

pub returns : goal.returns
returns g c =
    let here = ap (λ (b : Book). length b.headers) c.self.view_is in
    let there = ap (λ (b : Book). length b.headers) c.other.view_is in
    decided same_header-Decides _ _
    (same_whole c.args.self.now.headers c.args.other.now.headers c.loop-place.place (omega (arith, here)) (omega (arith, here, there)) c.loop-place.invariant)
