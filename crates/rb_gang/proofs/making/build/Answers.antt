use Rattle.std.proofs.Common.{◌≡◌, ◌++◌, List, length, All, subst, sym, ap, ◌∙◌, arith}
use Rattle.rb_book.specs.Book.{Book}
use Rattle.rb_graph.specs.declared.error.TableError.{TableError}
use Rattle.rb_graph.specs.declared.error.TableError.TheVariants.{RowMissing, RowTwice}
use Rattle.rb_graph.specs.Frame.{FrameRow, IsRowOf}
use Rattle.rb_graph.specs.TableError.{Explains}
use Rattle.rb_gang.proofs.Shifting.{each_once}
use Rattle.rb_gang.proofs.making.build.Goals as goal

pub open-requires : goal.open-requires
open-requires g c = omega (arith, c.in_ok-room.ensures.capacity, c.in_ok-room.room.small)

pub unreachable-requires : goal.unreachable-requires
unreachable-requires g c =
    let b : Book = c.in_ok-frame.frame in
    let made : List FrameRow = c.in_ok-seat.rows.items in
    let same : c.append.new.self.items ≡ made = c.in_ok-append.ensures.items ∙ ap (λ (l : List FrameRow). l ++ made) c.in_ok-room.ensures.items in
    let once = each_once _ _ _ _ _ _ c.in_ok-seat.ensures c.count.ensures.once in
    let told = subst (λ (x : TableError). Explains (length b.headers) c.append.new.self.items x) c.in-Err-default-default-RowTwice.field-0-2-is c.in-Err-default-default-RowTwice.ensures.cause in
    let why = subst (λ (l : List FrameRow). Explains (length b.headers) l (RowTwice c.in-Err-default-default-RowTwice.field-0-2-0)) same told in
    absurd (omega (arith, why.1.twice, once _ why.0))

pub unreachable-requires-in-Err-default-default-RowMissing : goal.unreachable-requires-in-Err-default-default-RowMissing
unreachable-requires-in-Err-default-default-RowMissing g c =
    let b : Book = c.in_ok-frame.frame in
    let made : List FrameRow = c.in_ok-seat.rows.items in
    let same : c.append.new.self.items ≡ made = c.in_ok-append.ensures.items ∙ ap (λ (l : List FrameRow). l ++ made) c.in_ok-room.ensures.items in
    let once = each_once _ _ _ _ _ _ c.in_ok-seat.ensures c.count.ensures.once in
    let told = subst (λ (x : TableError). Explains (length b.headers) c.append.new.self.items x) c.in-Err-default-default-RowMissing.field-0-2-is c.in-Err-default-default-RowMissing.ensures.cause in
    let why = subst (λ (l : List FrameRow). Explains (length b.headers) l (RowMissing c.in-Err-default-default-RowMissing.field-0-2-0)) same told in
    absurd (omega (arith, why.missing, once _ why.within))

pub finish-requires : goal.finish-requires
finish-requires g c =
    let b : Book = c.in_ok-frame.frame in
    let made : List FrameRow = c.in_ok-seat.rows.items in
    let same : c.append.new.self.items ≡ made = c.in_ok-append.ensures.items ∙ ap (λ (l : List FrameRow). l ++ made) c.in_ok-room.ensures.items in
    subst (All (IsRowOf b)) (sym same) c.in_ok-seat.ensures.right
