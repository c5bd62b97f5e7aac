-- How often a number stands among rows, as rows are added.
use Rattle.std.proofs.Common.{◌≡◌, ℕ, ◌+◌, ◌==◌, cond, List, [], ◌∷◌, ◌++◌}
use Rattle.std.proofs.lemmas.List.Sums.{sum_by_push, sum_by-append}
use Rattle.rb_graph.specs.Frame.{FrameRow, made}

pub made_push : (x : ℕ) (rows : List FrameRow) (r : FrameRow) → made x (rows ++ r ∷ []) ≡ made x rows + cond (r.number == x) 1 0
made_push x rows r = sum_by_push (λ (y : FrameRow). cond (y.number == x) 1 0) rows r

pub made_append : (x : ℕ) (rows more : List FrameRow) → made x (rows ++ more) ≡ made x rows + made x more
made_append x rows more = sum_by-append (λ (y : FrameRow). cond (y.number == x) 1 0) rows more
