use Rattle.std.proofs.Common.{◌≡◌, ◌++◌, length, ap, ◌∙◌, length-append, arith}
use Rattle.std.proofs.Math.Seq.{take-append_seam}
use Rattle.rb_journal.specs.Parts.{gap, closing}
use Rattle.rb_journal.proofs.Closings.{length-closing}
use Rattle.rb_journal.proofs.entry.inner.Goals as goal

pub returns : goal.returns
returns c = λ text is.
    let end = closing c.args.digests (gap ++ text) in
    let rest : c.behind_gap-rest.result.now ≡ text ++ end = c.behind_gap-rest.ensures (text ++ end) is in
    let all = ap length rest ∙ length-append text end in
    let size = length-closing c.args.digests (gap ++ text) in
    let place : c.saturating_sub.result ≡ length text = omega arith in
    rw (rest, place) (take-append_seam text end)
