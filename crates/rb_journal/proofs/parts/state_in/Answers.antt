use Rattle.std.proofs.Common.{◌≡◌, ℕ, List, ◌++◌, codes, drop, length, ap, ◌∙◌, length-append, append_assoc, arith, true}
use Rattle.std.proofs.Math.Seq.{take-append_seam}
use Rattle.rb_journal.specs.Parts.{closing, state_lines}
use Rattle.rb_journal.proofs.Closings.{length-closing}
use Rattle.rb_journal.proofs.parts.state_in.Goals as goal

pub returns : goal.returns
returns c = λ other is.
    let end = codes "'''\n" ++ closing true (state_lines other) in
    let cut = c.in_ok-rest.ensures.cases.1 ∙ ap (λ (prefix : List ℕ). drop (length prefix) c.args.part.now) c.as_bytes.ensures.value in
    let rest : c.in_ok-rest.rest.now ≡ other ++ end = cut ∙ ap (λ (bytes : List ℕ). drop 32 bytes) is ∙ append_assoc other (codes "'''\n") (closing true (state_lines other)) in
    let all = ap length rest ∙ length-append other end in
    let size = length-closing true (state_lines other) in
    let place : c.saturating_sub-end.result ≡ length other = omega arith in
    rw (rest, place) (take-append_seam other end)
