use Rattle.std.proofs.Common.{◌≡◌, ◌+◌, ◌-◌, length, take, refl, arith}
use Rattle.rb_journal.specs.Parts.{closing_length}
use Rattle.rb_journal.proofs.Verbatims.{document_of}
use Rattle.rb_journal.proofs.verbatim.verbatim_document.Goals as goal

pub returns : goal.returns
returns c =
    let lines = c.args.lines.now in
    let end = c.saturating_sub-end.result in
    let at_end : c.saturating_sub-end.result ≡ length c.args.lines.now - (closing_length c.args.digests + 1) = omega arith in
    document_of c.unbarred.result c.args.digests lines (take end lines) end at_end refl c.unbarred.ensures
