use Rattle.std.proofs.lemmas.Result.{err_from_is_err_and}
use Rattle.rb_journal.proofs.Entries.{unrestored_script}
use Rattle.rb_journal.proofs.entry.document_text.Goals as goal

pub returns-in_err-script_document-in-None-clause-unrestored :
    goal.returns-in_err-script_document-in-None-clause-unrestored
returns-in_err-script_document-in-None-clause-unrestored c =
    let error = c.from_residual-in_err-script_document-in-None in
    let p = err_from_is_err_and error.result error.ensures.1 in
    rw (p.1, p.2) (unrestored_script c.args.digests c.args.part.now _ c.in-None.ensures c.in_err-script_document-in-None.ensures.unrestored)
