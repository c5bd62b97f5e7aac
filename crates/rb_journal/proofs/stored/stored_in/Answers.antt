use Rattle.std.proofs.Common.{◌≡◌, ◌+◌, ap, ◌∙◌, length, map, List, ℕ, subst, sym, length-append, arith}
use Rattle.std.proofs.lemmas.Result.{err_from_is_err_and}
use Rattle.rb_journal.proofs.Ends.{part-some}
use Rattle.rb_journal.proofs.Stores.{Through, through-then, texts-push, unread-memory, unread-part}
use Rattle.rb_journal.proofs.stored.stored_in.Goals as goal

pub loop-part-smaller : goal.loop-part-smaller
loop-part-smaller c =
    let all : length c.loop-part.rest.now ≡ length c.in-Some.part.now + length c.in-Some.more.now = ap length c.in-Some.ensures.0 ∙ length-append c.in-Some.part.now c.in-Some.more.now in
    let some = part-some c.in-Some.part.now c.in-Some.ensures.1 in
    omega arith

pub loop-part-preserved : goal.loop-part-preserved
loop-part-preserved c =
    let documents = c.loop-part.documents.items in
    let text = c.in_ok-document_text.field-0 in
    subst (λ (xs : List (List ℕ)). Through c.args.digests c.args.turns.now xs c.in-Some.more.now)
    (sym (ap (map (λ d. d.items)) c.in_ok-push.ensures.items ∙ texts-push documents text))
    (through-then c.args.digests c.args.turns.now (map (λ d. d.items) documents) c.loop-part.rest.now c.in-Some.part.now c.in-Some.more.now text.items
    c.loop-part.invariant c.in-Some.ensures.0 c.in-Some.ensures.1 c.in_ok-document_text.ensures.restored)

pub returns-in_err-document_text-clause-unread : goal.returns-in_err-document_text-clause-unread
returns-in_err-document_text-clause-unread c =
    let p = err_from_is_err_and c.from_residual.result c.from_residual.ensures.1 in
    rw (p.1, p.2)
    (unread-part c.args.digests c.args.turns.now (map (λ d. d.items) c.loop-part.documents.items) c.loop-part.rest.now c.in-Some.part.now c.in-Some.more.now _
    c.loop-part.invariant c.in-Some.ensures.0 c.in-Some.ensures.1 c.in_err-document_text.ensures.unrestored)

pub returns-in_err-push-clause-unread : goal.returns-in_err-push-clause-unread
returns-in_err-push-clause-unread c =
    let p = err_from_is_err_and c.from_residual-in_err-push.result c.from_residual-in_err-push.ensures.1 in
    rw (p.1, p.2) (unread-memory c.args.digests c.args.turns.now)
