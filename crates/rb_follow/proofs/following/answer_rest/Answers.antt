use Rattle.std.proofs.Common.{ℕ, ◌<◌, List, [], ◌∷◌, length, None, ap, ◌∙◌, eqb-true, pos_of_ne-zero, refl, sym, subst}
use borrow.Author.Tests.{eqb-false}
use Rattle.rb_script_toml.specs.Faults.{fault_view}
use Rattle.rb_follow.specs.Documents.{Document, document, cut, all_read, last_of}
use Rattle.rb_follow.specs.Followers.{refused, faulty}
use Rattle.rb_follow.specs.Headline.{Told}
use Rattle.rb_follow.specs.Journals.{outs}
use Rattle.rb_follow.specs.Views.{following}
use Rattle.rb_follow.proofs.Telling.{stores_none, told-none, begins-nothing, told-tell, begins-tell, told-of, begins-told-of}
use Rattle.rb_follow.proofs.Pieces.{last-whole, last-none, last-cut}
use Rattle.rb_follow.proofs.following.answer_rest.Goals as goal

-- the last document's last line ended with the input
pub returns-then-finish-clause-told : goal.returns-then-finish-clause-told
returns-then-finish-clause-told g c =
    told-of (λ x. following x) c.args.teller.now.form (following c.args.follower) (document (all_read c.finish.new.self) ∷ []) (last_of c.args.gathering.now)
    (outs (g.W.Sink.taken c.args.writer.now) (g.J.Journal.documents c.args.journal.now)) (outs (g.W.Sink.taken c.answer_document.new.writer) (g.J.Journal.documents c.answer_document.new.journal)) c.answer_document.result
    (last-whole c.args.gathering.now c.finish.new.self (sym c.finish.ensures.last ∙ c.if-finish.true) c.finish.ensures.finished) c.answer_document.ensures.told

pub returns-then-finish-clause-begun : goal.returns-then-finish-clause-begun
returns-then-finish-clause-begun g c =
    begins-told-of c.args.teller.now.form (following c.args.follower) (document (all_read c.finish.new.self) ∷ []) (last_of c.args.gathering.now)
    (outs (g.W.Sink.taken c.args.writer.now) (g.J.Journal.documents c.args.journal.now)) (outs (g.W.Sink.taken c.answer_document.new.writer) (g.J.Journal.documents c.answer_document.new.journal)) c.answer_document.result
    (last-whole c.args.gathering.now c.finish.new.self (sym c.finish.ensures.last ∙ c.if-finish.true) c.finish.ensures.finished) c.answer_document.ensures.begun

-- nothing is left
pub returns-then-is_empty-clause-told : goal.returns-then-is_empty-clause-told
returns-then-is_empty-clause-told g c =
    let none = last-none c.args.gathering.now c.finish.new.self (sym c.finish.ensures.last ∙ c.if-finish.false) c.finish.ensures.finished
    (ap length (sym c.document.ensures) ∙ eqb-true _ 0 (sym c.is_empty.ensures ∙ c.if-is_empty.true)) in
    subst (λ (ds : List Document). Told c.args.teller.now.form (following c.args.follower) ds (outs (g.W.Sink.taken c.args.writer.now) (g.J.Journal.documents c.args.journal.now)) (outs (g.W.Sink.taken c.args.writer.now) (g.J.Journal.documents c.args.journal.now)) (following c.args.follower)) (sym none)
    (told-none c.args.teller.now.form (following c.args.follower) (outs (g.W.Sink.taken c.args.writer.now) (g.J.Journal.documents c.args.journal.now)))

-- the beginning of a document is left, and refused
pub returns-in-Fault-clause-told : goal.returns-in-Fault-clause-told
returns-in-Fault-clause-told g c =
    let one = last-cut c.args.gathering.now c.finish.new.self (sym c.finish.ensures.last ∙ c.if-finish.false) c.finish.ensures.finished
    (subst (λ (xs : List ℕ). 0 < length xs) c.document.ensures (pos_of_ne-zero (eqb-false _ 0 (sym c.is_empty.ensures ∙ c.if-is_empty.false)))) in
    told-of (λ x. following x) c.args.teller.now.form (following c.args.follower) (cut ∷ []) (last_of c.args.gathering.now)
    (outs (g.W.Sink.taken c.args.writer.now) (g.J.Journal.documents c.args.journal.now)) (outs (g.W.Sink.taken c.tell.new.writer) (g.J.Journal.documents c.args.journal.now)) c.tell.result (sym one)
    (told-tell (λ x. following x) c.args.teller.now.form (following c.args.follower) cut (refused (faulty None (fault_view c.in-Fault.fault))) c.args.follower
    (outs (g.W.Sink.taken c.args.writer.now) (g.J.Journal.documents c.args.journal.now)) (outs (g.W.Sink.taken c.tell.new.writer) (g.J.Journal.documents c.args.journal.now)) c.tell.result (ap (faulty None) c.in-Fault.ensures, refl) tt (stores_none (g.J.Journal.documents c.args.journal.now)) c.tell.ensures.same c.tell.ensures.written)

pub returns-in-Fault-clause-begun : goal.returns-in-Fault-clause-begun
returns-in-Fault-clause-begun g c =
    let one = last-cut c.args.gathering.now c.finish.new.self (sym c.finish.ensures.last ∙ c.if-finish.false) c.finish.ensures.finished
    (subst (λ (xs : List ℕ). 0 < length xs) c.document.ensures (pos_of_ne-zero (eqb-false _ 0 (sym c.is_empty.ensures ∙ c.if-is_empty.false)))) in
    begins-told-of c.args.teller.now.form (following c.args.follower) (cut ∷ []) (last_of c.args.gathering.now)
    (outs (g.W.Sink.taken c.args.writer.now) (g.J.Journal.documents c.args.journal.now)) (outs (g.W.Sink.taken c.tell.new.writer) (g.J.Journal.documents c.args.journal.now)) c.tell.result (sym one)
    (begins-tell c.args.teller.now.form (following c.args.follower) cut (refused (faulty None (fault_view c.in-Fault.fault))) (following c.args.follower)
    (outs (g.W.Sink.taken c.args.writer.now) (g.J.Journal.documents c.args.journal.now)) (outs (g.W.Sink.taken c.tell.new.writer) (g.J.Journal.documents c.args.journal.now)) c.tell.result (ap (faulty None) c.in-Fault.ensures, refl) tt (stores_none (g.J.Journal.documents c.args.journal.now)) c.tell.ensures.begun)

-- memory doesn't suffice for the fault
pub returns-in_default-clause-begun : goal.returns-in_default-clause-begun
returns-in_default-clause-begun g c =
    begins-nothing c.args.teller.now.form (following c.args.follower) (last_of c.args.gathering.now) (outs (g.W.Sink.taken c.args.writer.now) (g.J.Journal.documents c.args.journal.now))
