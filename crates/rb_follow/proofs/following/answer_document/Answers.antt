use Rattle.std.proofs.Common.{ℕ, List, [], ◌∷◌, Option, IfOk, OnErr, sym, subst, ◌∙◌}
use Rattle.rb_follow.specs.Documents.{all_read, document}
use Rattle.rb_follow.specs.Followers.{next_turn, IsAnswerFor, IsRight}
use Rattle.rb_follow.specs.Answers.{answer_view}
use Rattle.rb_follow.specs.Headline.{BeginsTelling, Told}
use Rattle.rb_follow.specs.Journals.{StoresAll, accepted, outs}
use Rattle.rb_follow.specs.Views.{following}
use Rattle.rb_follow.proofs.Telling.{begins-nothing, told-tell, begins-tell, on_err}
use Rattle.rb_follow.proofs.following.answer_document.Goals as goal

-- the journal can't be begun anew
pub returns-in_err-follower-clause-begun : goal.returns-in_err-follower-clause-begun
returns-in_err-follower-clause-begun g c =
    let f = following c.args.follower in
    let ds = document (all_read c.args.gathering.now) ∷ [] in
    let w = g.W.Sink.taken c.args.writer.now in
    let j = g.J.Journal.documents c.args.journal.now in
    on_err c.from_residual.result
    (subst (λ (s : Option (List (List ℕ))). BeginsTelling c.args.teller.now.form f ds (outs w j) (outs w s)) (sym c.renew.ensures.kept)
    (begins-nothing c.args.teller.now.form f ds (outs w j)))

-- memory doesn't suffice for the answer
pub returns-in_err-follower-2-clause-begun : goal.returns-in_err-follower-2-clause-begun
returns-in_err-follower-2-clause-begun g c =
    let f = following c.args.follower in
    let ds = document (all_read c.args.gathering.now) ∷ [] in
    let w = g.W.Sink.taken c.args.writer.now in
    let j = g.J.Journal.documents c.args.journal.now in
    on_err c.from_residual-in_err-follower-2.result
    (subst (λ (s : Option (List (List ℕ))). BeginsTelling c.args.teller.now.form f ds (outs w j) (outs w s)) (sym c.renew.ensures.kept)
    (begins-nothing c.args.teller.now.form f ds (outs w j)))

-- the journal failed
pub returns-in_err-stored-clause-begun : goal.returns-in_err-stored-clause-begun
returns-in_err-stored-clause-begun g c =
    let f = following c.args.follower in
    let ds = document (all_read c.args.gathering.now) ∷ [] in
    let w = g.W.Sink.taken c.args.writer.now in
    let j = g.J.Journal.documents c.args.journal.now in
    on_err c.from_residual-in_err-stored.result
    (subst (λ (s : Option (List (List ℕ))). BeginsTelling c.args.teller.now.form f ds (outs w j) (outs w s)) (sym (c.in_err-stored.ensures.unstored ∙ c.renew.ensures.kept))
    (begins-nothing c.args.teller.now.form f ds (outs w j)))

pub returns-clause-told : goal.returns-clause-told
returns-clause-told g c =
    let form = c.args.teller.now.form in
    let f = following c.in_ok-follower.follower in
    let ds = document (all_read c.args.gathering.now) ∷ [] in
    let a = answer_view c.in_ok-follower-2.answer in
    let k = c.in_ok-stored.stored in
    let w = g.W.Sink.taken c.args.writer.now in
    let old = outs w (g.J.Journal.documents c.renew.new.journal) in
    let new = outs (g.W.Sink.taken c.tell.new.writer) (g.J.Journal.documents c.store.new.journal) in
    let answered = subst (λ x. IsAnswerFor f (next_turn f c.document-document.result.now) a (following x)) (sym c.in_ok-stored.ensures.same) c.in_ok-follower-2.ensures.answer in
    let answer = subst (λ (d : List ℕ). IsAnswerFor f (next_turn f d) a (following k)) c.document-document.ensures answered in
    let right = subst (λ (d : List ℕ). IsRight f (next_turn f d)) c.document-document.ensures c.in_ok-follower-2.ensures.right in
    let stored = subst (λ (d : List ℕ). StoresAll old.stored new.stored (accepted (document d ∷ []) (a ∷ []))) c.document-document.ensures c.in_ok-stored.ensures.stored in
    let told = told-tell (λ x. following x) form f (document (all_read c.args.gathering.now)) a k old new c.tell.result
    answer right stored c.tell.ensures.same c.tell.ensures.written in
    subst (λ (s : Option (List (List ℕ))). IfOk c.tell.result (λ r. Told form (following c.args.follower) ds (outs w s) new (following r))) c.renew.ensures.kept
    (subst (λ x. IfOk c.tell.result (λ r. Told form (following x) ds old new (following r))) c.in_ok-follower.ensures.same told)

pub returns-clause-begun : goal.returns-clause-begun
returns-clause-begun g c =
    let form = c.args.teller.now.form in
    let f = following c.in_ok-follower.follower in
    let ds = document (all_read c.args.gathering.now) ∷ [] in
    let a = answer_view c.in_ok-follower-2.answer in
    let k = c.in_ok-stored.stored in
    let w = g.W.Sink.taken c.args.writer.now in
    let old = outs w (g.J.Journal.documents c.renew.new.journal) in
    let new = outs (g.W.Sink.taken c.tell.new.writer) (g.J.Journal.documents c.store.new.journal) in
    let answered = subst (λ x. IsAnswerFor f (next_turn f c.document-document.result.now) a (following x)) (sym c.in_ok-stored.ensures.same) c.in_ok-follower-2.ensures.answer in
    let answer = subst (λ (d : List ℕ). IsAnswerFor f (next_turn f d) a (following k)) c.document-document.ensures answered in
    let right = subst (λ (d : List ℕ). IsRight f (next_turn f d)) c.document-document.ensures c.in_ok-follower-2.ensures.right in
    let stored = subst (λ (d : List ℕ). StoresAll old.stored new.stored (accepted (document d ∷ []) (a ∷ []))) c.document-document.ensures c.in_ok-stored.ensures.stored in
    let begun = begins-tell form f (document (all_read c.args.gathering.now)) a (following k) old new c.tell.result
    answer right stored c.tell.ensures.begun in
    subst (λ (s : Option (List (List ℕ))). OnErr c.tell.result (BeginsTelling form (following c.args.follower) ds (outs w s) new)) c.renew.ensures.kept
    (subst (λ x. OnErr c.tell.result (BeginsTelling form (following x) ds old new)) c.in_ok-follower.ensures.same begun)
