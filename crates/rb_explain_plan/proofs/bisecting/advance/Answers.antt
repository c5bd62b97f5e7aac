use Rattle.std.proofs.Common.{◌≡◌, List, [], ◌∷◌, ◌++◌, Some, None, sym, ap, subst, ◌∙◌}
use Rattle.std.proofs.lemmas.Bool.{iff_false}
use Rattle.rb_book.specs.Book.{Book}
use Rattle.rb_step.specs.LightClient.{Update}
use Rattle.rb_step.specs.View.{client_of}
use Rattle.rb_explain_plan.specs.Bisection.{middle, update_to}
use Rattle.rb_explain_plan.specs.Search.{IsSoFar}
use Rattle.rb_explain_plan.proofs.Bisected.{so_far_accepted, so_far_refused, so_far_stuck, nearer_refused}
use Rattle.rb_explain_plan.proofs.bisecting.advance.Goals as goal

pub returns-then-accepts-clause-so_far : goal.returns-then-accepts-clause-so_far
returns-then-accepts-clause-so_far g c =
    let v = c.args.view.now in
    let s = c.args.search in
    let items : c.push.new.self.items ≡ s.updates.items ++ update_to s.tried s.trusted ∷ [] = c.in_ok-push.ensures.items ∙ ap (λ u. s.updates.items ++ u ∷ []) c.new.ensures in
    subst (λ (us : List Update). IsSoFar (client_of v) v.book s.wanted s.first us s.tried s.wanted) (sym items)
    (so_far_accepted (client_of v) v.book s.wanted s.first s.updates.items s.trusted s.tried c.requires.below (c.accepts.ensures.0 c.if-accepts.true) c.requires.so_far)

pub returns-in-Some-clause-so_far : goal.returns-in-Some-clause-so_far
returns-in-Some-clause-so_far g c =
    let v = c.args.view.now in
    let s = c.args.search in
    so_far_refused (client_of v) v.book s.wanted s.first s.updates.items s.trusted s.tried c.in-Some.lower c.requires.below (iff_false c.accepts.ensures c.if-accepts.false)
    (subst (λ (b : Book). middle b s.trusted s.tried ≡ Some c.in-Some.lower) c.book.ensures.value (sym c.middle.ensures ∙ c.in-Some.is)) c.requires.so_far

pub returns-in-Some-clause-nearer : goal.returns-in-Some-clause-nearer
returns-in-Some-clause-nearer g c =
    let v = c.args.view.now in
    let s = c.args.search in
    nearer_refused (client_of v) v.book s.wanted s.first s.updates.items s.trusted s.tried c.in-Some.lower c.requires.below
    (subst (λ (b : Book). middle b s.trusted s.tried ≡ Some c.in-Some.lower) c.book.ensures.value (sym c.middle.ensures ∙ c.in-Some.is)) c.requires.so_far

pub returns-in-None-clause-stuck : goal.returns-in-None-clause-stuck
returns-in-None-clause-stuck g c =
    let v = c.args.view.now in
    let s = c.args.search in
    so_far_stuck (client_of v) v.book s.wanted s.first s.updates.items s.trusted s.tried c.requires.below (iff_false c.accepts.ensures c.if-accepts.false)
    (subst (λ (b : Book). middle b s.trusted s.tried ≡ None) c.book.ensures.value (sym c.middle.ensures ∙ c.in-None.is)) c.requires.so_far
