use Rattle.std.proofs.Common.{◌≡◌, ◌∙◌, [], ◌∷◌, ◌++◌, ap, arith, length, map, refl}
use Rattle.rb_want_requests.specs.declared.reason.SearchReason.{SearchReason}
use Rattle.rb_want.specs.Adding.{Outcome, told_of, with_needed}
use Rattle.rb_want.specs.Needs.{node_request, tracking_of, why_of}
use Rattle.rb_want.proofs.Seeking.{outcome_asked, outcome_idle, told_why}
use Rattle.rb_want.proofs.client.ClientCase.add_question.Goals as goal

-- each request was asked for already
pub returns-then-len-before-clause-outcome : goal.returns-then-len-before-clause-outcome
returns-then-len-before-clause-outcome c =
    let t = tracking_of c.args.self.now in
    let old = c.args.wanted.now in
    let new = c.add_queries.new.wanted in
    let asked = c.in_ok-lacks.lacks.items in
    let said = c.in_ok-verdict.verdict in
    let same : length new.requests.items ≡ length old.requests.items =
    omega (arith, c.len.ensures, c.len-before.ensures, c.if-len-before.true, new.requests.ok.0, old.requests.ok.0) in
    let o : Outcome =
    record { needed = map (node_request t) asked; reasons = why_of t c.args.judging.now.options c.args.question.now said ∷ []; ends = [] } in (
      o,
      (asked, said, c.in_ok-lacks.ensures, c.in_ok-verdict.ensures, refl),
      outcome_idle old.folders.now (told_of old) (told_of new) o refl same
          (c.in_ok-add_queries.ensures.requests ∙ ap (λ l. with_needed old.folders.now old.requests.items (map (node_request t) l)) c.as_slice.ensures.value)
          (ap (λ v. v.items) c.in_ok-add_queries.ensures.reasons) (ap (λ v. v.items) c.in_ok-add_queries.ensures.ends),
    )

-- a request came
pub returns-clause-outcome : goal.returns-clause-outcome
returns-clause-outcome c =
    let t = tracking_of c.args.self.now in
    let old = c.args.wanted.now in
    let mid = c.add_queries.new.wanted in
    let asked = c.in_ok-lacks.lacks.items in
    let said = c.in_ok-verdict.verdict in
    let q = c.args.question.now in
    let why : SearchReason =
    record { client = c.id.result; trusted = q.trusted; accepted = q.accepted; refused = q.refused; verdict = said; trust = c.args.judging.now.trust } in
    let other : length mid.requests.items ≡ length old.requests.items → ⊥ =
    λ same. c.if-len-before.false (omega (arith, c.len.ensures, c.len-before.ensures, same, mid.requests.ok.0, old.requests.ok.0)) in
    let o : Outcome =
    record { needed = map (node_request t) asked; reasons = why_of t c.args.judging.now.options c.args.question.now said ∷ []; ends = [] } in (
      o,
      (asked, said, c.in_ok-lacks.ensures, c.in_ok-verdict.ensures, refl),
      outcome_asked old.folders.now (told_of old) (record { requests = mid.requests.items; reasons = c.push.new.self.items; ends = mid.ends.items }) o refl
          other
          (c.in_ok-add_queries.ensures.requests ∙ ap (λ l. with_needed old.folders.now old.requests.items (map (node_request t) l)) c.as_slice.ensures.value)
          (c.in_ok-push.ensures.items ∙ ap (λ l. l ++ why ∷ []) (ap (λ v. v.items) c.in_ok-add_queries.ensures.reasons)
          ∙ ap (λ w. old.reasons.items ++ w ∷ []) (told_why t c.args.judging.now.options c.args.question.now said c.id.result _ c.id.ensures c.args.judging.now.same))
          (ap (λ v. v.items) c.in_ok-add_queries.ensures.ends),
    )
