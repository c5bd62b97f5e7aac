use Rattle.std.proofs.Common.{◌∙◌, rules, subst, sym}
use Rattle.std.specs.Prelude.{IsSome}
use Rattle.std.proofs.lemmas.Bool.{true≢false}
use Rattle.rb_want.proofs.Judging.{no_next, no_votes, verdict}
use Rattle.rb_want.proofs.Waiting.{unseen}
use Rattle.rb_want.proofs.judged.Steps.verdict_on.Goals as goal
use Rattle.rb_want.proofs.judged.Steps.verdict_on.Goals.{then-not-names-via-then-not-names, then-not-names-via-else-not-names+then-not-is_of}

-- the set that the record names isn't there
pub returns-in_default-set_with : goal.returns-in_default-set_with
returns-in_default-set_with c =
    no_next c.args.self.now c.args.trusted c.args.height c.in-Some.record c.next.result.now c.in-Some.ensures.found c.next.ensures
    (λ there. true≢false (sym (subst IsSome c.in_default-set_with.is (c.set_with.ensures.found.1 there))))

-- the set that the record names is there, and so the header's set has another number of members
pub returns-then-not-names : goal.returns-then-not-names
returns-then-not-names c =
    elim c.then-not-names.branch [
      | then-not-names-via-then-not-names w ↦ absurd (unseen _ _ c.names.ensures w.if-not-names.true (c.in-Some-set_with.ensures.hash ∙ c.next.ensures))
      | then-not-names-via-else-not-names+then-not-is_of w ↦
          no_votes c.args.self.now c.args.trusted c.args.height c.in-Some-header_at.signed.now c.in_ok-header.header c.in-Some-set_with-2.own.now
          c.in-Some-header_at.ensures.found c.in_ok-header.ensures c.in-Some-set_with-2.ensures.hash (unseen _ _ w.is_of.ensures w.if-not-is_of.true)
    ]

-- the step goes from the record to the header, over the sets that these name
pub returns : goal.returns
returns c =
    verdict c.args.self.now c.args.trusted c.args.height c.in-Some.record c.in-Some-header_at.signed.now c.in_ok-header.header
    c.in-Some-set_with.next.now c.in-Some-set_with-2.own.now c.verdict_in.result c.in-Some.ensures.found (search rules) c.in-Some-header_at.ensures.found
    c.in_ok-header.ensures (search rules) c.verdict_in.ensures.success c.verdict_in.ensures.holds
