use Rattle.std.proofs.Common.{◌∙◌, [], ◌∷◌, ap, map, sym}
use Rattle.std.specs.Borrow.{Bor}
use Rattle.rb_want_requests.specs.declared.content.Folders.{Folders}
use Rattle.rb_want_requests.specs.declared.reason.End.TheVariants as endings
use Rattle.rb_want.specs.Adding.{told_of, with_ends}
use Rattle.rb_want.specs.Needs.{tracking_of}
use Rattle.rb_want.proofs.Seeking.{first_outcome, other_outcome, sought_outcome}
use Rattle.rb_want.proofs.Waiting.{on_ok}
use Rattle.rb_want.proofs.client.ClientCase.add_wanted.Goals as goal

-- it is frozen, or isn't Tendermint's
pub returns-then-self-clause-outcome : goal.returns-then-self-clause-outcome
returns-then-self-clause-outcome c =
    let old = c.args.wanted.now in
    other_outcome (tracking_of c.args.self.now) (map (λ r. r.now) c.args.self.now.answers.records.items) old.folders.now
    (told_of old) (told_of c.add_end.new.wanted) (sym c.args.self.now.answers.other ∙ c.if-self.true)
    (ap (λ v. v.items) c.in_ok-add_end.ensures.requests) (ap (λ v. v.items) c.in_ok-add_end.ensures.reasons)
    (c.in_ok-add_end.ensures.ends ∙ ap (λ id. with_ends old.ends.items (endings.OtherClient id ∷ [])) c.id-client.ensures)

-- something is lacking first
pub returns-then-branch-clause-outcome : goal.returns-then-branch-clause-outcome
returns-then-branch-clause-outcome c =
    let old = c.args.wanted.now in
    first_outcome (tracking_of c.args.self.now) (map (λ r. r.now) c.args.self.now.answers.records.items) old.folders.now
    (told_of old) (told_of c.add_missing.new.wanted) (sym c.args.self.now.answers.other ∙ c.if-self.false)
    (sym c.in_ok-add_missing.ensures.lacks ∙ c.if-branch.true) c.in_ok-add_missing.ensures.requests
    (ap (λ v. v.items) c.in_ok-add_missing.ensures.reasons) c.in_ok-add_missing.ensures.ends

-- what is sought, where nothing is lacking first
pub returns-clause-outcome : goal.returns-clause-outcome
returns-clause-outcome c =
    let mid = c.add_missing.new.wanted in
    on_ok c.add_sought.result _ _
    (sought_outcome (tracking_of c.args.self.now) (map (λ r. r.now) c.args.self.now.answers.records.items) c.args.wanted.now.folders.now mid.folders.now
    (told_of c.args.wanted.now) (told_of mid) (told_of c.add_sought.new.wanted) (sym c.args.self.now.answers.other ∙ c.if-self.false)
    (sym c.in_ok-add_missing.ensures.lacks ∙ c.if-branch.false) (ap (λ (b : Bor Folders). b.now) c.in_ok-add_missing.ensures.folders)
    c.in_ok-add_missing.ensures.requests (ap (λ v. v.items) c.in_ok-add_missing.ensures.reasons) c.in_ok-add_missing.ensures.ends)
    c.add_sought.ensures.outcome
