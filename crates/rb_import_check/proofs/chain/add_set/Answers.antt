use Rattle.std.proofs.Common.{◌<◌, ◌≤◌, length, map, rules, arith, ap, ◌∙◌}
use Rattle.rb_valset.specs.ValidatorSet.{in_set_order}
use Rattle.rb_import_check.specs.Chains.{AreAllPages, filed, without_files}
use Rattle.rb_import_check.specs.Errors.{IsToldBy}
use Rattle.rb_import_check.specs.Named.{NamesOfPages, filed_page}
use Rattle.rb_import_check.proofs.Naming.{names_bad, names_members, names_other}
use Rattle.rb_import_check.specs.Refusals.{RefusesPages}
use Rattle.rb_import_check.proofs.Pages.{are_all, not_all, stays_seen, takes_all, takes_few, takes_set}
use Rattle.rb_import_check.proofs.SetReasons.{header_of, refuses_other, refuses_set, refuses_total}
use Rattle.rb_import_check.proofs.chain.add_set.Goals as goal

pub returns-then-len-first-clause-seen : goal.returns-then-len-first-clause-seen
returns-then-len-first-clause-seen c all =
    let less : length c.in_ok-members.members.items < c.in-Some.first.now.page.now.total = omega (arith, c.len.ensures, c.in_ok-members.members.ok.0) in
    absurd (not_all c.args.pages.now c.in-Some.first.now c.in_ok-members.members.items c.in-Some.ensures.value c.in_ok-members.ensures.members less all)

pub returns-clause-kept : goal.returns-clause-kept
returns-clause-kept c hash was = stays_seen _ _ _ hash c.in_ok-add.ensures.kept was

pub returns-clause-sets : goal.returns-clause-sets
returns-clause-sets c =
    let enough : c.in-Some.first.now.page.now.total ≤ length c.in_ok-members.members.items = omega (arith, c.len.ensures, c.in_ok-members.members.ok.0) in
    let all : AreAllPages (without_files c.args.pages.now) =
    are_all c.args.pages.now c.in-Some.first.now c.in_ok-members.members.items c.in-Some.ensures.value c.in_ok-members.ensures.members c.in_ok-members.ensures.total c.in_ok-members.ensures.few enough in
    takes_set (without_files c.args.pages.now) _ _ _ c.in_ok-add.ensures.kept
    (all, c.in_ok-set.ensures.set ∙ ap in_set_order c.in_ok-members.ensures.members)

pub returns-then-len-first-clause-validators : goal.returns-then-len-first-clause-validators
returns-then-len-first-clause-validators c some =
    let less : length c.in_ok-members.members.items < c.in-Some.first.now.page.now.total = omega (arith, c.len.ensures, c.in_ok-members.members.ok.0) in
    takes_few c.args.commits.now c.args.height (without_files c.args.pages.now)
    (not_all c.args.pages.now c.in-Some.first.now c.in_ok-members.members.items c.in-Some.ensures.value c.in_ok-members.ensures.members less)

pub returns-clause-validators : goal.returns-clause-validators
returns-clause-validators c some =
    takes_all c.args.commits.now c.args.height _ (without_files c.args.pages.now) c.in_ok-set.set c.commit_of.ensures.only c.in_ok-judge_set.ensures.set
    (c.in_ok-set.ensures.set ∙ ap in_set_order c.in_ok-members.ensures.members)

pub returns-in_err-members-clause-reason : goal.returns-in_err-members-clause-reason
returns-in_err-members-clause-reason c =
    let reason : IsToldBy (λ name. RefusesPages name (map header_of c.args.commits.now) c.args.height (without_files c.args.pages.now)) c.in_err-members.field-0.0 =
    refuses_total (map header_of c.args.commits.now) c.args.height (without_files c.args.pages.now) _ c.in_err-members.ensures.reason in
    search rules

pub returns-in_err-set-clause-reason : goal.returns-in_err-set-clause-reason
returns-in_err-set-clause-reason c =
    let enough : c.in-Some.first.now.page.now.total ≤ length c.in_ok-members.members.items = omega (arith, c.len.ensures, c.in_ok-members.members.ok.0) in
    let all : AreAllPages (without_files c.args.pages.now) =
    are_all c.args.pages.now c.in-Some.first.now c.in_ok-members.members.items c.in-Some.ensures.value c.in_ok-members.ensures.members c.in_ok-members.ensures.total c.in_ok-members.ensures.few enough in
    let reason : IsToldBy (λ name. RefusesPages name (map header_of c.args.commits.now) c.args.height (without_files c.args.pages.now)) c.in_err-set.field-0.0 =
    refuses_set (map header_of c.args.commits.now) c.args.height (without_files c.args.pages.now) c.in_ok-members.members.items _ all c.in_ok-members.ensures.members c.in_err-set.ensures.refused in
    search rules

pub returns-in_err-judge_set-clause-reason : goal.returns-in_err-judge_set-clause-reason
returns-in_err-judge_set-clause-reason c =
    let enough : c.in-Some.first.now.page.now.total ≤ length c.in_ok-members.members.items = omega (arith, c.len.ensures, c.in_ok-members.members.ok.0) in
    let all : AreAllPages (without_files c.args.pages.now) =
    are_all c.args.pages.now c.in-Some.first.now c.in_ok-members.members.items c.in-Some.ensures.value c.in_ok-members.ensures.members c.in_ok-members.ensures.total c.in_ok-members.ensures.few enough in
    let reason : IsToldBy (λ name. RefusesPages name (map header_of c.args.commits.now) c.args.height (without_files c.args.pages.now)) c.in_err-judge_set.field-0.0 =
    refuses_other c.args.commits.now c.commit_of.result c.args.height (without_files c.args.pages.now) c.in_ok-set.set _ c.commit_of.ensures.found all
    (c.in_ok-set.ensures.set ∙ ap in_set_order c.in_ok-members.ensures.members) c.in_err-judge_set.ensures.other in
    search rules

pub returns-in_err-members-clause-named : goal.returns-in_err-members-clause-named
returns-in_err-members-clause-named c =
    let named : NamesOfPages c.args.height (map filed c.args.commits.now) (map filed_page c.args.pages.now) c.in_err-members.field-0.0 =
    names_members c.args.height (map filed c.args.commits.now) (map filed_page c.args.pages.now) _ _ _ c.in_err-members.ensures.reason c.in_err-members.ensures.named in
    search rules

pub returns-in_err-set-clause-named : goal.returns-in_err-set-clause-named
returns-in_err-set-clause-named c =
    let named : NamesOfPages c.args.height (map filed c.args.commits.now) (map filed_page c.args.pages.now) c.in_err-set.field-0.0 =
    names_bad (map filed c.args.commits.now) c.args.height c.args.pages.now c.in-Some.first.now _ _ c.in-Some.ensures.value c.in_err-set.ensures.refused c.in_err-set.ensures.file in
    search rules

pub returns-in_err-judge_set-clause-named : goal.returns-in_err-judge_set-clause-named
returns-in_err-judge_set-clause-named c =
    let named : NamesOfPages c.args.height (map filed c.args.commits.now) (map filed_page c.args.pages.now) c.in_err-judge_set.field-0.0 =
    names_other c.args.commits.now c.commit_of.result c.args.height c.args.pages.now c.in-Some.first.now _ _ c.commit_of.ensures.found c.in-Some.ensures.value
    c.in_err-judge_set.ensures.other c.in_err-judge_set.ensures.files in
    search rules
