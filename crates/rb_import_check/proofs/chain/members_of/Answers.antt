use Rattle.std.proofs.Common.{◌≡◌, ◌<◌, ◌⊎◌, ◌++◌, [], length, map, inl, inr, get_or, take, arith, rules, ap, sym, subst, ◌∙◌}
use Rattle.std.specs.Prelude.{⊤, Contains}
use Rattle.std.specs.List.{flat_map}
use Rattle.std.proofs.lemmas.Grind.{common_steps}
use Rattle.std.proofs.lemmas.List.{take_all}
use Rattle.std.proofs.lemmas.List.Folds.{flat_map-map}
use Rattle.rb_import_answers.specs.declared.validators.ValidatorsPage.{ValidatorsPage}
use Rattle.rb_import_check.specs.declared.chain.Page.{Page}
use Rattle.rb_import_check.proofs.Sorting.{added_more}
use Rattle.rb_import_check.proofs.Pages.{TellTotal, one_total, few_each, total_more}
use Rattle.rb_import_check.specs.declared.error.CheckErrorName.{CheckErrorName}
use Rattle.rb_import_check.specs.Chains.{without_files}
use Rattle.rb_import_check.specs.Errors.{IsTold}
use Rattle.rb_import_check.specs.Refusals.{HaveTooMany, HaveTwoTotals}
use Rattle.rb_import_check.specs.Named.{NamesOfPages, filed_page}
use Rattle.rb_import_check.proofs.Naming.{lower_among, names_many, names_totals}
use Rattle.rb_import_check.proofs.SetReasons.{told_so, too_many, two_totals}
use Rattle.rb_import_check.proofs.chain.members_of.Goals as goal

pub loop-page-preserved : goal.loop-page-preserved
loop-page-preserved c =
    let small : c.loop-page.page-index < length c.args.pages.now = search rules in
    let is : c.page-item.result ≡ get_or c.args.pages.now c.loop-page.page-index c.page-item.result = search rules in
    record {
      members = added_more (λ (p : Page). p.page.now.validators.items) _ _ c.args.pages.now c.loop-page.page-index c.page-item.result small is c.loop-page.invariant.members (search rules);
      total = total_more c.loop-page.before c.page-item.result c.args.pages.now c.loop-page.page-index small is c.loop-page.invariant.total c.in_ok-judge_total.ensures.total;
      before = (c.loop-page.page-index, small, sym is);
      few = grind (arith, common_steps);
    }

pub returns-clause-members : goal.returns-clause-members
returns-clause-members c =
    let all : take c.loop-page.page-index c.args.pages.now ≡ c.args.pages.now = take_all _ _ (search rules) in
    c.loop-page.invariant.members ∙ ap (flat_map (λ (p : Page). p.page.now.validators.items)) all
    ∙ sym (flat_map-map (λ (p : ValidatorsPage). p.validators.items) (λ (p : Page). p.page.now) c.args.pages.now)

pub returns-clause-total : goal.returns-clause-total
returns-clause-total c =
    let all : take c.loop-page.page-index c.args.pages.now ≡ c.args.pages.now = take_all _ _ (search rules) in
    one_total c.loop-page.before c.args.pages.now (subst (TellTotal c.loop-page.before) all c.loop-page.invariant.total)

pub returns-clause-few : goal.returns-clause-few
returns-clause-few c =
    let all : take c.loop-page.page-index c.args.pages.now ≡ c.args.pages.now = take_all _ _ (search rules) in
    few_each c.loop-page.before c.args.pages.now (length c.loop-page.members.items) (subst (TellTotal c.loop-page.before) all c.loop-page.invariant.total) c.loop-page.invariant.few

pub returns-in_err-judge_total-clause-reason : goal.returns-in_err-judge_total-clause-reason
returns-in_err-judge_total-clause-reason c =
    let small : c.loop-page.page-index < length c.args.pages.now = search rules in
    let is : c.page-item.result ≡ get_or c.args.pages.now c.loop-page.page-index c.page-item.result = search rules in
    let e = c.in_err-judge_total.field-0.0 in
    let told : IsTold CheckErrorName.OtherTotal (HaveTwoTotals (without_files c.args.pages.now)) e =
    two_totals c.loop-page.before c.args.pages.now c.page-item.result c.loop-page.page-index e small is c.loop-page.invariant.before c.in_err-judge_total.ensures.other in
    let reason : IsTold CheckErrorName.OtherTotal (HaveTwoTotals (without_files c.args.pages.now)) e ⊎ IsTold CheckErrorName.TooManyValidators (HaveTooMany (without_files c.args.pages.now)) e = inl told in
    search rules

pub returns-then-len-page-clause-reason : goal.returns-then-len-page-clause-reason
returns-then-len-page-clause-reason c =
    let small : c.loop-page.page-index < length c.args.pages.now = search rules in
    let is : c.page-item.result ≡ get_or c.args.pages.now c.loop-page.page-index c.page-item.result = search rules in
    let now : c.extend_from_slice.new.self.items ≡ c.loop-page.members.items ++ c.page-item.result.page.now.validators.items = search rules in
    let more : c.page-item.result.page.now.total < length c.extend_from_slice.new.self.items = omega (arith, c.len.ensures, c.extend_from_slice.new.self.ok.0) in
    let many : HaveTooMany (without_files c.args.pages.now) =
    too_many c.args.pages.now c.page-item.result c.loop-page.page-index c.extend_from_slice.new.self.items c.loop-page.members.items small is c.loop-page.invariant.members now more in
    inr (told_so CheckErrorName.TooManyValidators ⊤ (HaveTooMany (without_files c.args.pages.now)) c.two_pages.result (λ t. many) c.two_pages.ensures.name)

pub returns-in_err-judge_total-clause-named : goal.returns-in_err-judge_total-clause-named
returns-in_err-judge_total-clause-named c =
    let small : c.loop-page.page-index < length c.args.pages.now = search rules in
    let is : c.page-item.result ≡ get_or c.args.pages.now c.loop-page.page-index c.page-item.result = search rules in
    let e = c.in_err-judge_total.field-0.0 in
    let named : NamesOfPages 0 [] (map filed_page c.args.pages.now) e =
    names_totals c.loop-page.before c.args.pages.now c.page-item.result c.loop-page.page-index e small is c.loop-page.invariant.before c.in_err-judge_total.ensures.other c.in_err-judge_total.ensures.files in
    search rules

pub returns-then-len-page-clause-named : goal.returns-then-len-page-clause-named
returns-then-len-page-clause-named c =
    let small : c.loop-page.page-index < length c.args.pages.now = search rules in
    let is : c.page-item.result ≡ get_or c.args.pages.now c.loop-page.page-index c.page-item.result = search rules in
    let second : Contains c.args.pages.now c.page-item.result = (c.loop-page.page-index, small, sym is) in
    let first : Contains c.args.pages.now c.unwrap_or-lower.result = lower_among c.loop-page.before c.args.pages.now c.page-item.result c.unwrap_or-lower.result c.loop-page.invariant.before second c.unwrap_or-lower.ensures in
    names_many c.args.pages.now c.unwrap_or-lower.result c.page-item.result c.two_pages.result first second c.two_pages.ensures.name c.two_pages.ensures.height c.two_pages.ensures.files
