use Rattle.std.proofs.Common.{◌≡◌, List, sym, ap, ◌∙◌}
use Rattle.std.specs.Prelude.{option_map, option_to_list, slice_get}
use Rattle.rb_import_answers.specs.declared.verdicts.CommitVerdict.{CommitVerdict}
use Rattle.rb_import_check.specs.Verdicts.{verdict_list}
use Rattle.rb_import_check.proofs.Indexing.{found_on, lent, none_on}
use Rattle.rb_import_check.proofs.verdicts.VerdictIndex.verdict_of.Goals as goal

pub returns-in_default : goal.returns-in_default
returns-in_default c = none_on _ c.args.self.now.places _ c.args.self.now.indexed (sym c.get.ensures.value ∙ sym c.copied.ensures ∙ c.in_default.is)

pub returns : goal.returns
returns c =
    let those : List CommitVerdict = verdict_list (option_to_list (option_map (λ v. v.now) c.args.self.now.verdicts)) in
    let at : slice_get those c.in-Some.place ≡ option_map (λ v. v.now) c.get-2.result =
    ap (λ l. slice_get l c.in-Some.place) (sym c.commits_of.ensures) ∙ lent c.commits_of.result.now c.in-Some.place c.get-2.result c.get-2.ensures.lookup in
    found_on those c.args.self.now.places c.args.digest.now c.in-Some.place _ c.args.self.now.indexed (sym c.get.ensures.value ∙ sym c.copied.ensures ∙ c.in-Some.is) at
