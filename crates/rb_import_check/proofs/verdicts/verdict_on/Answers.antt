use Rattle.std.proofs.Common.{◌≡◌, List, Option, length, arith, refl, sym, subst, ◌∙◌}
use Rattle.std.specs.Prelude.{option_map, option_to_list}
use Rattle.std.proofs.lemmas.Bool.{true≢false}
use Rattle.rb_import_answers.specs.declared.verdicts.CommitVerdict.{CommitVerdict}
use Rattle.rb_import_check.specs.declared.error.CheckErrorName.{CheckErrorName}
use Rattle.rb_import_check.specs.Errors.{IsTold}
use Rattle.rb_import_check.specs.Verdicts.{HasVotes, IsVerdictOn, TellsOtherVotes, verdict_list}
use Rattle.rb_import_check.proofs.OtherVotes.{tells_other}
use Rattle.rb_import_check.proofs.verdicts.verdict_on.Goals as goal

pub returns-else-has_votes-clause-other : goal.returns-else-has_votes-clause-other
returns-else-has_votes-clause-other c =
    let those : List CommitVerdict = verdict_list (option_to_list (option_map (λ v. v.now) c.args.index.now.verdicts)) in
    let verdict : Option CommitVerdict = option_map (λ v. v.now) c.verdict_of-verdict.result in
    let on : IsVerdictOn those c.args.saved.now.digest verdict = c.verdict_of-verdict.ensures in
    let unlike : HasVotes c.len.result verdict → ⊥ = λ holds. true≢false (sym (c.has_votes.ensures.1 holds) ∙ c.if-has_votes.false) in
    let long : c.len.result ≡ length c.args.header.now.signatures.items = omega (arith, c.len.ensures, c.args.header.now.signatures.ok.0) in
    let other : HasVotes (length c.args.header.now.signatures.items) verdict → ⊥ = subst (λ n. HasVotes n verdict → ⊥) long unlike in
    subst (IsTold CheckErrorName.OtherVerdict (TellsOtherVotes those c.args.saved.now.digest (length c.args.header.now.signatures.items))) (sym c.at.ensures)
    (refl, tells_other those c.args.saved.now.digest (length c.args.header.now.signatures.items) verdict on other)
