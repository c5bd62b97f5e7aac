use Rattle.std.proofs.Common.{rules}
use Rattle.rb_import_check.specs.Errors.{IsTooBig}
use Rattle.rb_import_check.specs.declared.error.ImportError.{ImportError}
use Rattle.rb_import_merge.specs.Errors.{OfEach}
use Rattle.rb_import_merge.specs.Seen.{HoldsOfSeen}
use Rattle.rb_import_merge.proofs.Judging.{refused_so}
use Rattle.rb_import.specs.Reading.{IsTooMuch}
use Rattle.rb_import.specs.Reasons.{HasReasonOfScript, NamesLargest}
use Rattle.rb_import.specs.Scripts.{script_in}
use Rattle.rb_import.proofs.Fitting.{all_of_size, all_too_much, made_in, none_too_big, of_answers}
use Rattle.rb_import.proofs.composing.make.Goals as goal

pub returns-clause-script : goal.returns-clause-script
returns-clause-script c = made_in _ _ _ c.in_ok-seen.seen c.made_of.result c.in_ok-seen.ensures.seen c.made_of.ensures.notices c.made_of.ensures.script

pub returns-clause-reason : goal.returns-clause-reason
returns-clause-reason c = all_of_size _ _ _ c.in_ok-seen.seen c.made_of.result c.in_ok-seen.ensures.seen c.made_of.ensures.size

pub returns-clause-big : goal.returns-clause-big
returns-clause-big c = all_too_much _ _ _ c.in_ok-seen.seen c.made_of.result c.in_ok-seen.ensures.seen c.made_of.ensures.size c.made_of.ensures.too_much

pub returns-in_err-seen-clause-reason : goal.returns-in_err-seen-clause-reason
returns-in_err-seen-clause-reason c =
    let Holds : ImportError → Type 0 = HasReasonOfScript c.args.setup.now c.args.signatures c.args.answers.now in
    refused_so (OfEach Holds) c.from_residual.result c.in_err-seen.field-0.0 (search rules)
    (of_answers c.args.setup.now c.args.signatures c.args.answers.now c.in_err-seen.field-0.0 c.in_err-seen.ensures.reason)

pub returns-in_err-seen-clause-big : goal.returns-in_err-seen-clause-big
returns-in_err-seen-clause-big c =
    let Tells : ImportError → Type 0 = λ p. HoldsOfSeen c.args.setup.now c.args.signatures c.args.answers.now (λ seen. NamesLargest c.args.setup.now seen p × IsTooMuch (script_in c.args.setup.now c.args.answers.now seen)) in
    refused_so (OfEach (λ p. IsTooBig p → Tells p)) c.from_residual.result c.in_err-seen.field-0.0 (search rules) (none_too_big Tells c.in_err-seen.field-0.0 c.in_err-seen.ensures.names)
