use Rattle.rb_script_types.specs.Script.{script_view}
use Rattle.rb_text.specs.Verdicts.{case_view}
use Rattle.rb_text.proofs.Cases.{certified}
use Rattle.rb_text.proofs.certifying.certify_script.Goals as goal

pub returns-clause-right : goal.returns-clause-right
returns-clause-right g c =
    certified (script_view c.args.script) c.args.certificate.now (case_view c.in_ok-case.case) c.is_yes.result c.in_ok-verdict.verdict c.in_ok-case.ensures.read
    c.is_yes.ensures c.in_ok-verdict.ensures.right
