use Rattle.std.proofs.Common.{◌≡◌, ◌++◌, rules}
use Rattle.rb_import.specs.Openings.{opening_of}
use Rattle.rb_import.specs.Texts.{heading}
use Rattle.rb_import.proofs.Fitting.{begins_as, fits}
use Rattle.rb_import.proofs.composing.text_of.Goals as goal

pub returns-in-Ok-clause-text : goal.returns-in-Ok-clause-text
returns-in-Ok-clause-text c =
    let head : c.as_str.result.now ≡ opening_of c.args.answers.now c.args.seen.now ++ heading = search rules in
    fits _ _ _ _ c.args.script.now c.requires c.in-Ok.ensures.read (begins_as c.args.answers.now c.args.seen.now _ c.as_str.result.now head c.in-Ok.ensures.opening)
    c.in-Ok.ensures.size
