use Rattle.std.proofs.Common.{sym, ◌∙◌, ap}
use Rattle.rb_step.specs.View.{View}
use Rattle.rb_step.proofs.RecordAt.{accepts_known}
use Rattle.rb_step.proofs.view.ClientView.accepts.Goals as goal

pub returns-in-Some : goal.returns-in-Some
returns-in-Some g c =
    accepts_known c.args.self.now c.args.trusted c.args.height c.in-Some.step c.self.inside.options c.self.inside.window c.is_accepted_within.result (sym c.step.ensures ∙ c.in-Some.is) (ap (λ (v : View). v.options) c.self.view_is) (ap (λ (v : View). v.window) c.self.view_is) c.is_accepted_within.ensures
