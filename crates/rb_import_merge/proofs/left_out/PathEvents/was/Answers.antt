use Rattle.std.proofs.Common.{◌∙◌}
use Rattle.rb_import_merge.proofs.left_out.PathEvents.was.Goals as goal

pub returns : goal.returns
returns c = c.was.ensures c.args.self.now.order ∙ c.args.self.now.those c.args.kind c.args.sequence
