use Rattle.std.proofs.Common.{◌∙◌}
use Rattle.rb_import_merge.specs.Packets.{events_of}
use Rattle.rb_import_notices.proofs.Several.{several-is}
use Rattle.rb_import_notices.proofs.counterparties.has_several.Goals as goal

pub returns : goal.returns
returns c = c.is_some.ensures ∙ several-is c.args.path.now (events_of c.args.saved.now) c.several_counterparties.result c.several_counterparties.ensures
