use Rattle.rb_super.proofs.Schedules.{own_drafts_serve}
use Rattle.rb_super.proofs.laws.own_drafts_serve.Goals as goal

pub returns : goal.returns
returns c = own_drafts_serve c.order_gives_report.ensures
