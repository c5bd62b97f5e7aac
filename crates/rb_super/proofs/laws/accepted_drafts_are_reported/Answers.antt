use Rattle.rb_super_turn.proofs.Reported.{accepted_reported}
use Rattle.rb_super.proofs.laws.accepted_drafts_are_reported.Goals as goal

pub returns : goal.returns
returns c = accepted_reported
