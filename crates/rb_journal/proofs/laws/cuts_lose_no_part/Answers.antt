use Rattle.rb_journal.proofs.Cuts.{cuts}
use Rattle.rb_journal.proofs.laws.cuts_lose_no_part.Goals as goal

pub returns : goal.returns
returns c = cuts
