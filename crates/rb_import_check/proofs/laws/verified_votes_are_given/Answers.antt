use Rattle.rb_import_check.proofs.Verifying.{verified_votes_are_given}
use Rattle.rb_import_check.proofs.laws.verified_votes_are_given.Goals as goal

pub returns : goal.returns
returns c = verified_votes_are_given
