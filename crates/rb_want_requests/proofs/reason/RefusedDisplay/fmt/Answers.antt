use Rattle.rb_want_requests.proofs.reason.RefusedDisplay.fmt.Goals as goal

pub returns-in-None-clause-writes : goal.returns-in-None-clause-writes
returns-in-None-clause-writes g c = λ plain ok. rw c.in-None.is (rw c.get.ensures.value at (c.write.ensures.writes plain ok))
