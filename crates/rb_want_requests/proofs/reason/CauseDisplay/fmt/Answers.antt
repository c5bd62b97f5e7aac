use Rattle.rb_want_requests.proofs.reason.CauseDisplay.fmt.Goals as goal

pub returns-in-GoalAhead-clause-writes : goal.returns-in-GoalAhead-clause-writes
returns-in-GoalAhead-clause-writes g c = λ plain ok.
    rw c.in-GoalAhead.is (c.write-in-GoalAhead.ensures.writes plain ok)
