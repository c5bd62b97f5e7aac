use Rattle.rb_want_requests.proofs.reason.SearchReasonDisplay.fmt.Goals as goal

pub returns-in-Some-Some-clause-writes : goal.returns-in-Some-Some-clause-writes
returns-in-Some-Some-clause-writes g c = λ plain ok.
    rw (c.in-Some-Some.is-0, c.in-Some-Some.is-1) (rw c.refused_of-refused-in-Some-Some.ensures at (c.write-in-Some-Some.ensures.writes plain ok))
