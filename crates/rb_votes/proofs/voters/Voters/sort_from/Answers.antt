use Rattle.std.proofs.Common.{ap}
use Rattle.rb_votes.specs.Votes.{falling}
use Rattle.rb_votes.specs.Power.{power_of}
use Rattle.rb_votes.proofs.Seats.{back_first, back_same, back_falling}
use Rattle.rb_votes.proofs.voters.Voters.sort_from.Goals as goal

pub returns-clause-first : goal.returns-clause-first
returns-clause-first c =
    back_first _ c.self.inside.seats.items c.as_mut_slice.result.now c.sort_seats.new.seats c.args.self.now.list (ap (λ v. v.list) c.self.view_is)
    c.as_mut_slice.ensures.value c.sort_seats.ensures.same c.args.start c.sort_seats.ensures.first

pub returns-clause-same : goal.returns-clause-same
returns-clause-same c =
    back_same _ c.self.inside.seats.items c.as_mut_slice.result.now c.sort_seats.new.seats c.args.self.now.list (ap (λ v. v.list) c.self.view_is)
    c.as_mut_slice.ensures.value c.sort_seats.ensures.same

pub returns-clause-falling : goal.returns-clause-falling
returns-clause-falling c = λ given stand same.
    back_falling _ c.self.inside.seats.items c.as_mut_slice.result.now c.sort_seats.new.seats c.args.self.now.list (ap (λ v. v.list) c.self.view_is)
    c.as_mut_slice.ensures.value c.sort_seats.ensures.same c.args.start given (falling (power_of c.args.power) given)
    (λ lent. c.sort_seats.ensures.falling given stand lent) same
