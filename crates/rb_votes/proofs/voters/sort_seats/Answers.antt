use Rattle.std.proofs.Common.{map, drop, rules, ap, ◌∙◌}
use Rattle.std.proofs.lemmas.Fn.{always_returns_same}
use Rattle.rb_votes.specs.declared.voter.Voter.{Voter}
use Rattle.rb_votes.specs.declared.voters.Seat.{Seat}
use Rattle.rb_votes.specs.Power.{power_of}
use Rattle.rb_votes.specs.Voters.{voter_at}
use Rattle.rb_votes.proofs.Seats.{end_first, end_new, end_moved, end_same, falling_seats}
use Rattle.rb_votes.proofs.voters.sort_seats.Goals as goal

pub returns-clause-first : goal.returns-clause-first
returns-clause-first c = end_first c.args.seats.now c.sort_unstable_by_key.new.self c.args.start c.requires c.sort_unstable_by_key.ensures.permutation

pub returns-clause-same : goal.returns-clause-same
returns-clause-same c = end_same c.args.seats.now c.sort_unstable_by_key.new.self c.args.start c.requires c.sort_unstable_by_key.ensures.permutation

pub returns-clause-falling : goal.returns-clause-falling
returns-clause-falling c = λ given stand same.
    let at : Seat → Voter = λ seat. voter_at c.args.own.now c.args.trusted.now seat.own seat.trusted in
    let new = c.sort_unstable_by_key.new.self in
    let moved = c.sort_unstable_by_key.ensures.permutation in
    ap (λ seats. map at seats) (end_new c.args.seats.now new c.args.start c.requires moved)
    ∙ falling_seats at (power_of c.args.power) (drop c.args.start c.args.seats.now) new
    (end_moved c.args.seats.now new c.args.start c.requires moved)
    (c.sort_unstable_by_key.ensures.sorted (λ seat. (record { 0 = power_of c.args.power (at seat) }, seat.own)) (always_returns_same _ _ _ (λ a r q h. search rules)))
    given stand same
