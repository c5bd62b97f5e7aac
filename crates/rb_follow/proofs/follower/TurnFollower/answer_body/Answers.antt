use Rattle.std.proofs.Common.{◌+◌}
use Rattle.rb_script_toml.specs.Faults.{fault_view}
use Rattle.rb_script_read.specs.Turns.{reading_view}
use Rattle.rb_script_read.specs.NextTurns.{next_turn_view}
use Rattle.rb_follow.specs.Answers.{answer_view}
use Rattle.rb_follow.specs.Followers.{number_if}
use Rattle.rb_follow.specs.Views.{following}
use Rattle.rb_follow.proofs.Steps.{answers_body, right_body, refuses, right_refused}
use Rattle.rb_follow.proofs.follower.TurnFollower.answer_body.Goals as goal

pub returns-in-Ok-clause-answer : goal.returns-in-Ok-clause-answer
returns-in-Ok-clause-answer g c =
    let f = following c.args.self in
    answers_body (λ x. answer_view x.1) (λ x. following x.0) f (number_if c.args.has_number (c.args.self.turns + 1)) c.args.body.now
    (next_turn_view (reading_view c.args.self.reading) c.in-Ok.next) c.take.result c.in-Ok.ensures.read c.take.ensures.answer

pub returns-in-Ok-clause-right : goal.returns-in-Ok-clause-right
returns-in-Ok-clause-right g c =
    right_body (following c.args.self) (number_if c.args.has_number (c.args.self.turns + 1)) c.args.body.now
    (next_turn_view (reading_view c.args.self.reading) c.in-Ok.next) c.take.result c.in-Ok.ensures.read c.take.ensures.right
