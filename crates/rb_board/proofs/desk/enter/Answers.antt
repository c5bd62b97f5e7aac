use Rattle.std.proofs.Common.{rules, subst, ◌≡◌}
use Rattle.std.specs.Prelude.{Some}
use Rattle.rb_board.specs.Rule.{Sees, known_by, known_of}
use Rattle.rb_board.proofs.Boarding.{looks}
use Rattle.rb_board.proofs.desk.enter.Goals as goal

pub enter_as-requires : goal.enter_as-requires
enter_as-requires g c = looks _ _

pub returns-in-Ok-clause-seen : goal.returns-in-Ok-clause-seen
returns-in-Ok-clause-seen g c =
    let home : Some c.in-Some.reader ≡ c.args.home.now = search rules in
    subst (λ h. Sees (known_of h) c.in-Ok.reading.part.value c.in-Ok.reading.part.value (known_by c.in-Ok.reading.place)) home c.in-Ok.ensures.1
