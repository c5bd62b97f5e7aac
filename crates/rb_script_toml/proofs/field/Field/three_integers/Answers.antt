use Rattle.std.proofs.Common.{◌≢◌, length, arith}
use borrow.Author.Tests.{ltb-true, ltb-false}
use Rattle.rb_script_toml.specs.declared.fault.FaultName.TheVariants.{WrongType}
use Rattle.rb_script_toml.specs.Fields.{three_integers, field_view}
use Rattle.rb_script_toml.proofs.Steps.{fails-at, three-other}
use Rattle.rb_script_toml.proofs.field.Field.three_integers.Goals.{in_default-via-then-items-lt3, in_default-via-else-items-lt3+else-items-lt4}
use Rattle.rb_script_toml.proofs.field.Field.three_integers.Goals as goal

pub returns-in_default : goal.returns-in_default
unfolding three_integers
returns-in_default c =
    let items = c.in_ok-items.items.now in
    let other : length items ≢ 3 = elim c.in_default.branch [
      | in_default-via-then-items-lt3 w ↦ λ e. omega (arith, ltb-true, ltb-false)
      | in_default-via-else-items-lt3+else-items-lt4 w ↦ λ e. omega (arith, ltb-true, ltb-false)
    ] in
    let path = (field_view c.args.self.now).path in
    rw c.in_ok-items.ensures (rw (three-other path items other) (fails-at _ c.fault.result WrongType path c.fault.ensures))
