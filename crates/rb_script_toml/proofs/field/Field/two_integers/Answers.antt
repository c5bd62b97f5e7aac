use Rattle.std.proofs.Common.{◌≢◌, length, arith}
use borrow.Author.Tests.{ltb-true, ltb-false}
use Rattle.rb_script_toml.specs.declared.fault.FaultName.TheVariants.{WrongType}
use Rattle.rb_script_toml.specs.Fields.{two_integers, field_view}
use Rattle.rb_script_toml.proofs.Steps.{fails-at, two-other}
use Rattle.rb_script_toml.proofs.field.Field.two_integers.Goals.{in_default-via-then-items-lt2, in_default-via-else-items-lt2+else-items-lt3}
use Rattle.rb_script_toml.proofs.field.Field.two_integers.Goals as goal

pub returns-in_default : goal.returns-in_default
unfolding two_integers
returns-in_default c =
    let items = c.in_ok-items.items.now in
    let other : length items ≢ 2 = elim c.in_default.branch [
      | in_default-via-then-items-lt2 w ↦ λ e. omega (arith, ltb-true, ltb-false)
      | in_default-via-else-items-lt2+else-items-lt3 w ↦ λ e. omega (arith, ltb-true, ltb-false)
    ] in
    let path = (field_view c.args.self.now).path in
    rw c.in_ok-items.ensures (rw (two-other path items other) (fails-at _ c.fault.result WrongType path c.fault.ensures))
