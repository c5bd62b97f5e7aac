use Rattle.std.proofs.Common.{◌≡◌, ◌≢◌, length, arith, rules, Some}
use borrow.Author.Tests.{ltb-true, ltb-false}
use Rattle.toml.specs.Data.{as_array}
use Rattle.toml.specs.View.{view, array_view}
use Rattle.rb_script_toml.specs.declared.fault.FaultName.TheVariants.{WrongType}
use Rattle.rb_script_toml.specs.Fields.{field_view}
use Rattle.rb_script_toml.specs.KeyPaths.{element}
use Rattle.rb_script_read.specs.Sets.{validator}
use Rattle.rb_script_toml.proofs.Steps.{fails-at}
use Rattle.rb_script_read.proofs.SetsLemmas.{pair-other}
use Rattle.rb_script_read.proofs.set.validator_at.Goals.{in_default-as_slice-via-then-as_slice-lt2, in_default-as_slice-via-else-as_slice-lt2+else-this-lt3}
use Rattle.rb_script_read.proofs.set.validator_at.Goals as goal

pub returns-in_default-as_slice : goal.returns-in_default-as_slice
unfolding validator
returns-in_default-as_slice c =
    let other : length c.as_slice.result.now ≢ 2 = elim c.in_default-as_slice.branch [
      | in_default-as_slice-via-then-as_slice-lt2 w ↦ λ e. omega (arith, ltb-true, ltb-false)
      | in_default-as_slice-via-else-as_slice-lt2+else-this-lt3 w ↦ λ e. omega (arith, ltb-true, ltb-false)
    ] in
    let path = element (field_view c.args.field.now).path c.args.index in
    let array : as_array (view c.args.value.now) ≡ Some (array_view c.in-Some.array.now) = search rules in
    let same : c.as_slice.result.now ≡ c.in-Some.array.now.items = c.as_slice.ensures.value in
    rw array (rw (pair-other path c.in-Some.array.now.items (rw (← same) other)) (fails-at _ c.fault_at-in_default-as_slice.result WrongType path c.fault_at-in_default-as_slice.ensures))
