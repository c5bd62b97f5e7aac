use Rattle.std.proofs.Common.{◌≡◌, [], drop, map}
use Rattle.toml.specs.View.{items_view}
use Rattle.rb_script_toml.specs.Fields.{field_view}
use Rattle.rb_script_read.specs.Sets.{validators_after, member_of}
use Rattle.rb_script_read.proofs.set.validators_of.Given as goal

-- what is left is read after what was read
abbrev pub invariant-loop-value : goal.invariant-loop-value
invariant-loop-value l =
    let path = (field_view l.field).path in
    validators_after path (map member_of l.validators.items) (items_view (drop l.value-index l.items))
    ≡ validators_after path [] (items_view l.items)
