use Rattle.std.proofs.Common.{◌≡◌, [], drop}
use Rattle.serde_json.specs.View.{items_view}
use Rattle.rb_import_json.specs.declared.field_path.Key.{Key}
use Rattle.rb_import_json.specs.Fields.{each}
use Rattle.rb_import_answers.specs.Numbers.{sequence_number}
use Rattle.rb_import_answers.proofs.pending.read_states.Given as goal

-- what is left is read beside what was read
abbrev pub invariant-loop-value : goal.invariant-loop-value
invariant-loop-value l =
    each (sequence_number Key.Sequence) l.part l.sequences.items (items_view (drop l.value-index l.items))
    ≡ each (sequence_number Key.Sequence) l.part [] (items_view l.items)
