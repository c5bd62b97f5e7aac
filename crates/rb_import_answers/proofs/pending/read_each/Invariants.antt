use Rattle.std.proofs.Common.{◌≡◌, [], drop}
use Rattle.serde_json.specs.View.{items_view}
use Rattle.rb_import_json.specs.Fields.{object_view}
use Rattle.rb_import_answers.specs.Pending.{sequences_from}
use Rattle.rb_import_answers.proofs.pending.read_each.Given as goal

-- what is left is read after what was read
abbrev pub invariant-loop-value : goal.invariant-loop-value
invariant-loop-value l =
    sequences_from (object_view l.answer) l.sequences.items (items_view (drop l.value-index l.items))
    ≡ sequences_from (object_view l.answer) [] (items_view l.items)
