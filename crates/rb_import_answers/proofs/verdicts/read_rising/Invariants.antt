use Rattle.std.proofs.Common.{◌≡◌, [], drop}
use Rattle.serde_json.specs.View.{items_view}
use Rattle.rb_import_json.specs.Fields.{object_view}
use Rattle.rb_import_answers.specs.Verdicts.{rising}
use Rattle.rb_import_answers.proofs.verdicts.read_rising.Given as goal

-- what is left is read after what was read
abbrev pub invariant-loop-value : goal.invariant-loop-value
invariant-loop-value l =
    rising (object_view l.entry) l.key l.votes l.least l.places.items (items_view (drop l.value-index l.items))
    ≡ rising (object_view l.entry) l.key l.votes 0 [] (items_view l.items)
