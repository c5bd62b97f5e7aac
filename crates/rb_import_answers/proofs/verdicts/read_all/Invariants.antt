use Rattle.std.proofs.Common.{◌≡◌, [], map, drop}
use Rattle.serde_json.specs.View.{items_view}
use Rattle.rb_import_answers.specs.Verdicts.{all_verdicts, verdict_view}
use Rattle.rb_import_answers.proofs.verdicts.read_all.Given as goal

-- what is left is read after what was read
abbrev pub invariant-loop-index : goal.invariant-loop-index
invariant-loop-index l =
    all_verdicts l.index (map verdict_view l.all.items) (items_view (drop l.index l.items))
    ≡ all_verdicts 0 [] (items_view l.items)
