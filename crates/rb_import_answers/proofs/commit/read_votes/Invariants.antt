use Rattle.std.proofs.Common.{◌≡◌, [], drop}
use Rattle.serde_json.specs.View.{items_view}
use Rattle.rb_import_json.specs.declared.field_path.Segment.{Segment}
use Rattle.rb_import_json.specs.Fields.{each}
use Rattle.rb_import_answers.specs.Headers.{vote}
use Rattle.rb_import_answers.proofs.commit.read_votes.Given as goal

-- what is left is read beside what was read
abbrev pub invariant-loop-value : goal.invariant-loop-value
invariant-loop-value l = each vote Segment.Signatures l.votes.items (items_view (drop l.value-index l.items)) ≡ each vote Segment.Signatures [] (items_view l.items)
