use Rattle.rb_import_merge.specs.Sets.{AreKeptSets}
use Rattle.rb_import_merge.proofs.Rooms.{AtEachBefore}
use Rattle.rb_import_merge.proofs.sets.kept_sets.Given as goal

-- those so far are kept of the chains at their places
abbrev pub invariant-loop-place : goal.invariant-loop-place
invariant-loop-place l = AtEachBefore l.place (AreKeptSets l.setup l.records) l.chains l.kept.items
