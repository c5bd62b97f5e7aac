use Rattle.std.proofs.Common.{All, take}
use Rattle.rb_import_merge.specs.LeftOut.{IsLeftOutFor}
use Rattle.rb_import_merge.proofs.Leaving.{EventHas}
use Rattle.rb_import_merge.proofs.left_out.PathEvents.of_events.Given as goal

-- the entries are of packets that lack something, and those of the events so far are among them
abbrev pub invariant-loop-seen : goal.invariant-loop-seen
invariant-loop-seen l = record {
  reasons : All (IsLeftOutFor l.self.setup.now l.self.answers.now) l.lacking.items;
  all : All (EventHas l.self.setup.now l.self.answers.now l.lacking.items) (take l.seen-index l.self.events.now);
}
