use Rattle.std.proofs.Common.{◌≡◌, ℕ, List, ◌+◌, ◌++◌, drop, map, false}
use Rattle.std.specs.Io.KnownBytes.{Appends}
use Rattle.rb_super_turn.specs.Views.{turn_report_view}
use Rattle.rb_text_report.specs.Report.{numbered_lines, turn_text}
use Rattle.rb_text_report.proofs.write.put_turns.Given as goal

-- what was taken and the turns that are left
abbrev pub invariant-loop-turn : goal.invariant-loop-turn
invariant-loop-turn g l = record {
  works : g.W.Sink.is_broken l.writer ≡ false;
  number : l.number ≡ l.turn-index;
  parts : (done : List ℕ)
      × (done ++ numbered_lines (turn_text l.version l.chains l.paths) (l.turn-index + 1) (map turn_report_view (drop l.turn-index l.turns)) ≡ numbered_lines (turn_text l.version l.chains l.paths) 1 (map turn_report_view l.turns))
      × Appends (g.W.Sink.taken l.fn.writer) (g.W.Sink.taken l.writer) done;
}
