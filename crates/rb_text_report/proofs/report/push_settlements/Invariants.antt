use Rattle.std.proofs.Common.{◌≡◌, ◌++◌, drop, map, string_bytes}
use Rattle.rb_super_turn.specs.Views.{settlement_view}
use Rattle.rb_text_report.specs.Report.{numbered_lines, settlement_text}
use Rattle.rb_text_report.proofs.report.push_settlements.Given as goal

-- what was written and the settlements that are left
abbrev pub invariant-loop-number : goal.invariant-loop-number
invariant-loop-number l =
    string_bytes l.text ++ numbered_lines settlement_text l.number (map settlement_view (drop l.number l.settlements))
    ≡ string_bytes l.fn.text ++ numbered_lines settlement_text 0 (map settlement_view l.settlements)
