use Rattle.std.proofs.Common.{◌≡◌, ◌++◌, codes, drop, map, nat_lt, false, string_bytes}
use Rattle.rb_super_turn.specs.Views.{turn_report_view}
use Rattle.rb_script_text.specs.Json.{items_of, items_text}
use Rattle.rb_text_export.specs.ReportJson.{turn_json}
use Rattle.rb_text_export.proofs.json.push_turns.Given as goal

-- what was written and the values that are left
abbrev pub invariant-loop-place : goal.invariant-loop-place
invariant-loop-place l =
    string_bytes l.text ++ items_text (nat_lt 0 l.place) (items_of (map (turn_json l.version l.chains l.paths) (map turn_report_view (drop l.place l.turns))))
    ≡ string_bytes l.fn.text ++ codes "[" ++ items_text false (items_of (map (turn_json l.version l.chains l.paths) (map turn_report_view l.turns)))
