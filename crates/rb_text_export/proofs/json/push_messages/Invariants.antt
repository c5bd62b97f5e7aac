use Rattle.std.proofs.Common.{◌≡◌, ◌++◌, codes, drop, map, nat_lt, false, string_bytes}
use Rattle.rb_script_text.specs.Json.{items_of, items_text}
use Rattle.rb_text_export.specs.ReportJson.{message_json}
use Rattle.rb_text_export.proofs.json.push_messages.Given as goal

-- what was written and the values that are left
abbrev pub invariant-loop-place : goal.invariant-loop-place
invariant-loop-place l =
    string_bytes l.text ++ items_text (nat_lt 0 l.place) (items_of (map (message_json l.paths) (drop l.place l.messages)))
    ≡ string_bytes l.fn.text ++ codes "[" ++ items_text false (items_of (map (message_json l.paths) l.messages))
