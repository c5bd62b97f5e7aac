use Rattle.std.proofs.Common.{◌≡◌, ◌++◌, codes, drop, map, nat_lt, false, string_bytes}
use Rattle.std.specs.Option.{option_map}
use Rattle.rb_step.specs.Sent.{sent_view}
use Rattle.rb_script_text.specs.Json.{items_of, items_text}
use Rattle.rb_messages.specs.SignedTexts.{carried_json}
use Rattle.rb_messages.proofs.commit.push_entries.Given as goal

-- what was written and the values that are left
abbrev pub invariant-loop-place : goal.invariant-loop-place
invariant-loop-place l =
    string_bytes l.text ++ items_text (nat_lt 0 l.place) (items_of (map (carried_json (option_map sent_view l.votes)) (drop l.place l.entries)))
    ≡ string_bytes l.fn.text ++ codes "[" ++ items_text false (items_of (map (carried_json (option_map sent_view l.votes)) l.entries))
