use Rattle.std.proofs.Common.{◌≡◌, ◌++◌, codes, drop, map, nat_lt, false, string_bytes}
use Rattle.rb_script_text.specs.Json.{items_of, items_text}
use Rattle.rb_messages.specs.MessageTexts.{validator_json}
use Rattle.rb_messages.proofs.validators.push_validators.Given as goal

-- what was written and the values that are left
abbrev pub invariant-loop-place : goal.invariant-loop-place
invariant-loop-place l =
    string_bytes l.text ++ items_text (nat_lt 0 l.place) (items_of (map validator_json (drop l.place l.members)))
    ≡ string_bytes l.fn.text ++ codes "[" ++ items_text false (items_of (map validator_json l.members))
