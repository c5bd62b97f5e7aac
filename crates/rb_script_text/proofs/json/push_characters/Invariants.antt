use Rattle.std.proofs.Common.{◌≡◌, ◌++◌, string_bytes, flat_map}
use Rattle.rb_script_text.specs.Json.{escape}
use Rattle.rb_script_text.proofs.json.push_characters.Given as goal

-- what is written goes on with the characters so far
abbrev pub invariant-loop-character : goal.invariant-loop-character
invariant-loop-character l = string_bytes l.text ≡ string_bytes l.fn.text ++ flat_map escape l.yielded
