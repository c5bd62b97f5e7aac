use Rattle.std.proofs.Common.{◌≡◌, ◌++◌, drop, map, string_bytes}
use Rattle.std.specs.List.{enumerate_from, flat_map}
use Rattle.rb_messages.specs.Texts.{listed_text}
use Rattle.rb_messages.proofs.transaction_text.push_messages.Given as goal

-- what is written, and what is left
abbrev pub invariant-loop-place : goal.invariant-loop-place
invariant-loop-place l =
    string_bytes l.text ++ flat_map listed_text (enumerate_from l.place (map string_bytes (drop l.place l.messages)))
    ≡ string_bytes l.initial.text ++ flat_map listed_text (enumerate_from 0 (map string_bytes l.messages))
