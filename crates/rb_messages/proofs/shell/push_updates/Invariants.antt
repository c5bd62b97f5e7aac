use Rattle.std.proofs.Common.{◌≡◌, ◌+◌, ◌++◌, drop, string_bytes}
use Rattle.rb_messages.specs.Shell.{updates_text}
use Rattle.rb_messages.proofs.shell.push_updates.Given as goal

-- what was written, and what is left
abbrev pub invariant-loop-place : goal.invariant-loop-place
invariant-loop-place l =
    string_bytes l.text ++ updates_text l.chains (l.first + l.place) (drop l.place l.updates) ≡ string_bytes l.fn.text ++ updates_text l.chains l.first l.updates
