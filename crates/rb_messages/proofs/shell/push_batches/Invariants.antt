use Rattle.std.proofs.Common.{◌≡◌, ◌≤◌, ◌++◌, drop, length, string_bytes}
use Rattle.rb_messages.specs.Shell.{batches_text}
use Rattle.rb_messages.proofs.shell.push_batches.Given as goal

-- what was written, and what is left
abbrev pub invariant-loop-place : goal.invariant-loop-place
invariant-loop-place l = record {
  text : string_bytes l.text ++ batches_text l.chains l.senders l.files l.updates l.place (drop l.place l.batches) l.rest
      ≡ string_bytes l.fn.text ++ batches_text l.chains l.senders l.files l.updates 0 l.batches l.updates;
  within : length l.rest ≤ length l.updates;
}
