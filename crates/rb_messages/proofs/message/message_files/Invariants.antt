use Rattle.std.proofs.Common.{◌≡◌, ◌++◌, drop, map, string_bytes, take}
use Rattle.std.specs.List.{AllZip, enumerate_from}
use Rattle.rb_messages.specs.Messages.{IsFileOf}
use Rattle.rb_messages.specs.Names.{file_name}
use Rattle.rb_messages.proofs.message.message_files.Given as goal

-- the names of the files that are made, and of those that are left; and those that are made are the messages of the first updates
abbrev pub invariant-loop-place : goal.invariant-loop-place
invariant-loop-place l =
    (map (λ f. string_bytes f.name) l.files.items ++ map (λ p. file_name p.0 p.1) (enumerate_from l.place (drop l.place l.updates))
    ≡ map (λ p. file_name p.0 p.1) (enumerate_from 0 l.updates))
    × AllZip (IsFileOf l.chains l.seen) (take l.place l.updates) l.files.items
