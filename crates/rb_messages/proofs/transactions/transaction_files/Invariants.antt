use Rattle.std.proofs.Common.{◌≡◌, ◌++◌, drop, map}
use Rattle.rb_messages.specs.Transactions.{file_view, files_from}
use Rattle.rb_messages.proofs.transactions.transaction_files.Given as goal

-- the files that are made, and those of the batches that are left
abbrev pub invariant-loop-place : goal.invariant-loop-place
invariant-loop-place l =
    map file_view l.files.items ++ files_from l.chains l.senders l.packets l.place (drop l.place l.batches) l.rest
    ≡ files_from l.chains l.senders l.packets 0 l.batches l.updates
