use Rattle.std.proofs.Common.{◌≡◌, take}
use Rattle.rb_import_check.specs.Clients.{has_last}
use Rattle.rb_import_check.proofs.client.has_last.Given as goal

-- whether the last page is among the answers so far
abbrev pub invariant-loop-saved : goal.invariant-loop-saved
invariant-loop-saved l = l.is_whole ≡ has_last (take l.saved-index l.answers)
