use Rattle.std.proofs.Common.{◌≡◌, [], take}
use Rattle.rb_import_check.specs.Verdicts.{verdicts_of}
use Rattle.rb_import.proofs.opening.first_verdicts.Given as goal

-- the answers so far hold none
abbrev pub invariant-loop-saved : goal.invariant-loop-saved
invariant-loop-saved l = verdicts_of (take l.saved-index l.answers) ≡ []
