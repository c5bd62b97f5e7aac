use Rattle.std.proofs.Common.{◌≡◌, [], take}
use Rattle.std.specs.Prelude.{Vec}
use Rattle.std.specs.Global.{Global}
use Rattle.std.specs.List.{flat_map}
use Rattle.rb_import_check.specs.declared.saved.Saved.{Saved}
use Rattle.rb_import_check.specs.Verdicts.{verdicts_of}
use Rattle.rb_import.proofs.opening.verifier_of.Given as goal

-- the chains so far have no verdicts
abbrev pub invariant-loop-saved : goal.invariant-loop-saved
invariant-loop-saved l = flat_map (λ (saved : Vec Saved Global). verdicts_of saved.items) (take l.saved-index l.saved-items) ≡ []
