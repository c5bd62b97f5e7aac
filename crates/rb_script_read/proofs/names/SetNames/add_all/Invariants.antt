use Rattle.std.proofs.Common.{◌≡◌, drop}
use Rattle.rb_script_read.specs.Names.{names_of, with_namings}
use Rattle.rb_script_read.proofs.names.SetNames.add_all.Given as goal

-- what is left is given names after what was
abbrev pub invariant-loop-naming : goal.invariant-loop-naming
invariant-loop-naming l =
    with_namings (names_of l.self) (drop l.naming-index l.namings) ≡ with_namings (names_of l.fn.self) l.namings
