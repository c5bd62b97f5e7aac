use Rattle.std.proofs.Common.{◌≡◌, ◌++◌, drop, map}
use Rattle.std.specs.List.{enumerate_from}
use Rattle.rb_import.specs.Scripts.{path_in}
use Rattle.rb_import.proofs.config.paths_of.Given as goal

-- the paths so far and those that are left are all
abbrev pub invariant-loop-place : goal.invariant-loop-place
invariant-loop-place l =
    l.paths.items ++ map (path_in l.answers) (enumerate_from l.place (drop l.place l.setup.paths.items))
    ≡ map (path_in l.answers) (enumerate_from 0 l.setup.paths.items)
