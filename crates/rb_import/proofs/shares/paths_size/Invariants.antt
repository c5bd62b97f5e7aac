use Rattle.std.proofs.Common.{◌≡◌, ◌++◌, drop, map}
use Rattle.std.specs.List.{enumerate_from}
use Rattle.rb_import.specs.Shares.{path_size}
use Rattle.rb_import.proofs.shares.paths_size.Given as goal

-- the sizes of the paths so far, and of those that are left
abbrev pub invariant-loop-number : goal.invariant-loop-number
invariant-loop-number l =
    l.sizes.items ++ map (path_size l.seen l.place) (enumerate_from l.number (drop l.number l.setup.paths.items))
    ≡ map (path_size l.seen l.place) (enumerate_from 0 l.setup.paths.items)
