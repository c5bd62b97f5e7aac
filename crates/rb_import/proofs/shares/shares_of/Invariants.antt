use Rattle.std.proofs.Common.{◌≡◌, ◌++◌, drop, map}
use Rattle.std.specs.List.{enumerate_from}
use Rattle.rb_import.specs.Shares.{share_of, shown}
use Rattle.rb_import.proofs.shares.shares_of.Given as goal

-- the shares of the clients so far, and of those that are left
abbrev pub invariant-loop-place : goal.invariant-loop-place
invariant-loop-place l =
    map shown l.shares.items ++ map (share_of l.setup l.seen) (enumerate_from l.place (drop l.place l.setup.clients.items))
    ≡ map (share_of l.setup l.seen) (enumerate_from 0 l.setup.clients.items)
