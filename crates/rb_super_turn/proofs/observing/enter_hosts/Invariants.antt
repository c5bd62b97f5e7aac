use Rattle.std.proofs.Common.{◌≡◌, ◌++◌, fold, take, drop}
use Rattle.rb_super_turn.specs.Turns.{after_host_window, hosts_back}
use Rattle.rb_super_turn.specs.Phases.{standing_in, IsLater}
use Rattle.rb_super_turn.proofs.observing.enter_hosts.Given as goal

-- the windows that were entered so far, and the hosts that are left to be told
abbrev pub invariant-loop-window : goal.invariant-loop-window
invariant-loop-window g l = record {
  standing : standing_in l.relayer ≡ fold after_host_window (standing_in l.fn.relayer) (take l.window-index l.windows);
  hosts : l.hosts.items ++ hosts_back (standing_in l.relayer) (drop l.window-index l.windows) ≡ hosts_back (standing_in l.fn.relayer) l.windows;
  later : IsLater l.window-index l.fn.relayer l.relayer;
}
