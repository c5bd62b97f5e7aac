-- how long a path's messages may wait (own choice)
use Rattle.std.specs.Prelude.{ℕ}
use Rattle.rb_scan.specs.declared.message.Kind.{Kind}
use Rattle.rb_scan.specs.declared.message.Kind.TheVariants.{Receive, Acknowledge, Timeout}
use Rattle.rb_script_types.specs.declared.waits.Waits.{Waits}

-- so many nanoseconds a message of a kind
abbrev pub wait_for : Waits → Kind → ℕ
wait_for w Receive = w.receive
wait_for w Acknowledge = w.acknowledge
wait_for w Timeout = w.timeout
