-- (internal) The order of the messages of an open batch.
use Rattle.std.specs.Prelude.{ℕ, ◌==◌, ◌&&◌, ◌||◌, Bool, nat_lt}
use Rattle.rb_scan.specs.declared.message.Kind.{Kind}
use Rattle.rb_scan.specs.declared.message.Kind.TheVariants.{Receive, Acknowledge, Timeout}
use Rattle.rb_plan_client.specs.Task.{Message}

abbrev pub kind_place : Kind → ℕ
kind_place Receive = 0
kind_place Acknowledge = 1
kind_place Timeout = 2

-- by path, kind, and sequence
abbrev pub comes_before : Message → Message → Bool
comes_before m n =
    nat_lt m.path n.path
    || ((m.path == n.path)
    && (nat_lt (kind_place m.packet.kind) (kind_place n.packet.kind) || ((kind_place m.packet.kind == kind_place n.packet.kind) && nat_lt m.packet.sequence n.packet.sequence)))
