-- (internal) Which messages of a list go, as it is computed.
use Rattle.std.specs.Prelude.{ℕ, nat_lt, Bool, List}
use Rattle.rb_scan.specs.Going.{can_go, going_end}
use Rattle.rb_scan.specs.declared.bars.Bars.{Bars}
use Rattle.rb_scan.specs.declared.bars.GoingEnds.{GoingEnds}
use Rattle.rb_scan.specs.declared.path.Order.{Order}
use Rattle.rb_scan.specs.declared.path.Order.TheVariants.{Ordered, Unordered}
use Rattle.rb_scan.specs.declared.message.Kind.{Kind}
use Rattle.rb_scan.specs.declared.message.Kind.TheVariants.{Receive, Acknowledge, Timeout}
use Rattle.rb_scan.specs.declared.message.PacketMsg.{PacketMsg}

abbrev pub going_ends_of : List PacketMsg → Bars → GoingEnds
going_ends_of ms bars = record {
  bars = bars;
  receives = going_end (can_go bars) Receive ms;
  acknowledgements = going_end (can_go bars) Acknowledge ms;
  timeouts = going_end (can_go bars) Timeout ms;
}

abbrev pub going_end_for : GoingEnds → Kind → ℕ
going_end_for e Receive = e.receives
going_end_for e Acknowledge = e.acknowledgements
going_end_for e Timeout = e.timeouts

abbrev pub goes : GoingEnds → Order → ℕ → PacketMsg → Bool
goes e Unordered place m = can_go e.bars m
goes e Ordered place m = nat_lt place (going_end_for e m.kind)
