-- (internal) Where the messages of a path that go end, and what keeps the others.
use Rattle.std.specs.Prelude.{ℕ, ◌-◌, nat_lt, Bool, false, not, List, Option, Some, None, if◌then◌else◌}
use Rattle.std.specs.Option.{option_and_then}
use Rattle.rb_scan.specs.Going.{can_go, going_end, is_barred}
use Rattle.rb_scan.specs.declared.bars.Bars.{Bars}
use Rattle.rb_scan.specs.declared.message.Kind.{Kind}
use Rattle.rb_scan.specs.declared.message.Kind.TheVariants.{Receive, Acknowledge, Timeout}
use Rattle.rb_scan.specs.declared.message.PacketMsg.{PacketMsg}
use Rattle.rb_scan.specs.declared.path.Order.{Order}
use Rattle.rb_scan.specs.declared.path.Order.TheVariants.{Ordered, Unordered}
use Rattle.rb_script_types.specs.declared.config.RefreshTo.{RefreshTo}
use Rattle.rb_script_types.specs.declared.config.RefreshTo.TheVariants.{Lowest, Highest, Newer}
use Rattle.rb_plan_client.specs.Task.{PathTask, Task, bars_of}
use Rattle.rb_explain.specs.declared.stays.Stay.{Stay}
use Rattle.rb_explain.specs.declared.stays.Stay.TheVariants.{TooBig, Late, Behind}
use Rattle.rb_explain.specs.declared.stays.Stays.{Stays}

abbrev pub stays_of : List PacketMsg → Bars → Stays
stays_of ms bars = record {
  bars = bars;
  receives = going_end (can_go bars) Receive ms;
  acknowledgements = going_end (can_go bars) Acknowledge ms;
  timeouts = going_end (can_go bars) Timeout ms;
}

abbrev pub stays_by : Task → PathTask → RefreshTo → Option Stays
stays_by t p Lowest = None
stays_by t p Highest = None
stays_by t p Newer = Some (stays_of p.owed (bars_of t p))

abbrev pub going_until : Stays → Kind → ℕ
going_until s Receive = s.receives
going_until s Acknowledge = s.acknowledgements
going_until s Timeout = s.timeouts

-- a message at a place of an ORDERED list stands behind one of its kind that can't go
abbrev pub is_behind : Stays → Order → ℕ → Kind → Bool
is_behind s Unordered place kind = false
is_behind s Ordered place kind = not (nat_lt place (going_until s kind))

abbrev pub stay_in : Stays → Order → ℕ → PacketMsg → Option Stay
stay_in s order place m =
    if is_barred s.bars m.kind then Some TooBig
    else if not (can_go s.bars m) then Some Late
    else if is_behind s order place m.kind then Some Behind
    else None

abbrev pub stay_among : Option Stays → Order → ℕ → PacketMsg → Option Stay
stay_among stays order place m = option_and_then (λ s. stay_in s order place m) stays
