-- What goes by the ends of a list is what goes.
use Rattle.std.proofs.Common.{◌≡◌, ℕ, List, refl}
use Rattle.rb_scan.specs.Going.{can_go, is_going}
use Rattle.rb_scan.specs.GoingEnds.{going_ends_of, goes}
use Rattle.rb_scan.specs.declared.bars.Bars.{Bars}
use Rattle.rb_scan.specs.declared.bars.GoingEnds.{GoingEnds}
use Rattle.rb_scan.specs.declared.path.Order.{Order}
use Rattle.rb_scan.specs.declared.path.Order.TheVariants.{Ordered, Unordered}
use Rattle.rb_scan.specs.declared.message.Kind.{Kind}
use Rattle.rb_scan.specs.declared.message.Kind.TheVariants.{Receive, Acknowledge, Timeout}
use Rattle.rb_scan.specs.declared.message.PacketMsg.{PacketMsg}

going_by_kind : (ms : List PacketMsg) (bars : Bars) (place : ℕ) (m : PacketMsg) (k : Kind) → m.kind ≡ k
    → goes (going_ends_of ms bars) Ordered place m ≡ is_going Ordered (can_go bars) ms place m
going_by_kind ms bars place m Receive is = rw is refl
going_by_kind ms bars place m Acknowledge is = rw is refl
going_by_kind ms bars place m Timeout is = rw is refl

goes_is_going : (ms : List PacketMsg) (bars : Bars) (order : Order) (place : ℕ) (m : PacketMsg)
    → goes (going_ends_of ms bars) order place m ≡ is_going order (can_go bars) ms place m
goes_is_going ms bars Unordered place m = refl
goes_is_going ms bars Ordered place m = going_by_kind ms bars place m m.kind refl

pub goes_by : (e : GoingEnds) (ms : List PacketMsg) (bars : Bars) (order : Order) (place : ℕ) (m : PacketMsg) → e ≡ going_ends_of ms bars
    → goes e order place m ≡ is_going order (can_go bars) ms place m
goes_by e ms bars order place m is = rw is (goes_is_going ms bars order place m)
