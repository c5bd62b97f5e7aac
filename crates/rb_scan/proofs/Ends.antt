-- What is taken by the ends of a list's runs is what is ready.
use Rattle.std.proofs.Common.{◌≡◌, ℕ, cond, nat_lt, nat_le, List, Option, Some, None, false, refl}
use Rattle.std.specs.Option.{option_map, option_map_or}
use Rattle.rb_scan.specs.Ends.{ends_of, end_for, is_taken}
use Rattle.rb_scan.specs.Owed.{same_kind, run_end, is_ready, is_near}
use Rattle.rb_scan.specs.declared.readiness.Ends.{Ends}
use Rattle.rb_scan.specs.declared.path.Order.{Order}
use Rattle.rb_scan.specs.declared.path.Order.TheVariants.{Ordered, Unordered}
use Rattle.rb_scan.specs.declared.message.Kind.{Kind}
use Rattle.rb_scan.specs.declared.message.Kind.TheVariants.{Receive, Acknowledge, Timeout}
use Rattle.rb_scan.specs.declared.message.PacketMsg.{PacketMsg}

pub taken_is_ready : (ms : List PacketMsg) (reach : ℕ) (order : Order) (place : ℕ) (m : PacketMsg) → is_taken (ends_of ms reach) order place m ≡ is_ready order reach ms place m
taken_is_ready ms reach Unordered place m = refl
taken_is_ready ms reach Ordered place m = go m.kind
  where
    go : (k : Kind) → cond (same_kind k Timeout) (nat_le m.floor reach) (nat_lt place (end_for (ends_of ms reach) k)) ≡ cond (same_kind k Timeout) (nat_le m.floor reach) (nat_lt place (run_end reach k ms))
    go Receive = refl
    go Acknowledge = refl
    go Timeout = refl

pub taken_is_near : (ms : List PacketMsg) (near : Option ℕ) (order : Order) (place : ℕ) (m : PacketMsg)
    → option_map_or (λ (e : Ends). is_taken e order place m) (option_map (ends_of ms) near) false ≡ is_near order near ms place m
taken_is_near ms None order place m = refl
taken_is_near ms (Some near) order place m = taken_is_ready ms near order place m

-- what ends take that are a list's, and where they have their reach
pub taken_by : (e : Ends) (ms : List PacketMsg) (reach : ℕ) (order : Order) (place : ℕ) (m : PacketMsg) → e ≡ ends_of ms reach
    → is_taken e order place m ≡ is_ready order e.reach ms place m
taken_by e ms reach order place m is = rw is (taken_is_ready ms reach order place m)

pub near_by : (e : Option Ends) (ms : List PacketMsg) (near : Option ℕ) (order : Order) (place : ℕ) (m : PacketMsg) → e ≡ option_map (ends_of ms) near
    → option_map_or (λ (n : Ends). is_taken n order place m) e false ≡ is_near order (option_map (λ (n : Ends). n.reach) e) ms place m
near_by e ms None order place m is = rw is refl
near_by e ms (Some near) order place m is = rw is (taken_is_ready ms near order place m)

pub near_reach : (e : Option Ends) (ms : List PacketMsg) (near : Option ℕ) → e ≡ option_map (ends_of ms) near → option_map (λ (n : Ends). n.reach) e ≡ near
near_reach e ms None is = rw is refl
near_reach e ms (Some near) is = rw is refl
