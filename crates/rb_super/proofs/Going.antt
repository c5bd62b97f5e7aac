-- What goes in a turn went in each turn before it, if it was owed there: windows end no earlier, and limits stay.
use Rattle.std.proofs.Common.{◌≡◌, ℕ, ◌+◌, ◌≤◌, Bool, true, false, not, nat_lt, nat_le, List, Option, Some, None, refl, sym, ap, ◌∙◌, subst, arith}
use Rattle.std.specs.List.{enumerate_from, filter}
use Rattle.std.specs.Option.{option_map_or}
use Rattle.std.proofs.lemmas.Bool.{and_parts, and_from, not-true, leb-false, lt-leb}
use Rattle.rb_scan.specs.Going.{is_barred, is_late, can_go, is_going, going}
use Rattle.rb_scan.specs.Owed.{is_ready, ready}
use Rattle.rb_scan.specs.declared.message.Kind.{Kind}
use Rattle.rb_scan.specs.declared.message.Kind.TheVariants.{Receive, Acknowledge, Timeout}
use Rattle.rb_scan.specs.declared.message.PacketMsg.{PacketMsg}
use Rattle.rb_scan.specs.declared.path.Order.{Order}
use Rattle.rb_scan.specs.declared.path.Order.TheVariants.{Unordered}
use Rattle.rb_script_types.specs.Gas.{gas_for}
use Rattle.rb_script_types.specs.declared.config.RefreshTo.{RefreshTo}
use Rattle.rb_script_types.specs.declared.config.RefreshTo.TheVariants.{Lowest, Highest, Newer}
use Rattle.rb_plan_client.specs.Task.{PathTask, Task, bars_of, going_by, going_on}
use Rattle.rb_super.proofs.Members.{In, in_map, in_places, in_passing, from_get, from_map, from_places, from_passing, to_get}

-- what is ready is one of those that go
pub from_ready : (ms : List PacketMsg) (order : Order) (reach : Option ℕ) (m : PacketMsg) → In (ready ms order reach) m → In ms m
from_ready ms order None m h = absurd h
from_ready ms order (Some reach) m h =
    let test = λ (p : ℕ × PacketMsg). is_ready order reach ms p.0 p.1 in
    let at = from_map (λ (p : ℕ × PacketMsg). p.1) (filter test (enumerate_from 0 ms)) m h in
    let passes = from_passing test (enumerate_from 0 ms) at.0 at.1 in
    let place = from_places 0 ms at.0.0 at.0.1 passes.0 in
    subst (In ms) at.2 (from_get ms place.0 at.0.1 place.2)

-- ---- UNORDERED paths

from_going : (can : PacketMsg → Bool) (ms : List PacketMsg) (m : PacketMsg) → In (going Unordered can ms) m → can m ≡ true
from_going can ms m h =
    let test = λ (p : ℕ × PacketMsg). is_going Unordered can ms p.0 p.1 in
    let at = from_map (λ (p : ℕ × PacketMsg). p.1) (filter test (enumerate_from 0 ms)) m h in
    ap can (sym at.2) ∙ (from_passing test (enumerate_from 0 ms) at.0 at.1).1

pub to_going : (can : PacketMsg → Bool) (ms : List PacketMsg) (m : PacketMsg) → In ms m → can m ≡ true → In (going Unordered can ms) m
to_going can ms m there e =
    let test = λ (p : ℕ × PacketMsg). is_going Unordered can ms p.0 p.1 in
    let at = to_get ms m there in
    in_map (λ (p : ℕ × PacketMsg). p.1) (filter test (enumerate_from 0 ms)) (0 + at.0, m) (in_passing test (enumerate_from 0 ms) (0 + at.0, m) (in_places 0 ms at.0 m at.1) e)

-- by gain only what can go goes
pub goes_by_gain : (t : Task) (p : PathTask) (m : PacketMsg) → p.order ≡ Unordered → t.config.refresh_to ≡ Newer → In (going_on t p) m → can_go (bars_of t p) m ≡ true
goes_by_gain t p m plain by_gain there =
    from_going (can_go (bars_of t p)) p.owed m (subst (λ o. In (going o (can_go (bars_of t p)) p.owed) m) plain (subst (λ to. In (going_by t p to) m) by_gain there))

-- and all that can
pub in_going : (t : Task) (p : PathTask) (m : PacketMsg) → p.order ≡ Unordered → In p.owed m → (t.config.refresh_to ≡ Newer → can_go (bars_of t p) m ≡ true) → In (going_on t p) m
in_going t p m plain there can = go t.config.refresh_to refl
  where
    go : (to : RefreshTo) → t.config.refresh_to ≡ to → In (going_by t p to) m
    go Lowest e = there
    go Highest e = there
    go Newer e = subst (λ o. In (going o (can_go (bars_of t p)) p.owed) m) (sym plain) (to_going (can_go (bars_of t p)) p.owed m there (can e))

-- ---- from a turn to one before it

pub barred_is : (t : Task) (p : PathTask) (kind : Kind) → is_barred (bars_of t p) kind ≡ nat_lt t.config.limits.gas (gas_for p.gas kind + t.config.limits.transaction_gas)
barred_is t p Receive = refl
barred_is t p Acknowledge = refl
barred_is t p Timeout = refl

pub can_before : (t u : Task) (p q : PathTask) (m n : PacketMsg) → u.config ≡ t.config → q.gas ≡ p.gas → n.kind ≡ m.kind → n.timeout ≡ m.timeout → t.window.until ≤ u.window.until
    → can_go (bars_of u q) n ≡ true → can_go (bars_of t p) m ≡ true
can_before t u p q m n config gas kind timeout until can =
    let parts = and_parts (not (is_barred (bars_of u q) n.kind)) (not (is_late u.window.until n)) can in
    let late : is_late u.window.until n ≡ false = not-true (is_late u.window.until n) parts.1 in
    and_from (not (is_barred (bars_of t p) m.kind)) (not (is_late t.window.until m)) (ap not same_bar ∙ parts.0)
    (ap not (in_time m.timeout (ap (λ o. option_map_or (λ time. nat_le time u.window.until) o false) (sym timeout) ∙ late)))
  where
    same_bar : is_barred (bars_of t p) m.kind ≡ is_barred (bars_of u q) n.kind
    same_bar =
        barred_is t p m.kind ∙ sym (λ i. nat_lt (config i).limits.gas (gas_for (gas i) (kind i) + (config i).limits.transaction_gas)) ∙ sym (barred_is u q n.kind)

    in_time : (o : Option ℕ) → option_map_or (λ time. nat_le time u.window.until) o false ≡ false → option_map_or (λ time. nat_le time t.window.until) o false ≡ false
    in_time None e = refl
    in_time (Some time) e = lt-leb time t.window.until (omega (arith, leb-false time u.window.until e, until))
