-- The packets that are over at the front of a path, as they are counted and forgotten.
use Rattle.std.proofs.Common.{◌≡◌, ℕ, ◌+◌, ◌<◌, ◌≤◌, Bool, false, cond, ◌||◌, nat_le, List, length, drop, get_or, Option, Some, None, refl, sym, ap, ◌∙◌, arith}
use Rattle.std.specs.List.{filter, list_any}
use Rattle.std.specs.Option.{IsSome, SomeIff}
use Rattle.std.proofs.lemmas.List.{at_drop_more, drop_all, length-drop}
use Rattle.std.proofs.lemmas.List.Elements.{All-from_recursion, recursion_from_All}
use Rattle.rb_scan.specs.Packet.{Packet}
use Rattle.rb_scan.specs.declared.path.Order.{Order}
use Rattle.rb_core_model.specs.Forgetting.{has_many_over}
use Rattle.rb_core_model.specs.Over.{is_over_at, over_from, gone_in, rest_of_path}
use Rattle.rb_core_model.specs.Standing.{PathState}
use Rattle.rb_core_model.proofs.Over.{AreOver, counted_over, later_filter, rising_later}
use Rattle.rb_core_state.specs.Room.{PathWithRoom, IsPathWithRoom, paths_of}

-- ---- a loop that counts them

pub over_here : (order : Order) (qs : List Packet) (i s : ℕ) (q : Packet) (b : Bool) → i < length qs → q ≡ get_or qs i q → is_over_at order (s, q) ≡ b
    → over_from order s (drop i qs) ≡ cond b (1 + over_from order (s + 1) (drop (i + 1) qs)) 0
over_here order qs i s q b lt is e =
    at_drop_more (over_from order s) qs i q lt
    ∙ ap (λ (x : Packet). cond (is_over_at order (s, x)) (1 + over_from order (s + 1) (drop (i + 1) qs)) 0) (sym is)
    ∙ ap (λ t. cond t (1 + over_from order (s + 1) (drop (i + 1) qs)) 0) e

pub over_end : (order : Order) (qs : List Packet) (i s : ℕ) → length qs ≤ i → over_from order s (drop i qs) ≡ 0
over_end order qs i s past = ap (over_from order s) (drop_all i qs past)

-- ---- a path without them

gone_of : (p : PathState) → AreOver p.config.order p.first (gone_in p) p.packets
gone_of p = counted_over p.config.order p.first (gone_in p) p.packets (omega arith)

pub held_rest : (count : ℕ) (p : PathState) → IsPathWithRoom p count → IsPathWithRoom (rest_of_path p) 0
held_rest count p h =
    let later = rising_later p.config.order p.first (gone_in p) p.packets (gone_of p) h.rising (recursion_from_All (λ (q : Packet). p.first ≤ q.sequence) p.packets h.from_first) in
    record {
      rising = later.0;
      from_first = All-from_recursion (λ (q : Packet). p.first + gone_in p ≤ q.sequence) (drop (gone_in p) p.packets) later.1;
      few = (let long = length-drop (gone_in p) p.packets in let few = h.few in omega arith);
      run = omega arith;
    }

-- the packets that are left have no lower sequence than the first then
pub rest_by_filter : (count : ℕ) (p : PathState) (n first : ℕ) (items : List Packet) → IsPathWithRoom p count → n ≡ gone_in p → first ≡ p.first + n → items ≡ filter (λ (q : Packet). nat_le first q.sequence) p.packets
    → (record p { first = first; packets = items }) ≡ rest_of_path p
rest_by_filter count p n first items h counted is left =
    let e : first ≡ p.first + gone_in p = is ∙ ap (λ k. p.first + k) counted in
    let same : items ≡ drop (gone_in p) p.packets =
    left ∙ ap (λ k. filter (λ (q : Packet). nat_le k q.sequence) p.packets) e
    ∙ later_filter p.config.order p.first (gone_in p) p.packets (gone_of p) h.rising (recursion_from_All (λ (q : Packet). p.first ≤ q.sequence) p.packets h.from_first) in
    λ i. record p { first = e i; packets = same i }

-- ---- whether a path has many

pub any_here : (least : ℕ) (hs : List PathWithRoom) (i : ℕ) (h : PathWithRoom) (b : Bool) → i < length hs → h ≡ get_or hs i h → has_many_over least h.path ≡ b
    → list_any (has_many_over least) (paths_of (drop i hs)) ≡ (b || list_any (has_many_over least) (paths_of (drop (i + 1) hs)))
any_here least hs i h b lt is e =
    at_drop_more (λ xs. list_any (has_many_over least) (paths_of xs)) hs i h lt
    ∙ ap (λ (x : PathWithRoom). has_many_over least x.path || list_any (has_many_over least) (paths_of (drop (i + 1) hs))) (sym is)
    ∙ ap (λ t. t || list_any (has_many_over least) (paths_of (drop (i + 1) hs))) e

pub any_end : (least : ℕ) (hs : List PathWithRoom) (i : ℕ) → length hs ≤ i → list_any (has_many_over least) (paths_of (drop i hs)) ≡ false
any_end least hs i past = ap (λ xs. list_any (has_many_over least) (paths_of xs)) (drop_all i hs past)

-- ---- a value that is made where it may be

pub made : {T : Type 0} (o : Option T) (P : Type 0) (v : T) → SomeIff o P v → P → IsSome o
made None P v none p = absurd (none p)
made (Some x) P v some p = refl
