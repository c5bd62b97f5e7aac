-- What happens to a path happens to what is left of it without packets that are over at its front.
use Rattle.std.proofs.Common.{◌≡◌, ℕ, zero, suc, ◌+◌, ◌<◌, ◌≤◌, ◌==◌, Bool, true, false, cond, ◌&&◌, ◌||◌, nat_lt, List, [], ◌∷◌, drop, map, count_by, Some, is_some, inl, inr, refl, sym, ap, ◌∙◌, subst, arith}
use Rattle.std.specs.List.{All, AllByRecursion, AllZip, insert}
use Rattle.std.proofs.lemmas.Bool.{and_parts, lt-ltb}
use Rattle.std.proofs.lemmas.List.{drop-map}
use Rattle.std.proofs.lemmas.List.Elements.{All-from_recursion, recursion_from_All}
use Rattle.rb_script_types.specs.declared.block.Block.{Block}
use Rattle.rb_book.specs.Book.{Book}
use Rattle.rb_book.specs.Intake.{placed}
use Rattle.rb_book.proofs.Rising.{count-step}
use Rattle.rb_scan.specs.Owed.{same_kind}
use Rattle.rb_scan.specs.Packet.{Packet, is_finished, is_cleared}
use Rattle.rb_scan.specs.Orders.{same_order}
use Rattle.rb_scan.specs.declared.message.Kind.{Kind}
use Rattle.rb_scan.specs.declared.message.Kind.TheVariants.{Receive, Acknowledge, Timeout}
use Rattle.rb_scan.specs.declared.message.PacketMsg.{PacketMsg}
use Rattle.rb_scan.specs.declared.path.Order.{Order}
use Rattle.rb_scan.specs.declared.path.Order.TheVariants.{Ordered, Unordered}
use Rattle.rb_plan_client.specs.Task.{Message}
use Rattle.rb_core_model.specs.Over.{is_over, over_in, gone_in, from_later, rest_of_path}
use Rattle.rb_core_model.specs.Standing.{PathState, changed_at, marked, with_mark, with_packet, mark_of, after_message, after_messages}
use Rattle.rb_core_model.proofs.Over.{AreOver, counted_over, over_counted}
use Rattle.rb_super.specs.Remains.{PacketFits, IsPathLeft}
use Rattle.rb_super.proofs.Front.{over_cleared, over_landed}
use Rattle.rb_super.proofs.Zips.{zip_changed}

over_of : (p : PathState) (n : ℕ) → n ≤ over_in p → AreOver p.config.order p.first n p.packets
over_of p n le = counted_over p.config.order p.first n p.packets le

-- ---- a packet with a mark

-- it has its sequence, and is over where it was
record KeepsOver (f : Packet → Packet) : Type 0 where
  sequence : (q : Packet) → (f q).sequence ≡ q.sequence
  over : (order : Order) (q : Packet) → is_over order q ≡ true → is_over order (f q) ≡ true

and_true : (a b : Bool) → a ≡ true → b ≡ true → (a && b) ≡ true
and_true a b e f = λ i. e i && f i

or_true : (a : Bool) → (a || true) ≡ true
or_true true = refl
or_true false = refl

-- what is finished stays so, and what is cleared
ends : (f : Packet → Packet) → ((q : Packet) → is_finished q ≡ true → is_finished (f q) ≡ true) → ((q : Packet) → is_cleared q ≡ true → is_cleared (f q) ≡ true)
    → (order : Order) (q : Packet) → is_over order q ≡ true → is_over order (f q) ≡ true
ends f finishes clears Unordered q over = clears q over
ends f finishes clears Ordered q over =
    let both = and_parts (is_finished q) (is_cleared q) over in
    and_true (is_finished (f q)) (is_cleared (f q)) (finishes q both.0) (clears q both.1)

received_over : (block : ℕ) → KeepsOver (λ q. record q { received = Some block })
received_over block = record { sequence = λ q. refl; over = ends (λ q. record q { received = Some block }) (λ q e. refl) (λ q e. e) }

written_over : (block : Block) → KeepsOver (λ q. record q { written = Some block.height; written_time = block.time })
written_over block = record { sequence = λ q. refl; over = ends (λ q. record q { written = Some block.height; written_time = block.time }) (λ q e. e) (λ q e. e) }

cleared_over : KeepsOver (λ q. record q { cleared = true })
cleared_over = record { sequence = λ q. refl; over = ends (λ q. record q { cleared = true }) (λ q e. ap (λ b. b || q.receive_settled) (or_true (is_some q.received))) (λ q e. refl) }

kind_over : (kind : Kind) → KeepsOver (mark_of kind)
kind_over Receive = record { sequence = λ q. refl; over = ends (mark_of Receive) (λ q e. or_true (is_some q.received || q.cleared)) (λ q e. e) }
kind_over Acknowledge = record { sequence = λ q. refl; over = ends (mark_of Acknowledge) (λ q e. e) (λ q e. or_true q.cleared) }
kind_over Timeout = record { sequence = λ q. refl; over = ends (mark_of Timeout) (λ q e. e) (λ q e. or_true q.cleared) }

marked_over : (f : Packet → Packet) → KeepsOver f → (sequence : ℕ) → KeepsOver (marked f sequence)
marked_over f keeps sequence = record { sequence = λ q. same q (q.sequence == sequence); over = λ order q over. still order q over (q.sequence == sequence) }
  where
    same : (q : Packet) (b : Bool) → (cond b (f q) q).sequence ≡ q.sequence
    same q true = keeps.sequence q
    same q false = refl

    still : (order : Order) (q : Packet) → is_over order q ≡ true → (b : Bool) → is_over order (cond b (f q) q) ≡ true
    still order q over true = keeps.over order q over
    still order q over false = over

all_over : (f : Packet → Packet) → KeepsOver f → (order : Order) (s n : ℕ) (qs : List Packet) → AreOver order s n qs → AreOver order s n (map f qs)
all_over f keeps order s zero qs over = tt
all_over f keeps order s (suc n) [] over = absurd over
all_over f keeps order s (suc n) (q ∷ qs) over = (keeps.sequence q ∙ over.0, keeps.over order q over.1, over.2, all_over f keeps order (s + 1) n qs over.3)

mark_left : (f : Packet → Packet) → KeepsOver f → (sequence : ℕ) (p q : PathState) → IsPathLeft p q → IsPathLeft (with_mark f sequence p) (with_mark f sequence q)
mark_left f keeps sequence p q left = record {
  went = left.went;
  over = over_counted p.config.order p.first left.went (map (marked f sequence) p.packets)
      (all_over (marked f sequence) (marked_over f keeps sequence) p.config.order p.first left.went p.packets (over_of p left.went left.over));
  is = ap (with_mark f sequence) left.is ∙ (λ i. record p { first = p.first + left.went; packets = sym (drop-map (marked f sequence) left.went p.packets) i });
}

pub received_left : (block sequence : ℕ) (p q : PathState) → IsPathLeft p q → IsPathLeft (with_mark (λ x. record x { received = Some block }) sequence p) (with_mark (λ x. record x { received = Some block }) sequence q)
received_left block = mark_left (λ x. record x { received = Some block }) (received_over block)

pub written_left : (block : Block) (sequence : ℕ) (p q : PathState) → IsPathLeft p q → IsPathLeft (with_mark (λ x. record x { written = Some block.height; written_time = block.time }) sequence p) (with_mark (λ x. record x { written = Some block.height; written_time = block.time }) sequence q)
written_left block = mark_left (λ x. record x { written = Some block.height; written_time = block.time }) (written_over block)

pub cleared_left : (sequence : ℕ) (p q : PathState) → IsPathLeft p q → IsPathLeft (with_mark (λ x. record x { cleared = true }) sequence p) (with_mark (λ x. record x { cleared = true }) sequence q)
cleared_left = mark_left (λ x. record x { cleared = true }) cleared_over

pub closed_left : (p q : PathState) → IsPathLeft p q → IsPathLeft (record p { closed = true }) (record q { closed = true })
closed_left p q left = record { went = left.went; over = left.over; is = ap (λ (x : PathState). record x { closed = true }) left.is }

-- ---- settled messages

message_left : (m : PacketMsg) (p q : PathState) → IsPathLeft p q → IsPathLeft (after_message m p) (after_message m q)
message_left m p q left = record {
  went = left.went;
  over = over_counted p.config.order p.first left.went (map (marked (mark_of m.kind) m.sequence) p.packets)
      (all_over (marked (mark_of m.kind) m.sequence) (marked_over (mark_of m.kind) (kind_over m.kind) m.sequence) p.config.order p.first left.went p.packets (over_of p left.went left.over));
  is =
      ap (after_message m) left.is
      ∙ (λ i. record p {
        first = p.first + left.went;
        packets = sym (drop-map (marked (mark_of m.kind) m.sequence) left.went p.packets) i;
        closed = p.closed || (same_kind m.kind Timeout && same_order p.config.order Ordered);
      });
}

pub messages_left : (ms : List Message) (ps qs : List PathState) → AllZip IsPathLeft ps qs → AllZip IsPathLeft (after_messages ps ms) (after_messages qs ms)
messages_left [] ps qs all = all
messages_left (m ∷ ms) ps qs all =
    messages_left ms (changed_at (after_message m.packet) ps m.path) (changed_at (after_message m.packet) qs m.path)
    (zip_changed IsPathLeft (after_message m.packet) (after_message m.packet) ps qs m.path (λ p q at_p at_q left. message_left m.packet p q left) all)

-- ---- one packet more

behind_lower : (x y : Packet) (qs : List Packet) → y.sequence < x.sequence → placed (λ (z : Packet). nat_lt z.sequence x.sequence) x (y ∷ qs) ≡ y ∷ placed (λ (z : Packet). nat_lt z.sequence x.sequence) x qs
behind_lower x y qs lt =
    let e : count_by (λ (z : Packet). nat_lt z.sequence x.sequence) (y ∷ qs) ≡ suc (count_by (λ (z : Packet). nat_lt z.sequence x.sequence) qs) =
    count-step (λ (z : Packet). nat_lt z.sequence x.sequence) y qs true (lt-ltb y.sequence x.sequence lt) ∙ omega arith in
    ap (λ n. insert (y ∷ qs) n x) e

over_placed : (order : Order) (s n : ℕ) (qs : List Packet) (x : Packet) → AreOver order s n qs → s + n ≤ x.sequence → AreOver order s n (placed (λ (z : Packet). nat_lt z.sequence x.sequence) x qs)
over_placed order s zero qs x over le = tt
over_placed order s (suc n) [] x over le = absurd over
over_placed order s (suc n) (q ∷ qs) x over le =
    let lower : q.sequence < x.sequence = omega (arith, le, over.0) in
    subst (AreOver order s (suc n)) (sym (behind_lower x q qs lower)) (over.0, over.1, over.2, over_placed order (s + 1) n qs x over.3 (omega (arith, le)))

drop_placed : (order : Order) (s n : ℕ) (qs : List Packet) (x : Packet) → AreOver order s n qs → s + n ≤ x.sequence
    → drop n (placed (λ (z : Packet). nat_lt z.sequence x.sequence) x qs) ≡ placed (λ (z : Packet). nat_lt z.sequence x.sequence) x (drop n qs)
drop_placed order s zero qs x over le = refl
drop_placed order s (suc n) [] x over le = absurd over
drop_placed order s (suc n) (q ∷ qs) x over le =
    let lower : q.sequence < x.sequence = omega (arith, le, over.0) in
    ap (drop (suc n)) (behind_lower x q qs lower) ∙ drop_placed order (s + 1) n qs x over.3 (omega (arith, le))

pub packet_left : (x : Packet) (p q : PathState) → q.first ≤ x.sequence → IsPathLeft p q → IsPathLeft (with_packet x p) (with_packet x q)
packet_left x p q above left =
    let over = over_of p left.went left.over in
    let le : p.first + left.went ≤ x.sequence = subst (λ (y : PathState). y.first ≤ x.sequence) left.is above in
    record {
      went = left.went;
      over = over_counted p.config.order p.first left.went (with_packet x p).packets (over_placed p.config.order p.first left.went p.packets x over le);
      is = ap (with_packet x) left.is ∙ (λ i. record p { first = p.first + left.went; packets = sym (drop_placed p.config.order p.first left.went p.packets x over le) i });
    }

-- ---- forgetting again

over_more : (order : Order) (s n k : ℕ) (qs : List Packet) → AreOver order s n qs → AreOver order (s + n) k (drop n qs) → AreOver order s (n + k) qs
over_more order s zero k qs over more =
    let e : s + 0 ≡ s = omega arith in
    let f : k ≡ 0 + k = omega arith in
    subst (λ j. AreOver order s j qs) f (subst (λ j. AreOver order j k qs) e more)
over_more order s (suc n) k [] over more = absurd over
over_more order s (suc n) k (q ∷ qs) over more =
    let e : s + suc n ≡ s + 1 + n = omega arith in
    let f : suc (n + k) ≡ suc n + k = omega arith in
    subst (λ j. AreOver order s j (q ∷ qs)) f (over.0, over.1, over.2, over_more order (s + 1) n k qs over.3 (subst (λ j. AreOver order j k (drop n qs)) e more))

drop_nil : {X : Type 0} (n : ℕ) → ◌≡◌ {A = List X} (drop n []) []
drop_nil zero = refl
drop_nil (suc n) = refl

drop_more : {X : Type 0} (n k : ℕ) (xs : List X) → drop k (drop n xs) ≡ drop (n + k) xs
drop_more zero k xs = (let e : k ≡ 0 + k = omega arith in ap (λ j. drop j xs) e)
drop_more (suc n) k [] = drop_nil k ∙ sym (drop_nil (suc n + k))
drop_more (suc n) k (x ∷ xs) = (let e : suc (n + k) ≡ suc n + k = omega arith in drop_more n k xs ∙ ap (λ j. drop j (x ∷ xs)) e)

pub path_left_again : (p q r : PathState) → IsPathLeft p q → IsPathLeft q r → IsPathLeft p r
path_left_again p q r one two =
    let k = two.went in
    let later : k ≤ over_in (from_later one.went p) = subst (λ (x : PathState). k ≤ over_in x) one.is two.over in
    let e : p.first + one.went + k ≡ p.first + (one.went + k) = omega arith in
    record {
      went = one.went + k;
      over = over_counted p.config.order p.first (one.went + k) p.packets
          (over_more p.config.order p.first one.went k p.packets (over_of p one.went one.over) (counted_over p.config.order (p.first + one.went) k (drop one.went p.packets) later));
      is = two.is ∙ ap (from_later k) one.is ∙ (λ i. record p { first = e i; packets = drop_more one.went k p.packets i });
    }

pub paths_again : (ps qs rs : List PathState) → AllZip IsPathLeft ps qs → AllZip IsPathLeft qs rs → AllZip IsPathLeft ps rs
paths_again [] [] rs a b = b
paths_again [] (q ∷ qs) rs a b = absurd a
paths_again (p ∷ ps) [] rs a b = absurd a
paths_again (p ∷ ps) (q ∷ qs) [] a b = absurd b
paths_again (p ∷ ps) (q ∷ qs) (r ∷ rs) a b = (path_left_again p q r a.0 b.0, paths_again ps qs rs a.1 b.1)

-- ---- nothing went, and all that is over

nothing_went : (p : PathState) → IsPathLeft p p
nothing_went p = (let e : p.first ≡ p.first + 0 = omega arith in record { went = 0; over = omega arith; is = λ i. record p { first = e i } })

pub all_there : (ps : List PathState) → AllZip IsPathLeft ps ps
all_there [] = tt
all_there (p ∷ ps) = (nothing_went p, all_there ps)

pub all_went : (ps : List PathState) → AllZip IsPathLeft ps (map rest_of_path ps)
all_went [] = tt
all_went (p ∷ ps) = (record { went = gone_in p; over = omega arith; is = refl }, all_went ps)

-- ---- what went needs nothing

pub over_fits : (source destination : ℕ) (b : Book) (order : Order) (q : Packet) → is_over order q ≡ true → PacketFits source destination b order q
over_fits source destination b order q over =
    let landed = over_landed order q over in
    record { times_out = inl landed; receive = inr (inl landed); timeout = inr (inl landed); written = inr (inl (over_cleared order q over)) }

fit_behind : (source destination : ℕ) (b : Book) (order : Order) (s n : ℕ) (qs : List Packet) → AreOver order s n qs → AllByRecursion (PacketFits source destination b order) (drop n qs)
    → AllByRecursion (PacketFits source destination b order) qs
fit_behind source destination b order s zero qs over all = all
fit_behind source destination b order s (suc n) [] over all = tt
fit_behind source destination b order s (suc n) (q ∷ qs) over all =
    (over_fits source destination b order q over.1, fit_behind source destination b order (s + 1) n qs over.3 all)

pub all_fit_behind : (source destination : ℕ) (b : Book) (p : PathState) (n : ℕ) → n ≤ over_in p → All (PacketFits source destination b p.config.order) (drop n p.packets)
    → All (PacketFits source destination b p.config.order) p.packets
all_fit_behind source destination b p n le all =
    All-from_recursion (PacketFits source destination b p.config.order) p.packets
    (fit_behind source destination b p.config.order p.first n p.packets (over_of p n le) (recursion_from_All (PacketFits source destination b p.config.order) (drop n p.packets) all))
