-- laws of what a path owes
use Rattle.std.specs.Prelude.{◌≡◌, ◌≢◌, ℕ, ◌<◌, ◌≤◌, ◌||◌, nat_lt, Bool, true, false, All, Some, None, [], ◌∷◌, ◌++◌, length, map, List}
use Rattle.std.specs.List.{range_with_len}
use Rattle.rb_scan.specs.Packet.{Packet}
use Rattle.rb_scan.specs.Path.{Path, IsPath}
use Rattle.rb_scan.specs.Going.{going}
use Rattle.rb_scan.specs.Owed.{message_of, is_done_at, next_sequence, messages, ready}
use Rattle.rb_scan.specs.declared.path.Order.{Order}
use Rattle.rb_scan.specs.declared.path.Order.TheVariants.{Ordered, Unordered}
use Rattle.rb_scan.specs.declared.message.Kind.{Kind}
use Rattle.rb_scan.specs.declared.message.Kind.TheVariants.{Receive, Timeout}
use Rattle.rb_scan.specs.declared.message.PacketMsg.{PacketMsg}

-- whether no message of a kind is waited for at a sequence: it is below the first, or its packet is done
abbrev pub is_passed : Path → Kind → ℕ → Bool
is_passed path kind s = nat_lt s path.first || is_done_at path kind s

-- the next sequence of a kind is the least at which a message of that kind is waited for
abbrev pub NextIsLeast : Type 0
NextIsLeast =
    (path : Path) (kind : Kind) → IsPath path
    → (is_passed path kind (next_sequence path kind) ≡ false)
    × ((s : ℕ) → s < next_sequence path kind → is_passed path kind s ≡ true)

-- a packet whose receive is settled is owed no receive and no timeout, and one whose acknowledgement or timeout is
-- settled is owed nothing
abbrev pub SettledIsNotOwed : Type 0
SettledIsNotOwed =
    (records : List (ℕ × ℕ)) (p : Packet)
    → (p.receive_settled ≡ true → (message_of records Receive p ≡ None) × (message_of records Timeout p ≡ None))
    × (p.outcome_settled ≡ true → (kind : Kind) → message_of records kind p ≡ None)

-- an ORDERED path that owes a timeout owes no receive
abbrev pub TimeoutReplacesReceives : Type 0
TimeoutReplacesReceives = (path : Path) → path.order ≡ Ordered → messages path Timeout ≢ [] → messages path Receive ≡ []

-- what is ready is within reach
abbrev pub ReadyIsWithinReach : Type 0
ReadyIsWithinReach =
    (ms : List PacketMsg) (order : Order) (reach : ℕ) → All (λ (m : PacketMsg). m.floor ≤ reach) (ready ms order (Some reach))

-- the ready receives of an ORDERED path stand in consecutive sequences, from the next one on
abbrev pub ReadyReceivesAreConsecutive : Type 0
ReadyReceivesAreConsecutive =
    (path : Path) (reach : ℕ) → path.order ≡ Ordered
    → let kept = ready (messages path Receive) Ordered (Some reach)
    in map (λ (m : PacketMsg). m.sequence) kept ≡ range_with_len (next_sequence path Receive) (length kept)

-- so do those of the receives that go
abbrev pub GoingReceivesAreConsecutive : Type 0
GoingReceivesAreConsecutive =
    (path : Path) (can : PacketMsg → Bool) (reach : ℕ) → path.order ≡ Ordered
    → let kept = ready (going Ordered can (messages path Receive)) Ordered (Some reach)
    in map (λ (m : PacketMsg). m.sequence) kept ≡ range_with_len (next_sequence path Receive) (length kept)

-- a message is ready after those that stand before it: its floor is within reach and, in an ORDERED run, where it is no
-- timeout, so is each earlier floor of its kind
abbrev pub IsReadyAfter : Order → ℕ → List PacketMsg → PacketMsg → Type 0
IsReadyAfter Unordered reach earlier m = m.floor ≤ reach
IsReadyAfter Ordered reach earlier m =
    (m.floor ≤ reach) × (m.kind ≢ Timeout → All (λ (e : PacketMsg). e.kind ≡ m.kind → e.floor ≤ reach) earlier)

-- of no message none is kept; each further one is kept, after those that are kept of the earlier ones, exactly where it
-- is ready after them
abbrev pub ReadyIsAllBefore : Type 0
ReadyIsAllBefore =
    (order : Order) (reach : ℕ) (earlier : List PacketMsg) (m : PacketMsg)
    → (ready [] order (Some reach) ≡ [])
    × ((IsReadyAfter order reach earlier m → ready (earlier ++ m ∷ []) order (Some reach) ≡ ready earlier order (Some reach) ++ m ∷ [])
    × ((¬ IsReadyAfter order reach earlier m) → ready (earlier ++ m ∷ []) order (Some reach) ≡ ready earlier order (Some reach)))

-- at any height from the greatest floor of the ready messages up to the reach the same messages are ready
abbrev pub AllGoAlong : Type 0
AllGoAlong =
    (ms : List PacketMsg) (order : Order) (proof reach : ℕ) → proof ≤ reach
    → All (λ (m : PacketMsg). m.floor ≤ proof) (ready ms order (Some reach)) → ready ms order (Some proof) ≡ ready ms order (Some reach)
