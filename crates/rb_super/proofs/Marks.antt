-- What happens to packets leaves what went no nearer.
use Rattle.std.proofs.Common.{◌≡◌, ℕ, zero, suc, ◌+◌, ◌≤◌, ◌==◌, ◌⊎◌, Bool, true, false, cond, not, ◌&&◌, ◌||◌, List, [], ◌∷◌, map, set, Option, Some, None, is_some, inl, inr, refl, sym, ap, subst}
use Rattle.std.specs.List.{AllByRecursion, slice_get}
use Rattle.std.specs.Option.{IfSome, option_map_or}
use Rattle.std.proofs.lemmas.Bool.{true≢false}
use Rattle.std.proofs.lemmas.List.Elements.{All-from_recursion, recursion_from_All}
use Rattle.rb_script_types.specs.declared.block.Block.{Block}
use Rattle.rb_book.specs.Book.{Book}
use Rattle.rb_book.proofs.Lists.{All-insert}
use Rattle.rb_scan.specs.Owed.{same_kind}
use Rattle.rb_scan.specs.Packet.{Packet, is_finished, is_cleared, is_in_flight}
use Rattle.rb_scan.specs.Orders.{same_order}
use Rattle.rb_scan.specs.declared.message.Kind.{Kind}
use Rattle.rb_scan.specs.declared.message.Kind.TheVariants.{Receive, Acknowledge, Timeout}
use Rattle.rb_scan.specs.declared.message.PacketMsg.{PacketMsg}
use Rattle.rb_scan.specs.declared.path.Order.{Order}
use Rattle.rb_scan.specs.declared.path.Order.TheVariants.{Ordered, Unordered}
use Rattle.rb_plan_client.specs.Task.{Message}
use Rattle.rb_core_model.specs.Standing.{PathState, book_at, changed_at, marked, with_mark, with_packet, mark_of, after_message, after_messages}
use Rattle.rb_core_model.proofs.Marks.{all_at}
use Rattle.rb_super.specs.Remains.{IsAfterGone, PacketFits, PathFits}

-- ---- a packet with a mark

-- it has landed where it had, and is cleared where it was
record OnlyEnds (f : Packet → Packet) : Type 0 where
  sent : (q : Packet) → (f q).sent ≡ q.sent
  by_height : (q : Packet) → (f q).timeout_height ≡ q.timeout_height
  by_time : (q : Packet) → (f q).timeout_time ≡ q.timeout_time
  lands : (q : Packet) → is_in_flight q ≡ false → is_in_flight (f q) ≡ false
  clears : (q : Packet) → is_cleared q ≡ true → is_cleared (f q) ≡ true

fits_marked : (source m : ℕ) (b : Book) (order : Order) (f : Packet → Packet) → OnlyEnds f → (q : Packet)
    → ((order ≡ Unordered) ⊎ ((is_cleared q ≡ true) ⊎ IfSome q.written (λ block. m ≤ block + 1)) → (order ≡ Unordered) ⊎ ((is_cleared (f q) ≡ true) ⊎ IfSome (f q).written (λ block. m ≤ block + 1)))
    → PacketFits source m b order q → PacketFits source m b order (f q)
fits_marked source m b order f ends q written fits = record {
  times_out = times fits.times_out;
  receive = receives fits.receive;
  timeout = heights fits.timeout;
  written = written fits.written;
}
  where
    times : (is_in_flight q ≡ false) ⊎ IfSome q.timeout_time (IsAfterGone m b) → (is_in_flight (f q) ≡ false) ⊎ IfSome (f q).timeout_time (IsAfterGone m b)
    times (inl landed) = inl (ends.lands q landed)
    times (inr late) = inr (subst (λ o. IfSome o (IsAfterGone m b)) (sym (ends.by_time q)) late)

    receives : (order ≡ Unordered) ⊎ ((is_in_flight q ≡ false) ⊎ (source ≤ q.sent + 1)) → (order ≡ Unordered) ⊎ ((is_in_flight (f q) ≡ false) ⊎ (source ≤ (f q).sent + 1))
    receives (inl unordered) = inl unordered
    receives (inr (inl landed)) = inr (inl (ends.lands q landed))
    receives (inr (inr le)) = inr (inr (subst (λ n. source ≤ n + 1) (sym (ends.sent q)) le))

    heights : (order ≡ Unordered) ⊎ ((is_in_flight q ≡ false) ⊎ IfSome q.timeout_height (λ h. m ≤ h)) → (order ≡ Unordered) ⊎ ((is_in_flight (f q) ≡ false) ⊎ IfSome (f q).timeout_height (λ h. m ≤ h))
    heights (inl unordered) = inl unordered
    heights (inr (inl landed)) = inr (inl (ends.lands q landed))
    heights (inr (inr high)) = inr (inr (subst (λ o. IfSome o (λ h. m ≤ h)) (sym (ends.by_height q)) high))

-- a mark that doesn't touch the acknowledgement
same_written : (source m : ℕ) (b : Book) (order : Order) (f : Packet → Packet) → OnlyEnds f → ((q : Packet) → (f q).written ≡ q.written) → (q : Packet)
    → PacketFits source m b order q → PacketFits source m b order (f q)
same_written source m b order f ends same q fits = fits_marked source m b order f ends q go fits
  where
    go : (order ≡ Unordered) ⊎ ((is_cleared q ≡ true) ⊎ IfSome q.written (λ block. m ≤ block + 1)) → (order ≡ Unordered) ⊎ ((is_cleared (f q) ≡ true) ⊎ IfSome (f q).written (λ block. m ≤ block + 1))
    go (inl unordered) = inl unordered
    go (inr (inl cleared)) = inr (inl (ends.clears q cleared))
    go (inr (inr high)) = inr (inr (subst (λ o. IfSome o (λ block. m ≤ block + 1)) (sym (same q)) high))

-- ---- which marks are such

or_true : (a b : Bool) → b ≡ true → (a || b) ≡ true
or_true true b e = refl
or_true false b e = e

-- where the receive is finished, or the packet is cleared, it is not in flight
landed : (finished cleared : Bool) → (finished ≡ true) ⊎ (cleared ≡ true) → not (finished || cleared) ≡ false
landed true cleared one = refl
landed false true one = refl
landed false false (inl e) = absurd (true≢false (sym e))
landed false false (inr e) = absurd (true≢false (sym e))

ended : (finished cleared : Bool) → not (finished || cleared) ≡ false → (finished ≡ true) ⊎ (cleared ≡ true)
ended true cleared e = inl refl
ended false true e = inr refl
ended false false e = absurd (true≢false e)

received_ends : (block : ℕ) → OnlyEnds (λ q. record q { received = Some block })
received_ends block = record { sent = λ q. refl; by_height = λ q. refl; by_time = λ q. refl; lands = λ q e. refl; clears = λ q e. e }

written_ends : (block : Block) → OnlyEnds (λ q. record q { written = Some block.height; written_time = block.time })
written_ends block = record { sent = λ q. refl; by_height = λ q. refl; by_time = λ q. refl; lands = λ q e. e; clears = λ q e. e }

cleared_ends : OnlyEnds (λ q. record q { cleared = true })
cleared_ends = record {
  sent = λ q. refl;
  by_height = λ q. refl;
  by_time = λ q. refl;
  lands = λ q e. landed (is_some q.received || true || q.receive_settled) true (inr refl);
  clears = λ q e. refl;
}

received_by_us : OnlyEnds (λ q. record q { receive_settled = true })
received_by_us = record {
  sent = λ q. refl;
  by_height = λ q. refl;
  by_time = λ q. refl;
  lands = λ q e. landed (is_some q.received || q.cleared || true) (is_cleared q) (inl (or_true (is_some q.received || q.cleared) true refl));
  clears = λ q e. e;
}

outcome_by_us : OnlyEnds (λ q. record q { outcome_settled = true })
outcome_by_us = record {
  sent = λ q. refl;
  by_height = λ q. refl;
  by_time = λ q. refl;
  lands = λ q e. landed (is_finished q) (q.cleared || true) (inr (or_true q.cleared true refl));
  clears = λ q e. or_true q.cleared true refl;
}

kind_ends : (kind : Kind) → OnlyEnds (mark_of kind)
kind_ends Receive = received_by_us
kind_ends Acknowledge = outcome_by_us
kind_ends Timeout = outcome_by_us

kind_written : (kind : Kind) (q : Packet) → (mark_of kind q).written ≡ q.written
kind_written Receive q = refl
kind_written Acknowledge q = refl
kind_written Timeout q = refl

-- ---- a path

map_all : {X : Type 0} (P : X → Type 0) (f : X → X) → ((x : X) → P x → P (f x)) → (xs : List X) → AllByRecursion P xs → AllByRecursion P (map f xs)
map_all P f keeps [] all = tt
map_all P f keeps (x ∷ xs) all = (keeps x all.0, map_all P f keeps xs all.1)

one_marked : (P : Packet → Type 0) (f : Packet → Packet) → ((q : Packet) → P q → P (f q)) → (sequence : ℕ) (q : Packet) → P q → P (marked f sequence q)
one_marked P f keeps sequence q p = go (q.sequence == sequence)
  where
    go : (t : Bool) → P (cond t (f q) q)
    go true = keeps q p
    go false = p

module _ (m : ℕ → ℕ) (books : List Book) where
  abbrev Fits : PathState → Packet → Type 0
  Fits p q = PacketFits (m p.config.source) (m p.config.destination) (book_at books p.config.destination) p.config.order q

  mark_fits : (f : Packet → Packet) (sequence : ℕ) (p : PathState) → ((q : Packet) → Fits p q → Fits p (f q)) → PathFits m books p → PathFits m books (with_mark f sequence p)
  mark_fits f sequence p keeps (inl closed) = inl closed
  mark_fits f sequence p keeps (inr all) =
      inr (All-from_recursion (Fits p) (map (marked f sequence) p.packets)
      (map_all (Fits p) (marked f sequence) (one_marked (Fits p) f keeps sequence) p.packets (recursion_from_All (Fits p) p.packets all)))

  pub received_fits : (block sequence : ℕ) (p : PathState) → PathFits m books p → PathFits m books (with_mark (λ q. record q { received = Some block }) sequence p)
  received_fits block sequence p fits = mark_fits (λ q. record q { received = Some block }) sequence p (same_written _ _ _ p.config.order _ (received_ends block) (λ q. refl)) fits

  pub cleared_fits : (sequence : ℕ) (p : PathState) → PathFits m books p → PathFits m books (with_mark (λ q. record q { cleared = true }) sequence p)
  cleared_fits sequence p fits = mark_fits (λ q. record q { cleared = true }) sequence p (same_written _ _ _ p.config.order _ cleared_ends (λ q. refl)) fits

  pub written_fits : (block : Block) (sequence : ℕ) (p : PathState) → (p.config.order ≡ Unordered) ⊎ (m p.config.destination ≤ block.height + 1) → PathFits m books p
      → PathFits m books (with_mark (λ q. record q { written = Some block.height; written_time = block.time }) sequence p)
  written_fits block sequence p high fits =
      mark_fits (λ q. record q { written = Some block.height; written_time = block.time }) sequence p (λ q. fits_marked _ _ _ p.config.order (λ q. record q { written = Some block.height; written_time = block.time }) (written_ends block) q (λ old. go q high)) fits
    where
      go : (q : Packet) → (p.config.order ≡ Unordered) ⊎ (m p.config.destination ≤ block.height + 1)
          → (p.config.order ≡ Unordered) ⊎ ((is_cleared q ≡ true) ⊎ (m p.config.destination ≤ block.height + 1))
      go q (inl unordered) = inl unordered
      go q (inr le) = inr (inr le)

  pub closed_fits : (p : PathState) → PathFits m books (record p { closed = true })
  closed_fits p = inl refl

  pub sent_fits : (q : Packet) (p : PathState) → Fits p q → PathFits m books p → PathFits m books (with_packet q p)
  sent_fits q p fits (inl closed) = inl closed
  sent_fits q p fits (inr all) = inr (All-insert (Fits p) p.packets _ q fits all)

  message_fits : (x : PacketMsg) (p : PathState) → PathFits m books p → PathFits m books (after_message x p)
  message_fits x p fits = go fits (mark_fits (mark_of x.kind) x.sequence p (same_written _ _ _ p.config.order _ (kind_ends x.kind) (kind_written x.kind)) fits)
    where
      go : PathFits m books p → PathFits m books (with_mark (mark_of x.kind) x.sequence p) → PathFits m books (after_message x p)
      go (inl closed) with_it = inl (ap (λ (b : Bool). b || (same_kind x.kind Timeout && same_order p.config.order Ordered)) closed)
      go (inr all) (inl closed) = inl (ap (λ (b : Bool). b || (same_kind x.kind Timeout && same_order p.config.order Ordered)) closed)
      go (inr all) (inr with_it) = inr with_it

  set_all : (P : PathState → Type 0) (ps : List PathState) (k : ℕ) (p : PathState) → P p → AllByRecursion P ps → AllByRecursion P (set ps k p)
  set_all P [] k p new all = tt
  set_all P (x ∷ ps) zero p new all = (new, all.1)
  set_all P (x ∷ ps) (suc k) p new all = (all.0, set_all P ps k p new all.1)

  at_all : (P : PathState → Type 0) (ps : List PathState) (k : ℕ) (p : PathState) → AllByRecursion P ps → slice_get ps k ≡ Some p → P p
  at_all P ps k p all e = all_at P ps k p all e

  pub changed_fit : (f : PathState → PathState) (ps : List PathState) (k : ℕ) → ((p : PathState) → slice_get ps k ≡ Some p → PathFits m books p → PathFits m books (f p))
      → AllByRecursion (PathFits m books) ps → AllByRecursion (PathFits m books) (changed_at f ps k)
  changed_fit f ps k keeps all = go (slice_get ps k) refl
    where
      go : (o : Option PathState) → slice_get ps k ≡ o → AllByRecursion (PathFits m books) (option_map_or (λ x. set ps k (f x)) o ps)
      go None e = all
      go (Some p) e = set_all (PathFits m books) ps k (f p) (keeps p e (at_all (PathFits m books) ps k p all e)) all

  pub messages_fit : (ms : List Message) (ps : List PathState) → AllByRecursion (PathFits m books) ps → AllByRecursion (PathFits m books) (after_messages ps ms)
  messages_fit [] ps all = all
  messages_fit (x ∷ ms) ps all = messages_fit ms (changed_at (after_message x.packet) ps x.path) (changed_fit (after_message x.packet) ps x.path (λ p e fits. message_fits x.packet p fits) all)
