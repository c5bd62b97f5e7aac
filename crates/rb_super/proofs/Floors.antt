-- On an ORDERED path no message is owed whose floor lies below, where its packets fit what went.
use Rattle.std.proofs.Common.{◌≡◌, ℕ, ◌+◌, ◌<◌, ◌≤◌, ◌⊎◌, Bool, true, false, cond, not, ◌&&◌, eqb, min, nat_le, List, [], Option, Some, None, inl, inr, refl, sym, ap, ◌∙◌, subst, arith, if◌then◌else◌}
use Rattle.std.specs.List.{All, AllByRecursion, find}
use Rattle.std.specs.Option.{IfSome, option_map}
use Rattle.std.proofs.lemmas.Bool.{and_parts, cases_lt, lt-leb, true≢false}
use Rattle.std.proofs.lemmas.List.Elements.{All-map}
use Rattle.std.proofs.lemmas.Option.{none-some, same_Some}
use Rattle.rb_base.specs.declared.gate.Part.{Part}
use Rattle.rb_base.specs.declared.gate.Part.TheVariants.{Packets, Channel}
use Rattle.rb_book.specs.Book.{Book, RecordAt, height_of, time_of, heights_and_times_of}
use Rattle.rb_book.proofs.Lists.{found_holds, found_passes}
use Rattle.rb_scan.specs.Expiry.{has_come, is_height_expired, is_time_expired, is_expired, height_floor, time_floor, lesser, timeout_floor}
use Rattle.rb_scan.specs.Owed.{floor_of, expires_for, since_for, timeout_for, message_of, messages, open_messages, owed_part}
use Rattle.rb_scan.specs.Packet.{Packet, is_cleared, is_in_flight}
use Rattle.rb_scan.specs.Path.{Path}
use Rattle.rb_scan.specs.declared.message.Kind.{Kind}
use Rattle.rb_scan.specs.declared.message.Kind.TheVariants.{Receive, Acknowledge, Timeout}
use Rattle.rb_scan.specs.declared.message.PacketMsg.{PacketMsg}
use Rattle.rb_scan.specs.declared.path.Order.TheVariants.{Ordered, Unordered}
use Rattle.rb_core_model.proofs.Owed.{owed_all, append_all}
use Rattle.rb_super.specs.Remains.{IsAfterGone, PacketFits}

either : (a b : Option ℕ) (n : ℕ) → lesser a b ≡ Some n → (a ≡ Some n) ⊎ (b ≡ Some n)
either None b n e = inr e
either (Some a) None n e = inl e
either (Some a) (Some b) n e = go (cases_lt a b)
  where
    is : min a b ≡ n
    is = same_Some (min a b) n e

    go : (a < b) ⊎ (b ≤ a) → (Some a ≡ Some n) ⊎ (Some b ≡ Some n)
    go (inl lt) = (let one : min a b ≡ a = omega arith in inl (ap (λ x. Some x) (sym one ∙ is)))
    go (inr le) = (let one : min a b ≡ b = omega arith in inr (ap (λ x. Some x) (sym one ∙ is)))

map_some : {X Y : Type 0} (f : X → Y) (o : Option X) (y : Y) → option_map f o ≡ Some y → (x : X) × (o ≡ Some x) × (f x ≡ y)
map_some f None y e = absurd (none-some y e)
map_some f (Some x) y e = (x, refl, same_Some (f x) y e)

if_some : {X : Type 0} (P : X → Type 0) (o : Option X) (x : X) → o ≡ Some x → IfSome o P → P x
if_some P o x e p = subst (λ q. IfSome q P) e p

some_if : {X : Type 0} (P : X → Type 0) (o : Option X) → ((x : X) → o ≡ Some x → P x) → IfSome o P
some_if P None h = tt
some_if P (Some x) h = h x refl

-- what a test lets through
let_through : {X : Type 0} (b : Bool) (o : Option X) (x : X) → cond b o None ≡ Some x → (b ≡ true) × (o ≡ Some x)
let_through true o x e = (refl, e)
let_through false o x e = absurd (none-some x e)

kept_out : {X : Type 0} (b : Bool) (o : Option X) (x : X) → cond b None o ≡ Some x → (b ≡ false) × (o ≡ Some x)
kept_out true o x e = absurd (none-some x e)
kept_out false o x e = (refl, e)

abbrev at_of : RecordAt → ℕ × ℕ
at_of k = (height_of k, time_of k)

module _ (source m : ℕ) (b : Book) (q : Packet) (fits : PacketFits source m b Ordered q) where
  receive_floor : (f : ℕ) → floor_of (heights_and_times_of b) Receive q ≡ Some f → source ≤ f
  receive_floor f e = go fits.receive
    where
      on : ((is_in_flight q && not (is_expired (heights_and_times_of b) q)) ≡ true) × (Some (q.sent + 1) ≡ Some f)
      on = let_through (is_in_flight q && not (is_expired (heights_and_times_of b) q)) (Some (q.sent + 1)) f e

      go : (Ordered ≡ Unordered) ⊎ ((is_in_flight q ≡ false) ⊎ (source ≤ q.sent + 1)) → source ≤ f
      go (inl wrong) = absurd (cc)
      go (inr (inl landed)) = absurd (true≢false (sym (and_parts (is_in_flight q) (not (is_expired (heights_and_times_of b) q)) on.0).0 ∙ landed))
      go (inr (inr le)) = subst (λ n. source ≤ n) (same_Some (q.sent + 1) f on.1) le

  written_floor : (f : ℕ) → floor_of (heights_and_times_of b) Acknowledge q ≡ Some f → m ≤ f
  written_floor f e = go fits.written
    where
      on : (is_cleared q ≡ false) × (option_map (λ (block : ℕ). block + 1) q.written ≡ Some f)
      on = kept_out (is_cleared q) (option_map (λ (block : ℕ). block + 1) q.written) f e

      go : (Ordered ≡ Unordered) ⊎ ((is_cleared q ≡ true) ⊎ IfSome q.written (λ block. m ≤ block + 1)) → m ≤ f
      go (inl wrong) = absurd (cc)
      go (inr (inl cleared)) = absurd (true≢false (sym cleared ∙ on.0))
      go (inr (inr le)) =
          let block = map_some (λ (block : ℕ). block + 1) q.written f on.1 in
          subst (λ n. m ≤ n) block.2 (if_some (λ block. m ≤ block + 1) q.written block.0 block.1 le)

  timeout_low : (f : ℕ) → floor_of (heights_and_times_of b) Timeout q ≡ Some f → m ≤ f
  timeout_low f e = go fits.timeout fits.times_out
    where
      on : ((is_in_flight q && is_expired (heights_and_times_of b) q) ≡ true) × (timeout_floor (heights_and_times_of b) q ≡ Some f)
      on = let_through (is_in_flight q && is_expired (heights_and_times_of b) q) (timeout_floor (heights_and_times_of b) q) f e

      flying : is_in_flight q ≡ true
      flying = (and_parts (is_in_flight q) (is_expired (heights_and_times_of b) q) on.0).0

      by_time : (limit : Option ℕ) → IfSome limit (IsAfterGone m b) → (r : ℕ × ℕ) → find (λ (x : ℕ × ℕ). has_come limit (Some x.1)) (heights_and_times_of b) ≡ Some r → m ≤ r.0
      by_time None late r at = absurd (true≢false (sym (found_passes (λ (x : ℕ × ℕ). has_come None (Some x.1)) (heights_and_times_of b) r at)))
      by_time (Some limit) late r at = decide (cases_lt r.0 m)
        where
          early : r.0 < m → r.1 < limit
          early =
              found_holds (λ (x : ℕ × ℕ). x.0 < m → x.1 < limit) (λ (x : ℕ × ℕ). has_come (Some limit) (Some x.1)) (heights_and_times_of b) r
              (All-map (λ (x : ℕ × ℕ). x.0 < m → x.1 < limit) at_of b.records late) at

          decide : (r.0 < m) ⊎ (m ≤ r.0) → m ≤ r.0
          decide (inr le) = le
          decide (inl lt) =
              let comes : nat_le limit r.1 ≡ true = found_passes (λ (x : ℕ × ℕ). has_come (Some limit) (Some x.1)) (heights_and_times_of b) r at in
              absurd (true≢false (sym comes ∙ lt-leb limit r.1 (early lt)))

      go : (Ordered ≡ Unordered) ⊎ ((is_in_flight q ≡ false) ⊎ IfSome q.timeout_height (λ h. m ≤ h)) → (is_in_flight q ≡ false) ⊎ IfSome q.timeout_time (IsAfterGone m b) → m ≤ f
      go (inl wrong) times = absurd (cc)
      go (inr (inl landed)) times = absurd (true≢false (sym flying ∙ landed))
      go (inr (inr high)) (inl landed) = absurd (true≢false (sym flying ∙ landed))
      go (inr (inr high)) (inr late) = by_floor (either (height_floor (heights_and_times_of b) q) (time_floor (heights_and_times_of b) q) f on.1)
        where
          by_floor : (height_floor (heights_and_times_of b) q ≡ Some f) ⊎ (time_floor (heights_and_times_of b) q ≡ Some f) → m ≤ f
          by_floor (inl at) = if_some (λ h. m ≤ h) q.timeout_height f (let_through (is_height_expired (heights_and_times_of b) q) q.timeout_height f at).1 high
          by_floor (inr at) =
              let found = let_through (is_time_expired (heights_and_times_of b) q) (option_map (λ (r : ℕ × ℕ). r.0) (find (λ (r : ℕ × ℕ). has_come q.timeout_time (Some r.1)) (heights_and_times_of b))) f at in
              let record_at = map_some (λ (r : ℕ × ℕ). r.0) (find (λ (r : ℕ × ℕ). has_come q.timeout_time (Some r.1)) (heights_and_times_of b)) f found.1 in
              subst (λ n. m ≤ n) record_at.2 (by_time q.timeout_time late record_at.0 record_at.1)

-- the chain's height for a part of a path: the source's for receives, the destination's for the others
abbrev pub side : ℕ → ℕ → Part → ℕ
side source m Packets = source
side source m Channel = m

module _ (source m : ℕ) (b : Book) (v : Path) (over : v.destination ≡ heights_and_times_of b) (ordered : v.order ≡ Ordered) where
  floor_in : (n : ℕ) (kind : Kind) (q : Packet) → ((f : ℕ) → floor_of v.destination kind q ≡ Some f → n ≤ f) → IfSome (message_of v.destination kind q) (λ (x : PacketMsg). n ≤ x.floor)
  floor_in n kind q low =
      some_if (λ (x : PacketMsg). n ≤ x.floor) (message_of v.destination kind q)
      (λ x e.
      let from = map_some (λ (floor : ℕ). record { kind = kind; sequence = q.sequence; floor = floor; expires = expires_for kind q; since = since_for kind q; timeout = timeout_for kind q }) (floor_of v.destination kind q) x e in
      subst (λ (y : PacketMsg). n ≤ y.floor) from.2 (low from.0 from.1))

  of_kind : (n : ℕ) (kind : Kind) → ((q : Packet) → PacketFits source m b Ordered q → (f : ℕ) → floor_of v.destination kind q ≡ Some f → n ≤ f)
      → (v.closed ≡ true) ⊎ All (PacketFits source m b Ordered) v.packets → AllByRecursion (λ (x : PacketMsg). n ≤ x.floor) (messages v kind)
  of_kind n kind low (inl closed) =
      subst (AllByRecursion (λ (x : PacketMsg). n ≤ x.floor)) (sym (ap (λ (b : Bool). if b then [] else open_messages v.order v kind) closed)) tt
  of_kind n kind low (inr all) =
      owed_all (λ (x : PacketMsg). n ≤ x.floor) v kind
      (λ q e. floor_in n kind q (low q (found_holds (PacketFits source m b Ordered) (λ (p : Packet). eqb p.sequence q.sequence) v.packets q all e)))
      (λ other. absurd (no_both (sym ordered ∙ other)))
    where
      no_both : Ordered ≡ Unordered → ⊥
      no_both e = cc

  back : (q : Packet) (kind : Kind) (f : ℕ) → floor_of v.destination kind q ≡ Some f → floor_of (heights_and_times_of b) kind q ≡ Some f
  back q kind f e = ap (λ (rs : List (ℕ × ℕ)). floor_of rs kind q) (sym over) ∙ e

  pub floors_owed : (part : Part) → (v.closed ≡ true) ⊎ All (PacketFits source m b Ordered) v.packets → AllByRecursion (λ (x : PacketMsg). side source m part ≤ x.floor) (owed_part v part)
  floors_owed Packets fits = of_kind source Receive (λ q fit f e. receive_floor source m b q fit f (back q Receive f e)) fits
  floors_owed Channel fits =
      append_all (λ (x : PacketMsg). m ≤ x.floor) (messages v Acknowledge) (messages v Timeout)
      (of_kind m Acknowledge (λ q fit f e. written_floor source m b q fit f (back q Acknowledge f e)) fits)
      (of_kind m Timeout (λ q fit f e. timeout_low source m b q fit f (back q Timeout f e)) fits)
