-- Records of a book by height and time; the greatest of floors.
use Rattle.std.proofs.Common.{◌≡◌, ◌⊎◌, ℕ, ◌+◌, ◌<◌, ◌≤◌, max, Bool, true, false, cond, List, [], ◌∷◌, map, IsSome, Option, Some, None, IsSomeAnd, refl, sym, ap, ◌∙◌, inl, inr, arith}
use Rattle.std.specs.List.{find, fold}
use Rattle.std.proofs.lemmas.Bool.{false≢true, eqb-true}
use Rattle.std.proofs.lemmas.Option.{none-some, same_Some}
use Rattle.rb_book.specs.Book.{Book, RecordAt, height_of, time_of, record_at, is_at}
use Rattle.rb_book.specs.Header.{Record}
use Rattle.rb_book.proofs.Rising.{Up}
use Rattle.rb_scan.specs.Owed.{wanted}
use Rattle.rb_scan.specs.declared.message.PacketMsg.{PacketMsg}
use Rattle.rb_step.specs.LightClient.{Client}
use Rattle.rb_plan_client.specs.Reach.{IsReach}
use Rattle.rb_plan_client.specs.Task.{Message}
use Rattle.rb_core_model.proofs.Options.{mapped}
use Rattle.rb_super.proofs.Members.{In, all_in}

-- ---- the greatest of floors

abbrev pub floors : List Message → List ℕ
floors ms = map (λ (m : PacketMsg). m.floor) (map (λ (m : Message). m.packet) ms)

raised : (a : ℕ) (ms : List Message) → (a ≤ fold max a (floors ms)) × ((m : Message) → In ms m → m.packet.floor ≤ fold max a (floors ms))
raised a [] = (omega arith, λ m h. absurd h)
raised a (x ∷ ms) =
    let rest = raised (max a x.packet.floor) ms in
    (omega (arith, rest.0), λ m h. go rest m h)
  where
    go : (max a x.packet.floor ≤ fold max (max a x.packet.floor) (floors ms)) × ((m : Message) → In ms m → m.packet.floor ≤ fold max (max a x.packet.floor) (floors ms))
        → (m : Message) → (x ≡ m) ⊎ In ms m → m.packet.floor ≤ fold max (max a x.packet.floor) (floors ms)
    go rest m (inl same) = (let one : x.packet.floor ≡ m.packet.floor = ap (λ (y : Message). y.packet.floor) same in omega (arith, rest.0, one))
    go rest m (inr there) = rest.1 m there

pub wanted_above : (ms : List Message) (m : Message) → In ms m → (h : ℕ) × (wanted (map (λ (m : Message). m.packet) ms) ≡ Some h) × ((x : Message) → In ms x → x.packet.floor ≤ h)
wanted_above [] m h = absurd h
wanted_above (x ∷ ms) m h = (fold max x.packet.floor (floors ms), refl, λ y there. go (raised x.packet.floor ms) y there)
  where
    go : (x.packet.floor ≤ fold max x.packet.floor (floors ms)) × ((m : Message) → In ms m → m.packet.floor ≤ fold max x.packet.floor (floors ms))
        → (y : Message) → (x ≡ y) ⊎ In ms y → y.packet.floor ≤ fold max x.packet.floor (floors ms)
    go all y (inl same) = (let one : x.packet.floor ≡ y.packet.floor = ap (λ (z : Message). z.packet.floor) same in omega (arith, all.0, one))
    go all y (inr there) = all.1 y there

-- ---- records

pub no_later_than : (rs : List RecordAt) → Up (λ (a b : RecordAt). height_of a < height_of b) rs → Up (λ (a b : RecordAt). time_of a < time_of b) rs → (a b : RecordAt) → In rs a → In rs b
    → height_of a ≤ height_of b → time_of a ≤ time_of b
no_later_than [] up late a b ha hb le = absurd ha
no_later_than (r ∷ rs) up late a b (inl ea) (inl eb) le = (let same : time_of a ≡ time_of b = ap time_of (sym ea ∙ eb) in omega arith)
no_later_than (r ∷ rs) up late a b (inl ea) (inr hb) le =
    (let same : time_of r ≡ time_of a = ap time_of ea in omega (arith, same, all_in (λ (x : RecordAt). time_of r < time_of x) rs b late.0 hb))
no_later_than (r ∷ rs) up late a b (inr ha) (inl eb) le =
    (let same : height_of r ≡ height_of b = ap height_of eb in absurd (omega (arith, same, all_in (λ (x : RecordAt). height_of r < height_of x) rs a up.0 ha, le)))
no_later_than (r ∷ rs) up late a b (inr ha) (inr hb) le = no_later_than rs up.1 late.1 a b ha hb le

found_record : (h : ℕ) (ks : List RecordAt) (k : RecordAt) → find (is_at h) ks ≡ Some k → In ks k × (is_at h k ≡ true)
found_record h [] k f = absurd (none-some k f)
found_record h (x ∷ ks) k f = go (is_at h x) refl f (λ g. found_record h ks k g)
  where
    go : (t : Bool) → is_at h x ≡ t → cond t (Some x) (find (is_at h) ks) ≡ Some k → (find (is_at h) ks ≡ Some k → In ks k × (is_at h k ≡ true)) → In (x ∷ ks) k × (is_at h k ≡ true)
    go true t g rest = let same = same_Some x k g in (inl same, ap (is_at h) (sym same) ∙ t)
    go false t g rest = let both = rest g in (inr both.0, both.1)

pub found_at : (b : Book) (h : ℕ) (r : Record) → record_at b h ≡ Some r → (k : RecordAt) × In b.records k × (height_of k ≡ h) × (k.record_of ≡ r)
found_at b h r e =
    let k = mapped (λ (k : RecordAt). k.record_of) (find (is_at h) b.records) r e in
    let there = found_record h b.records k.0 k.1 in
    (k.0, there.0, eqb-true (height_of k.0) h there.1, k.2)

pub some_record : (o : Option Record) → IsSome o → (r : Record) × (o ≡ Some r)
some_record None h = absurd (false≢true h)
some_record (Some r) h = (r, refl)

pub live_record : (n : ℕ) (period : ℕ) (o : Option Record) → IsSomeAnd o (λ r. n < r.time + period) → (r : Record) × (o ≡ Some r) × (n < r.time + period)
live_record n period None live = absurd live
live_record n period (Some r) live = (r, refl, live)

-- ---- the reach

pub one_reach : (client : Client) (a b : Option ℕ) → IsReach client a → IsReach client b → a ≡ b
one_reach client None None p q = refl
one_reach client None (Some n) p q = absurd (p.greatest n q.reached)
one_reach client (Some m) None p q = absurd (q.greatest m p.reached)
one_reach client (Some m) (Some n) p q = ap (λ x. Some x) (omega (arith, q.greatest m p.reached, p.greatest n q.reached))
