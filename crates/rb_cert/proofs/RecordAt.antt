-- What a view's book knows of the steps that its client accepts.
use Rattle.std.proofs.Common.{◌≡◌, ℕ, ◌<◌, List, length, find, ap, sym, ◌∙◌, refl, subst, arith, Option, Some, None, slice_get}
use Rattle.std.specs.List.{AllPairs, Contains}
use Rattle.std.specs.Option.{IsSomeAnd, option_map}
use Rattle.std.proofs.lemmas.List.Elements.{All-contains}
use Rattle.std.proofs.lemmas.List.Kept.{AllPairs-from_increasing}
use Rattle.std.proofs.lemmas.Option.{none-some, same_Some, slice_get_within}
use Rattle.rb_book.specs.Book.{RecordAt, Book, height_of, header_height, is_at, record_at, header_at}
use Rattle.rb_book.specs.Header.{Record, Header}
use Rattle.rb_book.specs.Invariant.{IsBacked}
use Rattle.rb_step.specs.KnownStep.{step_at}
use Rattle.rb_step.specs.StepRule.{Step, AcceptsWithin}
use Rattle.rb_step.specs.View.{View, IsView, client_of}
use Rattle.rb_step.proofs.Orderly.{bind_some}
use Rattle.rb_plan_types.proofs.Lookups.{find-some, pairs_from_increasing}
use Rattle.rb_plan_types.proofs.Tops.{stored_of_view}
use Rattle.rb_cert.specs.Places.{IsPlaceOf}
use Rattle.rb_cert.proofs.Rising.{at_place, one_place}

pub client_stores : (v : View) (h : ℕ) → Contains v.stored h → Contains (client_of v).stored h
client_stores v h there = subst (λ (xs : List ℕ). Contains xs h) (sym (stored_of_view v)) there

pub view_stores : (v : View) (h : ℕ) → Contains (client_of v).stored h → Contains v.stored h
view_stores v h there = subst (λ (xs : List ℕ). Contains xs h) (stored_of_view v) there

pub records_rise : (v : View) → IsView v → AllPairs (λ a b. height_of a < height_of b) v.book.records
records_rise v view = pairs_from_increasing height_of v.book.records view.book.records.heights

pub headers_rise : (v : View) → IsView v → AllPairs (λ a b. header_height a < header_height b) v.book.headers
headers_rise v view = pairs_from_increasing header_height v.book.headers view.book.headers

pub stored_rise : (v : View) → IsView v → AllPairs (λ a b. a < b) v.stored
stored_rise v view = AllPairs-from_increasing v.stored view.stored.rising

-- a record that a look-up finds has a place
place_found : (b : Book) (h : ℕ) (r : Record) → record_at b h ≡ Some r → (p : ℕ) × IsPlaceOf b.records h p
place_found b h r is = go (find (is_at h) b.records) refl
  where
    go : (o : Option RecordAt) → find (is_at h) b.records ≡ o → (p : ℕ) × IsPlaceOf b.records h p
    go None e = absurd (none-some r (sym (ap (option_map (λ (k : RecordAt). k.record_of)) e) ∙ is))
    go (Some k) e =
        let found : Contains b.records k × (height_of k ≡ h) = find-some height_of b.records h k e in
        let place : (p : ℕ) × (slice_get b.records p ≡ Some k) = at_place b.records k found.0 in
        (place.0, (k, place.1, found.1))

-- and each height has one place at most, and each place one height
pub one_height : (b : Book) (h k p : ℕ) → IsPlaceOf b.records h p → IsPlaceOf b.records k p → h ≡ k
one_height b h k p (x, at, e) (y, at', e') = sym e ∙ ap height_of (same_Some x y (sym at ∙ at')) ∙ e'

pub one_place_of : (v : View) → IsView v → (h p q : ℕ) → IsPlaceOf v.book.records h p → IsPlaceOf v.book.records h q → q ≡ p
one_place_of v view h p q (x, at, e) (y, at', e') = one_place height_of v.book.records (records_rise v view) p q x y at at' (e' ∙ sym e)

pub place_within : (v : View) → IsView v → (h p : ℕ) → IsPlaceOf v.book.records h p → p < 4096
place_within v view h p (x, at, e) = let l : p < length v.book.records = slice_get_within v.book.records p x at in omega (arith, view.book.few_records, view.book.limit.1)

-- record and header of a step that is accepted
record AreKnown (b : Book) (t h : ℕ) : Type 0 where
  trusted : Record
  header : Header
  trusted_is : record_at b t ≡ Some trusted
  header_is : header_at b h ≡ Some header

known_of : (v : View) (t h : ℕ) → (client_of v).Accepts t h → AreKnown v.book t h
unfolding client_of step_at
known_of v t h accepted = go (step_at v.book t h) refl accepted
  where
    go : (o : Option Step) → step_at v.book t h ≡ o → IsSomeAnd o (AcceptsWithin v.options v.window) → AreKnown v.book t h
    go None e never = absurd never
    go (Some s) e throughout =
        let first = bind_some (record_at v.book t) _ s e in
        let second = bind_some (header_at v.book h) _ s first.2 in
        record { trusted = first.0; header = second.0; trusted_is = first.1; header_is = second.1 }

pub trusted_place : (v : View) (t h : ℕ) → (client_of v).Accepts t h → (p : ℕ) × IsPlaceOf v.book.records t p
trusted_place v t h accepted = let known = known_of v t h accepted in place_found v.book t known.trusted known.trusted_is

pub header_of : (v : View) (t h : ℕ) → (client_of v).Accepts t h → (x : Header) × Contains v.book.headers x × (header_height x ≡ h)
header_of v t h accepted =
    let known = known_of v t h accepted in
    let found : Contains v.book.headers known.header × (header_height known.header ≡ h) = find-some header_height v.book.headers h known.header known.header_is in
    (known.header, found.0, found.1)

pub height_place : (v : View) → IsView v → (t h : ℕ) → (client_of v).Accepts t h → (p : ℕ) × IsPlaceOf v.book.records h p
height_place v view t h accepted = go (header_of v t h accepted)
  where
    go : (x : Header) × Contains v.book.headers x × (header_height x ≡ h) → (p : ℕ) × IsPlaceOf v.book.records h p
    go (x, there, e) =
        let backed : IsBacked v.book x = All-contains (IsBacked v.book) v.book.headers x view.book.backed there in
        place_found v.book h x.record_of (ap (record_at v.book) (sym e) ∙ backed.recorded)
