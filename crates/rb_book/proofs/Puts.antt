-- What is put into a book that refuses nothing of it: there is room, it makes the book that the definition says, and that is a book.
use Rattle.std.proofs.Common.{◌≡◌, ℕ, ◌<◌, cond, List, Option, Some, None, is_some, length, count_by, refl, sym, ap, ◌∙◌, subst, inl, inr}
use Rattle.std.specs.Prelude.{◌⊎◌}
use Rattle.std.specs.List.{insert}
use Rattle.rb_valset.specs.Validator.{Member}
use Rattle.rb_valset.specs.ValidatorSet.{set_hash}
use Rattle.rb_book.specs.Header.{Record, Header}
use Rattle.rb_book.specs.Book.{RecordAt, Book, is_at, is_below, header_is_at, header_is_below, has_hash, is_before, set_of, record_at, header_at, max_sets}
use Rattle.rb_book.specs.Invariant.{IsBook, IsBacked}
use Rattle.rb_book.specs.Intake.{set_refusal, record_refusal, header_refusal, with_record, with_header, with_set, after_set, after_record, after_header}
use Rattle.rb_book.specs.Search.{IsNewPlace}
use Rattle.rb_book.proofs.Lists.{found_holds}
use Rattle.rb_book.proofs.Kept.{free_beside, room_beside, no_record}
use Rattle.rb_book.proofs.FewHeaders.{room_for_header}
use Rattle.rb_book.proofs.Additions.{if_new, record_known_or_fits, header_accepts, stays_a_book}

-- ---- a set
pub set_put : (b : Book) (set : List Member) (place : ℕ) → IsNewPlace (has_hash (set_hash set)) (is_before (set_hash set)) b.sets place
    → record b { sets = insert b.sets place set } ≡ after_set b set
set_put b set place new =
    ap (λ (i : ℕ). record b { sets = insert b.sets i set }) new.after ∙ sym (if_new (set_of b (set_hash set)) b (with_set b set) new.absent)

pub set_room : (b : Book) (set : List Member) (place : ℕ) → IsNewPlace (has_hash (set_hash set)) (is_before (set_hash set)) b.sets place
    → set_refusal b set ≡ None → length b.sets < max_sets
set_room b set place new f = (room_beside (set_of b (set_hash set)) b set new.absent f).room

-- ---- a record
pub record_put : (b : Book) (height : ℕ) (r : Record) (k : RecordAt) (place : ℕ) → IsNewPlace (is_at height) (is_below height) b.records place
    → k ≡ record { height = height; record_of = r } → record b { records = insert b.records place k } ≡ after_record b height r
record_put b height r k place new is =
    ap (λ (x : RecordAt). record b { records = insert b.records place x }) is
    ∙ ap (λ (i : ℕ). record b { records = insert b.records i (record { height = height; record_of = r }) }) new.after
    ∙ sym (if_new (record_at b height) b (with_record b height r) (no_record b height new.absent))

pub record_room : (b : Book) (height : ℕ) (r : Record) (place : ℕ) → IsNewPlace (is_at height) (is_below height) b.records place
    → record_refusal b height r ≡ None → length b.records < b.limit
record_room b height r place new f = (free_beside (record_at b height) b height r (no_record b height new.absent) f).room

-- ---- a header
-- the record of a header that isn't refused isn't refused
pub record_accepted : (b : Book) (h : Header) → IsBook b → header_refusal b h ≡ None → record_refusal b h.height h.record_of ≡ None
record_accepted b h i f = by ((header_accepts b h).0 f).1
  where
    by : (header_at b h.height ≡ Some h) ⊎ ((header_at b h.height ≡ None) × (record_refusal b h.height h.record_of ≡ None)) → record_refusal b h.height h.record_of ≡ None
    by (inl known) =
        (record_known_or_fits (record_at b h.height) b h.height h.record_of).1
        (inl (found_holds (IsBacked b) (header_is_at h.height) b.headers h i.backed known).recorded)
    by (inr new) = new.1

same_headers : (b : Book) (height : ℕ) (r : Record) (o : Option Record) → (cond (is_some o) b (with_record b height r)).headers ≡ b.headers
same_headers b height r None = refl
same_headers b height r (Some s) = refl

module _ (b c : Book) (h : Header) (place : ℕ) (i : IsBook b) (f : header_refusal b h ≡ None) (is : c ≡ after_record b h.height h.record_of)
    (new : IsNewPlace (header_is_at h.height) (header_is_below h.height) b.headers place) where
  -- the header is put beside its record
  pub header_put : record c { headers = insert c.headers place h } ≡ after_header b h
  header_put =
      let d = after_record b h.height h.record_of in
      let same : d.headers ≡ b.headers = same_headers b h.height h.record_of (record_at b h.height) in
      ap (λ (x : Book). record x { headers = insert x.headers place h }) is
      ∙ ap (λ (n : ℕ). record d { headers = insert d.headers n h }) (new.after ∙ ap (count_by (header_is_below h.height)) (sym same))
      ∙ sym (if_new (header_at b h.height) b (with_header d h) new.absent)

  pub header_put_is_book : IsBook (record c { headers = insert c.headers place h })
  header_put_is_book = subst IsBook (sym header_put) ((stays_a_book b i).2 h f)

  pub header_room : length c.headers < c.limit
  header_room =
      let d = after_record b h.height h.record_of in
      let same : d.headers ≡ b.headers = same_headers b h.height h.record_of (record_at b h.height) in
      let at : place ≡ count_by (header_is_below h.height) c.headers = new.after ∙ ap (count_by (header_is_below h.height)) (sym (ap (λ (x : Book). x.headers) is ∙ same)) in
      room_for_header c h c.records (subst IsBook (sym is) ((stays_a_book b i).1 h.height h.record_of (record_accepted b h i f)))
      (subst (λ (n : ℕ). IsBook (record c { headers = insert c.headers n h })) at header_put_is_book)
