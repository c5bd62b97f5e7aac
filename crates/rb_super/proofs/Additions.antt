-- What a light store and what is left of it both take in, is left.
use Rattle.std.proofs.Common.{◌≡◌, ℕ, ◌<◌, ◌≤◌, ◌⊎◌, ◌==◌, Bool, true, false, cond, List, [], Option, Some, None, is_some, inl, inr, refl, sym, ap, ◌∙◌, subst, arith}
use Rattle.std.specs.List.{find, slice_get}
use Rattle.std.specs.Option.{IfSome, IsSomeAnd}
use Rattle.std.proofs.lemmas.Bool.{eqb-false, lt-ltb}
use Rattle.std.proofs.lemmas.List.Elements.{All-weaker}
use Rattle.rb_valset.specs.Validator.{Member}
use Rattle.rb_valset.specs.ValidatorSet.{set_hash}
use Rattle.rb_book.specs.Header.{Record, Header}
use Rattle.rb_book.specs.Book.{Book, RecordAt, height_of, header_height, is_at, is_below, header_is_below, has_hash, set_of, record_at, header_at}
use Rattle.rb_book.specs.Intake.{placed, with_set, with_record, with_header, after_set, after_record, after_header}
use Rattle.std.proofs.lemmas.Slice.Eq.{bytes_eq-Decides}
use Rattle.rb_book.proofs.Kept.{option_map_none, set_here, set_elsewhere}
use Rattle.rb_book.proofs.Lists.{none_passes, All-insert}
use Rattle.std.specs.List.{count_by}
use Rattle.rb_super.specs.Left.{IsBookLeft}
use Rattle.rb_super.proofs.Books.{record_here, header_here}
use Rattle.rb_super.proofs.LeftLists.{left_placed, first_placed, first_of_all}

-- ---- records and headers

module _ (m : ℕ) (b c : Book) (left : IsBookLeft m b c) where
  -- where nothing is known at a height, and something went, the height is above the one from which all is left
  higher : (h : ℕ) → m ≤ h → find (is_at h) c.records ≡ None → (k : RecordAt) → slice_get c.records 0 ≡ Some k → height_of k ≡ m → height_of k < h
  higher h le unknown k e at =
      let differs : (height_of k == h) ≡ false = first_of_all (λ x. is_at h x ≡ false) c.records k (none_passes (is_at h) c.records unknown) e in
      let no : height_of k ≡ h → ⊥ = eqb-false (height_of k) h differs in
      let other : m ≡ h → ⊥ = λ x. no (at ∙ x) in
      omega arith

  first_stays : (h : ℕ) (r : RecordAt) → m ≤ h → find (is_at h) c.records ≡ None → (o : Option RecordAt) → slice_get c.records 0 ≡ o
      → IsSomeAnd o (λ (k : RecordAt). height_of k ≡ m) → IsSomeAnd (slice_get (placed (is_below h) r c.records) 0) (λ (k : RecordAt). height_of k ≡ m)
  first_stays h r le unknown None e at = absurd at
  first_stays h r le unknown (Some k) e at =
      subst (λ o. IsSomeAnd o (λ (k : RecordAt). height_of k ≡ m))
      (sym (first_placed (is_below h) r k c.records e (lt-ltb (height_of k) h (higher h le unknown k e at)))) at

  record_left : (h : ℕ) (r : Record) → m ≤ h → find (is_at h) c.records ≡ None → set_of b r.next ≡ set_of c r.next → IsBookLeft m (with_record b h r) (with_record c h r)
  record_left h r le unknown next = record {
    limit = left.limit;
    records = left_placed height_of m b.records c.records left.records (is_below h) at_h (λ y lt. lt-ltb (height_of y) h (omega arith)) le;
    headers = left.headers;
    first = go left.first;
    sets = left.sets;
    next = All-insert (λ (k : RecordAt). set_of b k.record_of.next ≡ set_of c k.record_of.next) c.records (count_by (is_below h) c.records) at_h next left.next;
    own = left.own;
  }
    where
      at_h : RecordAt
      at_h = record { height = h; record_of = r }

      go : (left.records.gone ≡ []) ⊎ IsSomeAnd (slice_get c.records 0) (λ (k : RecordAt). height_of k ≡ m)
          → (left.records.gone ≡ []) ⊎ IsSomeAnd (slice_get (placed (is_below h) (record { height = h; record_of = r }) c.records) 0) (λ (k : RecordAt). height_of k ≡ m)
      go (inl none) = inl none
      go (inr at) = inr (first_stays h (record { height = h; record_of = r }) le unknown (slice_get c.records 0) refl at)

  pub record_kept : (h : ℕ) (r : Record) → m ≤ h → set_of b r.next ≡ set_of c r.next → IsBookLeft m (after_record b h r) (after_record c h r)
  record_kept h r le next = go (record_at c h) refl
    where
      same : (x y : Book) (o : Option Record) → o ≡ record_at c h → IsBookLeft m (cond (is_some o) b x) (cond (is_some o) c y) → IsBookLeft m (cond (is_some (record_at b h)) b x) (cond (is_some (record_at c h)) c y)
      same x y o e is =
          subst (λ (p : Option Record). IsBookLeft m (cond (is_some p) b x) (cond (is_some (record_at c h)) c y)) (sym (record_here m b c left h le))
          (subst (λ (p : Option Record). IsBookLeft m (cond (is_some p) b x) (cond (is_some p) c y)) e is)

      go : (o : Option Record) → record_at c h ≡ o → IsBookLeft m (after_record b h r) (after_record c h r)
      go (Some known) e = same (with_record b h r) (with_record c h r) (Some known) (sym e) left
      go None e =
          same (with_record b h r) (with_record c h r) None (sym e)
          (record_left h r le (option_map_none (λ (k : RecordAt). k.record_of) (find (is_at h) c.records) e) next)

  header_left : (h : Header) → m ≤ h.height → set_of b h.set_hash ≡ set_of c h.set_hash → IsBookLeft m (with_header b h) (with_header c h)
  header_left h le own = record {
    limit = left.limit;
    records = left.records;
    headers = left_placed header_height m b.headers c.headers left.headers (header_is_below h.height) h (λ y lt. lt-ltb (header_height y) h.height (omega arith)) le;
    first = left.first;
    sets = left.sets;
    next = left.next;
    own = All-insert (λ (k : Header). set_of b k.set_hash ≡ set_of c k.set_hash) c.headers (count_by (header_is_below h.height) c.headers) h own left.own;
  }

sets_stay : (b : Book) (h : ℕ) (r : Record) (hash : List ℕ) → set_of (after_record b h r) hash ≡ set_of b hash
sets_stay b h r hash = go (record_at b h)
  where
    go : (o : Option Record) → set_of (cond (is_some o) b (with_record b h r)) hash ≡ set_of b hash
    go None = refl
    go (Some known) = refl

module _ (m : ℕ) (b c : Book) (left : IsBookLeft m b c) where
  pub header_kept : (h : Header) → m ≤ h.height → set_of b h.set_hash ≡ set_of c h.set_hash → set_of b h.record_of.next ≡ set_of c h.record_of.next
      → IsBookLeft m (after_header b h) (after_header c h)
  header_kept h le own next = go (header_at c h.height) refl
    where
      with_both : IsBookLeft m (with_header (after_record b h.height h.record_of) h) (with_header (after_record c h.height h.record_of) h)
      with_both =
          header_left m (after_record b h.height h.record_of) (after_record c h.height h.record_of) (record_kept m b c left h.height h.record_of le next) h le
          (sets_stay b h.height h.record_of h.set_hash ∙ own ∙ sym (sets_stay c h.height h.record_of h.set_hash))

      same : (x y : Book) (o : Option Header) → o ≡ header_at c h.height → IsBookLeft m (cond (is_some o) b x) (cond (is_some o) c y) → IsBookLeft m (cond (is_some (header_at b h.height)) b x) (cond (is_some (header_at c h.height)) c y)
      same x y o e is =
          subst (λ (p : Option Header). IsBookLeft m (cond (is_some p) b x) (cond (is_some (header_at c h.height)) c y)) (sym (header_here m b c left h.height le))
          (subst (λ (p : Option Header). IsBookLeft m (cond (is_some p) b x) (cond (is_some p) c y)) e is)

      go : (o : Option Header) → header_at c h.height ≡ o → IsBookLeft m (after_header b h) (after_header c h)
      go (Some known) e = same _ _ (Some known) (sym e) left
      go None e = same _ _ None (sym e) with_both

-- ---- sets

set_eta : (b : Book) (set : List Member) → after_set b set ≡ record b { sets = (after_set b set).sets }
set_eta b set = go (set_of b (set_hash set))
  where
    go : (o : Option (List Member)) → cond (is_some o) b (with_set b set) ≡ record b { sets = (cond (is_some o) b (with_set b set)).sets }
    go None = refl
    go (Some known) = refl

if_some_same : {X : Type 0} (t : Bool) (x : X) (o p : Option X) → IfSome o (λ y. p ≡ Some y) → IfSome (cond t (Some x) o) (λ y. cond t (Some x) p ≡ Some y)
if_some_same true x o p same = refl
if_some_same false x o p same = same

-- the set is new, or was there
abbrev pub IsNewOrSame : Book → List Member → Type 0
IsNewOrSame b set = (set_of b (set_hash set) ≡ None) ⊎ (set_of b (set_hash set) ≡ Some set)

set_found : (b : Book) (set : List Member) → IsNewOrSame b set → (hash : List ℕ) → set_of (after_set b set) hash ≡ cond (has_hash hash set) (Some set) (set_of b hash)
set_found b set (inr same) hash =
    ap (λ o. set_of (cond (is_some o) b (with_set b set)) hash) same ∙ go (has_hash hash set) refl
  where
    go : (t : Bool) → has_hash hash set ≡ t → set_of b hash ≡ cond t (Some set) (set_of b hash)
    go true e = ap (set_of b) (sym ((bytes_eq-Decides (set_hash set) hash).0 e)) ∙ same
    go false e = refl
set_found b set (inl new) hash =
    ap (λ o. set_of (cond (is_some o) b (with_set b set)) hash) new ∙ go (has_hash hash set) refl
  where
    go : (t : Bool) → has_hash hash set ≡ t → set_of (with_set b set) hash ≡ cond t (Some set) (set_of b hash)
    go true e = ap (set_of (with_set b set)) (sym ((bytes_eq-Decides (set_hash set) hash).0 e)) ∙ set_here b set new
    go false e = set_elsewhere b set hash e

module _ (m : ℕ) (b c : Book) (left : IsBookLeft m b c) (set : List Member) (in_b : IsNewOrSame b set) (in_c : IsNewOrSame c set) where
  found_b : (hash : List ℕ) → set_of (after_set b set) hash ≡ cond (has_hash hash set) (Some set) (set_of b hash)
  found_b hash = set_found b set in_b hash

  found_c : (hash : List ℕ) → set_of (after_set c set) hash ≡ cond (has_hash hash set) (Some set) (set_of c hash)
  found_c hash = set_found c set in_c hash

  same_after : (hash : List ℕ) → set_of b hash ≡ set_of c hash → set_of (after_set b set) hash ≡ set_of (after_set c set) hash
  same_after hash e = found_b hash ∙ ap (cond (has_hash hash set) (Some set)) e ∙ sym (found_c hash)

  sets_after : (hash : List ℕ) → IfSome (set_of (after_set c set) hash) (λ x. set_of (after_set b set) hash ≡ Some x)
  sets_after hash =
      subst (λ (o : Option (List Member)). IfSome o (λ x. set_of (after_set b set) hash ≡ Some x)) (sym (found_c hash))
      (subst (λ (p : Option (List Member)). IfSome (cond (has_hash hash set) (Some set) (set_of c hash)) (λ x. p ≡ Some x)) (sym (found_b hash))
      (if_some_same (has_hash hash set) set (set_of c hash) (set_of b hash) (left.sets hash)))

  with_sets : IsBookLeft m (record b { sets = (after_set b set).sets }) (record c { sets = (after_set c set).sets })
  with_sets = record {
    limit = left.limit;
    records = left.records;
    headers = left.headers;
    first = left.first;
    sets = sets_after;
    next = All-weaker (λ (k : RecordAt). set_of b k.record_of.next ≡ set_of c k.record_of.next) (λ (k : RecordAt). set_of (after_set b set) k.record_of.next ≡ set_of (after_set c set) k.record_of.next)
        (λ k e. same_after k.record_of.next e) c.records left.next;
    own = All-weaker (λ (h : Header). set_of b h.set_hash ≡ set_of c h.set_hash) (λ (h : Header). set_of (after_set b set) h.set_hash ≡ set_of (after_set c set) h.set_hash)
        (λ h e. same_after h.set_hash e) c.headers left.own;
  }

  pub set_kept : IsBookLeft m (after_set b set) (after_set c set)
  set_kept =
      subst (λ (x : Book). IsBookLeft m x (after_set c set)) (sym (set_eta b set))
      (subst (λ (y : Book). IsBookLeft m (record b { sets = (after_set b set).sets }) y) (sym (set_eta c set)) with_sets)
