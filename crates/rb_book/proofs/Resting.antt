-- What is left of a light store from a height on is a light store again.
use Rattle.std.proofs.Common.{◌≡◌, ℕ, zero, suc, ◌<◌, ◌≤◌, Bool, true, false, cond, ◌||◌, ◌&&◌, List, [], ◌∷◌, length, map, Option, Some, None, refl, sym, ap, ◌∙◌, arith}
use Rattle.std.specs.List.{All, AllByRecursion, Contains, filter, find, list_any, slice_index_or}
use Rattle.std.specs.List.Sorted.{IsStrictlyIncreasing}
use Rattle.std.specs.Option.{option_map}
use Rattle.std.specs.Set.{unique_keys, is_member}
use Rattle.std.specs.Str.{bytes_eq}
use Rattle.std.proofs.lemmas.Bool.{eqb-true, le-leb, leb-true, true≢false, false≢true}
use Rattle.std.proofs.lemmas.Cmp.{nat_list_eq_equiv}
use Rattle.std.proofs.lemmas.List.Elements.{All-contains_itself, All-filter, All-weaker, filter_passes}
use Rattle.std.proofs.lemmas.List.Kept.{AllPairs-filter}
use Rattle.std.proofs.lemmas.List.Sums.{length-filter, count_by-le-length}
use Rattle.std.proofs.lemmas.Map.Made.{length-le_from_is_member}
use Rattle.std.proofs.lemmas.Option.{none-some, same_Some}
use Rattle.std.proofs.lemmas.Slice.Eq.{bytes_eq-Decides}
use Rattle.rb_valset.specs.Validator.{Member, has_address}
use Rattle.rb_valset.specs.ValidatorSet.{IsValidatorSet, set_hash}
use Rattle.rb_book.specs.Header.{Record, Header}
use Rattle.rb_book.specs.Book.{Book, RecordAt, height_of, time_of, header_height, is_at, has_hash, is_before, set_of, record_at, is_known_address, addresses_of, address_count}
use Rattle.rb_book.specs.Invariant.{IsBook, IsBacked, AreAddressesOf}
use Rattle.rb_book.specs.Rest.{is_from, header_is_from, is_named_from, is_left, rest_of_book}
use Rattle.rb_book.proofs.AddressCount.{distinct-unique, known-addresses, member-unique}
use Rattle.rb_book.proofs.Lists.{found_passes}
use Rattle.rb_book.proofs.Rising.{Up, Up-from_increasing, increasing_from_up}

-- ---- look-ups in a filter

-- what is found is found in the filter, if it passes
pub found_kept : {X : Type 0} (p q : X → Bool) (xs : List X) (x : X) → find p xs ≡ Some x → q x ≡ true → find p (filter q xs) ≡ Some x
found_kept p q [] x e t = absurd (none-some x e)
found_kept {X} p q (y ∷ ys) x e t = go (found_kept p q ys x) (p y) refl e (q y) refl
  where
    go : (find p ys ≡ Some x → q x ≡ true → find p (filter q ys) ≡ Some x) → (b : Bool) → p y ≡ b → cond b (Some y) (find p ys) ≡ Some x → (c : Bool) → q y ≡ c → find p (cond c (y ∷ filter q ys) (filter q ys)) ≡ Some x
    go rest true f e true g = ap (λ b. cond b (Some y) (find p (filter q ys))) f ∙ e
    go rest true f e false g = absurd (true≢false (sym t ∙ sym (ap q (same_Some y x e)) ∙ g))
    go rest false f e true g = ap (λ b. cond b (Some y) (find p (filter q ys))) f ∙ rest e t
    go rest false f e false g = rest e t

pub none_kept : {X : Type 0} (p q : X → Bool) (xs : List X) → find p xs ≡ None → find p (filter q xs) ≡ None
none_kept p q [] e = refl
none_kept {X} p q (y ∷ ys) e = go (none_kept p q ys) (p y) refl e (q y)
  where
    go : (find p ys ≡ None → find p (filter q ys) ≡ None) → (b : Bool) → p y ≡ b → cond b (Some y) (find p ys) ≡ None → (c : Bool) → find p (cond c (y ∷ filter q ys) (filter q ys)) ≡ None
    go rest true f e c = absurd (none-some y (sym e))
    go rest false f e true = ap (λ b. cond b (Some y) (find p (filter q ys))) f ∙ rest e
    go rest false f e false = rest e

pub any_in : {X : Type 0} (p : X → Bool) (xs : List X) (x : X) → Contains xs x → p x ≡ true → list_any p xs ≡ true
any_in p [] x (k, lt, e) t = absurd (omega arith)
any_in p (y ∷ ys) x (zero, lt, e) t = ap (λ b. b || list_any p ys) (ap p e ∙ t)
any_in p (y ∷ ys) x (suc k, lt, e) t = ap (λ b. p y || b) (any_in p ys x (k, omega arith, e) t) ∙ or_true (p y)
  where
    or_true : (b : Bool) → (b || true) ≡ true
    or_true true = refl
    or_true false = refl

-- ---- fewer addresses

any_filter : {X : Type 0} (p q : X → Bool) (xs : List X) → list_any p (filter q xs) ≡ true → list_any p xs ≡ true
any_filter p q [] e = e
any_filter {X} p q (x ∷ xs) e = go (any_filter p q xs) (q x) e (p x) refl
  where
    go : (list_any p (filter q xs) ≡ true → list_any p xs ≡ true) → (c : Bool) → list_any p (cond c (x ∷ filter q xs) (filter q xs)) ≡ true → (b : Bool) → p x ≡ b → (b || list_any p xs) ≡ true
    go rest c e true f = refl
    go rest true e false f = rest (sym (ap (λ b. b || list_any p (filter q xs)) f) ∙ e)
    go rest false e false f = rest e

pub any_fewer : (q : List Member → Bool) (ss : List (List Member)) (a : List ℕ) → is_known_address (filter q ss) a ≡ true → is_known_address ss a ≡ true
any_fewer q ss a e = any_filter (list_any (has_address a)) q ss e

pub fewer_addresses : (q : List Member → Bool) (ss : List (List Member)) → address_count (filter q ss) ≤ address_count ss
fewer_addresses q ss =
    length-le_from_is_member nat_list_eq_equiv (unique_keys bytes_eq (addresses_of (filter q ss))) (unique_keys bytes_eq (addresses_of ss)) (distinct-unique (addresses_of (filter q ss)))
    (λ a e. member-unique (addresses_of ss) a ∙ known-addresses ss a ∙ any_filter (list_any (has_address a)) q ss (sym (known-addresses (filter q ss) a) ∙ sym (member-unique (addresses_of (filter q ss)) a) ∙ e))

fewer : {X : Type 0} (q : X → Bool) (xs : List X) → length (filter q xs) ≤ length xs
fewer q xs = (let e = length-filter q xs in let le = count_by-le-length q xs in omega arith)

-- numbers that rise do so in a filter
up_filter : {X : Type 0} (R : X → X → Type 0) (q : X → Bool) (xs : List X) → Up R xs → Up R (filter q xs)
up_filter R q [] up = tt
up_filter {X} R q (x ∷ xs) up = go (q x) (up_filter R q xs up.1)
  where
    all_filter : (ys : List X) → AllByRecursion (R x) ys → AllByRecursion (R x) (filter q ys)
    all_filter [] all = tt
    all_filter (y ∷ ys) all = step (q y) (all_filter ys all.1)
      where
        step : (b : Bool) → AllByRecursion (R x) (filter q ys) → AllByRecursion (R x) (cond b (y ∷ filter q ys) (filter q ys))
        step true rest = (all.0, rest)
        step false rest = rest

    go : (b : Bool) → Up R (filter q xs) → Up R (cond b (x ∷ filter q xs) (filter q xs))
    go true rest = (all_filter xs up.0, rest)
    go false rest = rest

increasing_filter : {X : Type 0} (f : X → ℕ) (q : X → Bool) (xs : List X) → IsStrictlyIncreasing (map f xs) → IsStrictlyIncreasing (map f (filter q xs))
increasing_filter f q xs rising = increasing_from_up f (filter q xs) (up_filter (λ x y. f x < f y) q xs (Up-from_increasing f xs rising))

-- ---- a light store

pub mapped : {X Y : Type 0} (f : X → Y) (o : Option X) (y : Y) → option_map f o ≡ Some y → (x : X) × (o ≡ Some x)
mapped f None y e = absurd (none-some y e)
mapped f (Some x) y e = (x, refl)

pub or_left : (a b : Bool) → a ≡ true → (a || b) ≡ true
or_left true b e = refl
or_left false b e = absurd (false≢true e)

pub or_right : (a b : Bool) → b ≡ true → (a || b) ≡ true
or_right true b e = refl
or_right false b e = e

module _ (m : ℕ) (b : Book) (book : IsBook b) where
  -- what something that is left names is found as before
  pub set_stays : (hash : List ℕ) → is_named_from m b.records b.headers hash ≡ true → set_of b hash ≡ set_of (rest_of_book m b) hash
  set_stays hash named = go (set_of b hash) refl
    where
      go : (o : Option (List Member)) → set_of b hash ≡ o → set_of b hash ≡ set_of (rest_of_book m b) hash
      go None e = e ∙ sym (none_kept (has_hash hash) (is_left m b.records b.headers) b.sets e)
      go (Some x) e =
          let same : set_hash x ≡ hash = (bytes_eq-Decides (set_hash x) hash).0 (found_passes (has_hash hash) b.sets x e) in
          let stays : is_left m b.records b.headers x ≡ true =
          or_left (is_named_from m b.records b.headers (set_hash x)) _ (ap (is_named_from m b.records b.headers) same ∙ named) in
          e ∙ sym (found_kept (has_hash hash) (is_left m b.records b.headers) b.sets x e stays)

  pub next_stays : All (λ (k : RecordAt). set_of b k.record_of.next ≡ set_of (rest_of_book m b) k.record_of.next) (filter (is_from m) b.records)
  next_stays =
      All-weaker (Contains (filter (is_from m) b.records)) (λ (k : RecordAt). set_of b k.record_of.next ≡ set_of (rest_of_book m b) k.record_of.next)
      (λ k has. set_stays k.record_of.next
      (or_left (list_any (λ (j : RecordAt). bytes_eq j.record_of.next k.record_of.next) (filter (is_from m) b.records)) _
      (any_in (λ (j : RecordAt). bytes_eq j.record_of.next k.record_of.next) (filter (is_from m) b.records) k has ((bytes_eq-Decides k.record_of.next k.record_of.next).1 refl))))
      (filter (is_from m) b.records) (All-contains_itself (filter (is_from m) b.records))

  pub own_stays : All (λ (h : Header). set_of b h.set_hash ≡ set_of (rest_of_book m b) h.set_hash) (filter (header_is_from m) b.headers)
  own_stays =
      All-weaker (Contains (filter (header_is_from m) b.headers)) (λ (h : Header). set_of b h.set_hash ≡ set_of (rest_of_book m b) h.set_hash)
      (λ h has. set_stays h.set_hash
      (or_right (list_any (λ (j : RecordAt). bytes_eq j.record_of.next h.set_hash) (filter (is_from m) b.records)) (list_any (λ (j : Header). bytes_eq j.set_hash h.set_hash) (filter (header_is_from m) b.headers))
      (any_in (λ (j : Header). bytes_eq j.set_hash h.set_hash) (filter (header_is_from m) b.headers) h has ((bytes_eq-Decides h.set_hash h.set_hash).1 refl))))
      (filter (header_is_from m) b.headers) (All-contains_itself (filter (header_is_from m) b.headers))

  -- a record from the height on is found as before
  pub record_stays : (height : ℕ) (r : Record) → m ≤ height → record_at b height ≡ Some r → record_at (rest_of_book m b) height ≡ Some r
  record_stays height r le e =
      let k = mapped (λ (k : RecordAt). k.record_of) (find (is_at height) b.records) r e in
      let at : k.0.height ≡ height = eqb-true k.0.height height (found_passes (is_at height) b.records k.0 k.1) in
      ap (option_map (λ (k : RecordAt). k.record_of)) (found_kept (is_at height) (is_from m) b.records k.0 k.1 (le-leb m k.0.height (omega arith)))
      ∙ sym (ap (option_map (λ (k : RecordAt). k.record_of)) k.1) ∙ e

  backed_rest : All (IsBacked (rest_of_book m b)) (filter (header_is_from m) b.headers)
  backed_rest = λ k d lt.
      let h = slice_index_or (filter (header_is_from m) b.headers) k d in
      let was : IsBacked b h = All-filter (header_is_from m) (IsBacked b) b.headers book.backed k d lt in
      let high : m ≤ h.height = leb-true m h.height (filter_passes (header_is_from m) b.headers k d lt) in
      let own : set_of b h.set_hash ≡ set_of (rest_of_book m b) h.set_hash = own_stays k d lt in
      record { recorded = record_stays h.height h.record_of high was.recorded; own = (was.own.0, sym own ∙ was.own.1, was.own.2); good = was.good }

  pub rest_is_book : IsBook (rest_of_book m b)
  rest_is_book =
      let few_records = book.few_records in
      let few_sets = book.few_sets in
      let few_addresses = book.few_addresses in
      let records = fewer (is_from m) b.records in
      let sets = fewer (is_left m b.records b.headers) b.sets in
      let addresses = fewer_addresses (is_left m b.records b.headers) b.sets in
      record {
        records = record { heights = increasing_filter height_of (is_from m) b.records book.records.heights; times = increasing_filter time_of (is_from m) b.records book.records.times };
        headers = increasing_filter header_height (header_is_from m) b.headers book.headers;
        hashes = AllPairs-filter (λ (x y : List Member). is_before (set_hash y) x ≡ true) (is_left m b.records b.headers) b.sets book.hashes;
        sets = All-filter (is_left m b.records b.headers) IsValidatorSet b.sets book.sets;
        backed = backed_rest;
        limit = book.limit;
        few_records = omega arith;
        few_sets = omega arith;
        few_addresses = omega arith;
      }

-- ---- the addresses of what is left

-- the addresses that the sets have, among those that are kept
and_right : (a b : Bool) → (b ≡ true → a ≡ true) → (a && b) ≡ b
and_right true b h = refl
and_right false true h = h refl
and_right false false h = refl

pub addresses_left : (old new : List (List ℕ)) (all sets : List (List Member)) → AreAddressesOf all old
    → ((a : List ℕ) → is_known_address sets a ≡ true → is_known_address all a ≡ true)
    → ((a : List ℕ) → is_member bytes_eq new a ≡ (is_member bytes_eq old a && is_known_address sets a)) → AreAddressesOf sets new
addresses_left old new all sets are some is = λ a.
    is a ∙ ap (λ (b : Bool). b && is_known_address sets a) (are a) ∙ and_right (is_known_address all a) (is_known_address sets a) (some a)
