-- What a book has room for.
use Rattle.std.proofs.Common.{◌≡◌, ◌≢◌, ℕ, zero, suc, ◌<◌, ◌≤◌, ◌+◌, ◌⊎◌, Bool, true, false, cond, List, [], ◌∷◌, ◌++◌, length, get_or, take, filter, map, Some, None, inl, inr, refl, sym, subst, ap, ◌∙◌, arith, All, Contains}
use Rattle.std.specs.Prelude.{Any, Vec, slice_get}
use Rattle.std.specs.Global.{Global}
use Rattle.std.specs.List.Sorted.{IsStrictlyIncreasing}
use Rattle.std.proofs.lemmas.Bool.{cases_lt}
use Rattle.std.proofs.lemmas.Grind.{common_steps}
use Rattle.std.proofs.lemmas.List.{take_more}
use Rattle.std.proofs.lemmas.Option.{get_or_from_slice_get, none-some, same_Some, slice_get_read, slice_get_within}
use Rattle.std.proofs.lemmas.List.Elements.{All-nil, All-push, All-append, All-weaker, All-contains, All-contains_itself, All-map, Contains-append_left, Contains-append_right, Contains-push}
use Rattle.rb_import_setup.specs.declared.setup.ClientSetup.{ClientSetup}
use Rattle.rb_import_setup.specs.declared.setup.ImportSetup.{ImportSetup}
use Rattle.rb_import_check.specs.declared.chain.Commit.{Commit}
use Rattle.rb_import_check.specs.declared.chain.SeenChain.{SeenChain}
use Rattle.rb_import_check.specs.declared.client.SeenClient.{SeenClient}
use Rattle.rb_import_check.specs.declared.client.Stored.{Stored}
use Rattle.rb_import_check.proofs.Sorting.{wanted_more}
use Rattle.rb_import_merge.specs.Room.{AreKeptOf, AreThose, AtEachPlace, HasHeader, HasNoRoom, IsBookOf, IsKept, IsStored, is_kept, room_of}

-- ---- headers

pub header_here : (chain : SeenChain) (height i : ℕ) (c : Commit) → i < length chain.commits.items → c ≡ get_or chain.commits.items i c → c.header.now.height ≡ height → HasHeader chain height
unfolding HasHeader
header_here chain height i c small is same = (i, c, small, sym is, same)

pub no_header : (chain : SeenChain) (height : ℕ) → All (λ (c : Commit). c.header.now.height ≢ height) chain.commits.items → HasHeader chain height → ⊥
unfolding HasHeader
no_header chain height none (i, c, small, is, same) = subst (λ (x : Commit). x.header.now.height ≢ height) is (none i c small) same

pub kept_is : (chain : SeenChain) (book : List ℕ) (height : ℕ) → Contains book height ⊎ HasHeader chain height → IsKept chain book height
unfolding IsKept
kept_is chain book height w = w

-- ---- those of a list

one_more : {X : Type 0} (P Q : X → Type 0) (all those : List X) (x : X) → AreThose P Q all those → P x → AreThose P Q (all ++ x ∷ []) (those ++ x ∷ [])
one_more {X = X} P Q all those x (have, are, each) p =
    let Now : X → Type 0 = λ y. Contains (those ++ x ∷ []) y ⊎ Q y in (
      All-push P those x have p,
      All-push (Contains (all ++ x ∷ [])) those x (All-weaker (Contains all) (Contains (all ++ x ∷ [])) (λ y w. Contains-append_left all (x ∷ []) y w) those are) (Contains-push all x),
      All-push Now all x (All-weaker (λ y. Contains those y ⊎ Q y) Now (λ y w. stays y w) all each) (inl (Contains-push those x)),
    )
  where
    stays : (y : X) → Contains those y ⊎ Q y → Contains (those ++ x ∷ []) y ⊎ Q y
    stays y (inl there) = inl (Contains-append_left those (x ∷ []) y there)
    stays y (inr other) = inr other

none_more : {X : Type 0} (P Q : X → Type 0) (all those : List X) (x : X) → AreThose P Q all those → Q x → AreThose P Q (all ++ x ∷ []) those
none_more P Q all those x (have, are, each) other = (
  have,
  All-weaker (Contains all) (Contains (all ++ x ∷ [])) (λ y w. Contains-append_left all (x ∷ []) y w) those are,
  All-push (λ y. Contains those y ⊎ Q y) all x each (inr other),
)

-- of a list's first elements and one more
pub those_more : {X : Type 0} (P Q : X → Type 0) (all those after : List X) (i : ℕ) (x : X) → i < length all → x ≡ get_or all i x → AreThose P Q (take i all) those → P x → after ≡ those ++ x ∷ []
    → AreThose P Q (take (i + 1) all) after
those_more P Q all those after i x small is was p now =
    let longer : take (i + 1) all ≡ take i all ++ x ∷ [] = take_more all i x small ∙ ap (λ y. take i all ++ y ∷ []) (sym is) in
    subst (λ l. AreThose P Q l after) (sym longer) (subst (AreThose P Q (take i all ++ x ∷ [])) (sym now) (one_more P Q (take i all) those x was p))

pub those_same : {X : Type 0} (P Q : X → Type 0) (all those : List X) (i : ℕ) (x : X) → i < length all → x ≡ get_or all i x → AreThose P Q (take i all) those → Q x
    → AreThose P Q (take (i + 1) all) those
those_same P Q all those i x small is was other =
    let longer : take (i + 1) all ≡ take i all ++ x ∷ [] = take_more all i x small ∙ ap (λ y. take i all ++ y ∷ []) (sym is) in
    subst (λ l. AreThose P Q l those) (sym longer) (none_more P Q (take i all) those x was other)

append_nil : {X : Type 0} (xs : List X) → xs ++ [] ≡ xs
append_nil [] = refl
append_nil (x ∷ xs) = ap (λ l. x ∷ l) (append_nil xs)

-- the same of those that pass a test, in their order
pub kept_more : {X : Type 0} (p : X → Bool) (those after all : List X) (i : ℕ) (x : X) → i < length all → x ≡ get_or all i x → p x ≡ true → those ≡ filter p (take i all) → after ≡ those ++ x ∷ []
    → after ≡ filter p (take (i + 1) all)
kept_more p those after all i x small is passes was now = wanted_more p [] those after all i x small is was (now ∙ ap (λ b. those ++ cond b (x ∷ []) []) (sym passes))

pub kept_same : {X : Type 0} (p : X → Bool) (those all : List X) (i : ℕ) (x : X) → i < length all → x ≡ get_or all i x → p x ≡ false → those ≡ filter p (take i all)
    → those ≡ filter p (take (i + 1) all)
kept_same p those all i x small is fails was = wanted_more p [] those those all i x small is was (sym (append_nil those) ∙ ap (λ b. those ++ cond b (x ∷ []) []) (sym fails))

-- ---- the heights that clients have stored

abbrev pub height_of : Stored → ℕ
height_of s = s.state.now.height

-- a client that tracks the chain at a place, one of the first so many, has stored a record of this height
abbrev pub StoredBefore : ℕ → ImportSetup → List SeenClient → ℕ → ℕ → Type 0
StoredBefore n setup clients place height =
    (i : ℕ) × (c : ClientSetup) × (seen : SeenClient) × (i < n) × (slice_get setup.clients.items i ≡ Some c) × (slice_get clients i ≡ Some seen)
    × (c.tracks ≡ place) × Any (λ (s : Stored). s.state.now.height ≡ height) seen.stored.items

-- these are the heights that the first so many clients have stored
unfoldable pub AreStoredBefore : ℕ → ImportSetup → List SeenClient → ℕ → List ℕ → Type 0
AreStoredBefore n setup clients place heights =
    All (IsStored setup clients place) heights × ((h : ℕ) → StoredBefore n setup clients place h → Contains heights h)

in_heights : (h : ℕ) (stored : List Stored) → Any (λ (s : Stored). s.state.now.height ≡ h) stored → Contains (map height_of stored) h
in_heights h [] (k, s, small, is, same) = absurd (omega arith)
in_heights h (x ∷ xs) (zero, s, small, is, same) = (zero, omega arith, ap height_of is ∙ same)
in_heights h (x ∷ xs) (suc k, s, small, is, same) =
    let w = in_heights h xs (k, s, omega arith, is, same) in
    (suc w.0, omega (arith, w.1), w.2)

its_heights : (setup : ImportSetup) (clients : List SeenClient) (place i : ℕ) (c : ClientSetup) (seen : SeenClient) → slice_get setup.clients.items i ≡ Some c → slice_get clients i ≡ Some seen
    → c.tracks ≡ place → All (IsStored setup clients place) (map height_of seen.stored.items)
unfolding IsStored
its_heights setup clients place i c seen at there tracks =
    All-map (IsStored setup clients place) height_of seen.stored.items
    (All-weaker (Contains seen.stored.items) (λ s. IsStored setup clients place (height_of s))
    (λ s w. (i, c, seen, at, there, tracks, (w.0, s, w.1, w.2, refl))) seen.stored.items (All-contains_itself seen.stored.items))

pub none_stored : (setup : ImportSetup) (clients : List SeenClient) (place : ℕ) → AreStoredBefore 0 setup clients place []
unfolding AreStoredBefore
none_stored setup clients place = (All-nil (IsStored setup clients place), λ h w. absurd (omega (arith, w.3)))

pub stored_more : (setup : ImportSetup) (clients : List SeenClient) (place n : ℕ) (c : ClientSetup) (seen : SeenClient) (before after : List ℕ) → n < length setup.clients.items → c ≡ get_or setup.clients.items n c
    → slice_get clients n ≡ Some seen → c.tracks ≡ place → after ≡ before ++ map height_of seen.stored.items → AreStoredBefore n setup clients place before → AreStoredBefore (n + 1) setup clients place after
unfolding AreStoredBefore
stored_more setup clients place n c seen before after small is there tracks now (are, all) =
    let at : slice_get setup.clients.items n ≡ Some c = slice_get_read setup.clients.items (length setup.clients.items) n c refl small is in
    let more : All (IsStored setup clients place) (before ++ map height_of seen.stored.items) = All-append (IsStored setup clients place) before (map height_of seen.stored.items) are (its_heights setup clients place n c seen at there tracks) in
    (subst (All (IsStored setup clients place)) (sym now) more, λ h w. subst (λ l. Contains l h) (sym now) (each h w (cases_lt w.0 n)))
  where
    each : (h : ℕ) (w : StoredBefore (n + 1) setup clients place h) → (w.0 < n) ⊎ (n ≤ w.0) → Contains (before ++ map height_of seen.stored.items) h
    each h (i, x, other, low, read, got, follows, any) (inl earlier) = Contains-append_left before (map height_of seen.stored.items) h (all h (i, x, other, earlier, read, got, follows, any))
    each h (i, x, other, low, read, got, follows, any) (inr later) =
        let here : i ≡ n = omega (arith, low, later) in
        let same : other ≡ seen = same_Some other seen (sym got ∙ ap (slice_get clients) here ∙ there) in
        Contains-append_right before (map height_of seen.stored.items) h (in_heights h seen.stored.items (subst (λ (y : SeenClient). Any (λ (s : Stored). s.state.now.height ≡ h) y.stored.items) same any))

pub stored_same : (setup : ImportSetup) (clients : List SeenClient) (place n : ℕ) (c : ClientSetup) (heights : List ℕ) → n < length setup.clients.items → c ≡ get_or setup.clients.items n c
    → (c.tracks ≡ place → slice_get clients n ≡ None) → AreStoredBefore n setup clients place heights → AreStoredBefore (n + 1) setup clients place heights
unfolding AreStoredBefore
stored_same setup clients place n c heights small is gone (are, all) =
    let at : slice_get setup.clients.items n ≡ Some c = slice_get_read setup.clients.items (length setup.clients.items) n c refl small is in
    (are, λ h w. each at h w (cases_lt w.0 n))
  where
    each : slice_get setup.clients.items n ≡ Some c → (h : ℕ) (w : StoredBefore (n + 1) setup clients place h) → (w.0 < n) ⊎ (n ≤ w.0) → Contains heights h
    each at h (i, x, other, low, read, got, follows, any) (inl earlier) = all h (i, x, other, earlier, read, got, follows, any)
    each at h (i, x, other, low, read, got, follows, any) (inr later) =
        let here : i ≡ n = omega (arith, low, later) in
        let same : x ≡ c = same_Some x c (sym read ∙ ap (slice_get setup.clients.items) here ∙ at) in
        let none : slice_get clients n ≡ None = gone (ap (λ (y : ClientSetup). y.tracks) (sym same) ∙ follows) in
        absurd (none-some other (sym (sym got ∙ ap (slice_get clients) here ∙ none)))

pub all_stored : (setup : ImportSetup) (clients : List SeenClient) (place n : ℕ) (heights : List ℕ) → length setup.clients.items ≤ n → AreStoredBefore n setup clients place heights
    → All (IsStored setup clients place) heights × ((h : ℕ) → IsStored setup clients place h → Contains heights h)
unfolding AreStoredBefore IsStored
all_stored setup clients place n heights whole (are, all) = (are, λ h (i, c, seen, at, there, tracks, any). all h (i, c, seen, within i c at, at, there, tracks, any))
  where
    within : (i : ℕ) (c : ClientSetup) → slice_get setup.clients.items i ≡ Some c → i < n
    within i c at = omega (arith, whole, slice_get_within setup.clients.items i c at)

-- ---- a chain's book

fits : (chain : SeenChain) (room h : ℕ) (book : List ℕ) → room ≡ room_of chain → Contains book h ⊎ HasNoRoom room book h → IsKept chain book h ⊎ HasNoRoom (room_of chain) book h
fits chain room h book is (inl one) = inl (kept_is chain book h (inl one))
fits chain room h book is (inr full) = inr (subst (λ n. HasNoRoom n book h) is full)

placed : (chain : SeenChain) (room h : ℕ) (bare book : List ℕ) → room ≡ room_of chain → All (λ k. Contains book k ⊎ HasNoRoom room book k) bare → Contains bare h ⊎ HasHeader chain h
    → IsKept chain book h ⊎ HasNoRoom (room_of chain) book h
placed chain room h bare book is highest (inl there) = fits chain room h book is (All-contains (λ (k : ℕ). Contains book k ⊎ HasNoRoom room book k) bare h highest there)
placed chain room h bare book is highest (inr header) = inl (kept_is chain book h (inr header))

pub is_book : (setup : ImportSetup) (clients : List SeenClient) (place room : ℕ) (chain : SeenChain) (stored bare book : List ℕ) → room ≡ room_of chain
    → All (IsStored setup clients place) stored → ((h : ℕ) → IsStored setup clients place h → Contains stored h)
    → AreThose (λ (h : ℕ). ¬ HasHeader chain h) (HasHeader chain) stored bare
    → length book ≤ room → IsStrictlyIncreasing book → All (Contains bare) book → All (λ h. Contains book h ⊎ HasNoRoom room book h) bare
    → IsBookOf setup clients place chain book
unfolding IsBookOf
is_book setup clients place room chain stored bare book is real whole (without, some, each) small rises from highest = (
  subst (λ n. length book ≤ n) is small,
  rises,
  All-weaker (Contains bare) (λ h. IsStored setup clients place h × ¬ HasHeader chain h)
      (λ h w. (All-contains (IsStored setup clients place) stored h real (All-contains (Contains stored) bare h some w), All-contains (λ (k : ℕ). ¬ HasHeader chain k) bare h without w)) book from,
  λ h w. placed chain room h bare book is highest (All-contains (λ (k : ℕ). Contains bare k ⊎ HasHeader chain k) stored h each (whole h w)),
)

-- ---- at each place

-- there are so many elements, and this holds of each and of the one of the other list at its place
unfoldable pub AtEachBefore : {X Y : Type 0} → ℕ → (ℕ → X → Y → Type 0) → List X → List Y → Type 0
AtEachBefore {X = X} {Y = Y} n Holds xs ys =
    (length ys ≡ n) × ((i : ℕ) → (x : X) → (y : Y) → slice_get xs i ≡ Some x → slice_get ys i ≡ Some y → Holds i x y)

pub at_none : {X Y : Type 0} (Holds : ℕ → X → Y → Type 0) (xs : List X) → AtEachBefore 0 Holds xs []
unfolding AtEachBefore
at_none {Y = Y} Holds xs = (refl, λ i x y at there. absurd (omega (arith, slice_get_within {A = Y} [] i y there)))

pub at_one_more : {X Y : Type 0} (Holds : ℕ → X → Y → Type 0) (xs : List X) (n : ℕ) (x : X) (y : Y) (before after : List Y) → n < length xs → x ≡ get_or xs n x → Holds n x y
    → after ≡ before ++ y ∷ [] → AtEachBefore n Holds xs before → AtEachBefore (n + 1) Holds xs after
unfolding AtEachBefore
at_one_more {X = X} {Y = Y} Holds xs n x y before after small is its now (long, all) =
    (grind (arith, common_steps, now, long), λ i a b at there. each i a b at (subst (λ l. slice_get l i ≡ Some b) now there) (cases_lt i n))
  where
    each : (i : ℕ) (a : X) (b : Y) → slice_get xs i ≡ Some a → slice_get (before ++ y ∷ []) i ≡ Some b → (i < n) ⊎ (n ≤ i) → Holds i a b
    each i a b at there (inl earlier) =
        let read : get_or (before ++ y ∷ []) i b ≡ b = get_or_from_slice_get (before ++ y ∷ []) i b b there in
        let old : b ≡ get_or before i b = grind (arith, common_steps, read, long, earlier) in
        all i a b at (slice_get_read before n i b (sym long) earlier old)
    each i a b at there (inr later) =
        let low : i < length (before ++ y ∷ []) = slice_get_within (before ++ y ∷ []) i b there in
        let sum : length (before ++ y ∷ []) ≡ n + 1 = grind (arith, common_steps, long) in
        let here : i ≡ n = omega (arith, low, later, sum) in
        let read : get_or (before ++ y ∷ []) i b ≡ b = get_or_from_slice_get (before ++ y ∷ []) i b b there in
        let same : b ≡ y = grind (arith, common_steps, read, long, here) in
        let x_is : a ≡ x = same_Some a x (sym at ∙ ap (slice_get xs) here ∙ slice_get_read xs (length xs) n x refl small is) in
        subst (Holds i a) (sym same) (subst (λ z. Holds i z y) (sym x_is) (subst (λ k. Holds k x y) (sym here) its))

pub at_all : {X Y : Type 0} (Holds : ℕ → X → Y → Type 0) (xs : List X) (n : ℕ) (ys : List Y) → n ≡ length xs → AtEachBefore n Holds xs ys → AtEachPlace Holds xs ys
unfolding AtEachBefore
at_all Holds xs n ys whole (long, all) = (long ∙ whole, all)

-- ---- records

-- these are those of the records that a book has room for, in their order
abbrev AreTheKept : SeenClient → SeenChain → List ℕ → List Stored → Type 0
AreTheKept seen chain book kept =
    AreThose (λ (s : Stored). IsKept chain book s.state.now.height) (λ (s : Stored). ¬ IsKept chain book s.state.now.height) seen.stored.items kept
    × (kept ≡ filter (λ (s : Stored). is_kept chain book s.state.now.height) seen.stored.items)

pub kept_are : (chains : List SeenChain) (clients : List SeenClient) (books : List (Vec ℕ Global)) (number : ℕ) (c : ClientSetup) (seen : SeenClient) (chain : SeenChain) (book : Vec ℕ Global) (kept : List Stored)
    → slice_get clients number ≡ Some seen → slice_get chains c.tracks ≡ Some chain → slice_get books c.tracks ≡ Some book
    → AreTheKept seen chain book.items kept
    → AreKeptOf chains clients books number c kept
unfolding AreKeptOf
kept_are chains clients books number c seen chain book kept client_at chain_at book_at those other others_chain others_book at follows has =
    let same : other ≡ seen = same_Some other seen (sym at ∙ client_at) in
    let same_chain : others_chain ≡ chain = same_Some others_chain chain (sym follows ∙ chain_at) in
    let same_book : others_book ≡ book = same_Some others_book book (sym has ∙ book_at) in
    subst (λ (x : SeenClient). AreTheKept x others_chain others_book.items kept) (sym same)
    (subst (λ (x : SeenChain). AreTheKept seen x others_book.items kept) (sym same_chain)
    (subst (λ (x : Vec ℕ Global). AreTheKept seen chain x.items kept) (sym same_book) those))

pub none_kept : (chains : List SeenChain) (clients : List SeenClient) (books : List (Vec ℕ Global)) (number : ℕ) (c : ClientSetup) (kept : List Stored)
    → (slice_get clients number ≡ None) ⊎ ((slice_get chains c.tracks ≡ None) ⊎ (slice_get books c.tracks ≡ None)) → AreKeptOf chains clients books number c kept
unfolding AreKeptOf
none_kept chains clients books number c kept (inl gone) seen chain book at follows has = absurd (none-some seen (sym gone ∙ at))
none_kept chains clients books number c kept (inr (inl gone)) seen chain book at follows has = absurd (none-some chain (sym gone ∙ follows))
none_kept chains clients books number c kept (inr (inr gone)) seen chain book at follows has = absurd (none-some book (sym gone ∙ has))
