-- What is seen of a path's packets.
use Rattle.std.proofs.Common.{◌≡◌, ℕ, zero, suc, ◌+◌, ◌<◌, List, [], ◌∷◌, ◌++◌, length, get_or, take, map, filter, Bool, true, false, cond, if◌then◌else◌, ◌&&◌, Option, Some, None, refl, sym, subst, ap, ◌∙◌, arith, All}
use Rattle.std.specs.Prelude.{Any, Contains, IfSome, String, string_bytes}
use Rattle.std.specs.Global.{Global}
use Rattle.std.specs.List.{IsDistinct}
use Rattle.std.specs.List.Sorted.{IsPermutation}
use Rattle.std.proofs.lemmas.Bool.{and_parts, leb-true}
use Rattle.std.proofs.lemmas.Cmp.{nat_eq_equiv}
use Rattle.std.proofs.lemmas.Slice.Eq.{bytes_eq-Decides}
use Rattle.std.proofs.lemmas.List.{take_more, map_push}
use Rattle.std.proofs.lemmas.List.Elements.{All-cons, All-contains, All-contains_itself, All-filter, All-push, filter_more}
use Rattle.std.proofs.lemmas.List.Sorted.{All-permutation, IsPermutation-sym}
use Rattle.std.proofs.lemmas.Map.Keys.{IsDistinct-IsPermutation}
use Rattle.rb_import_answers.specs.declared.packets.PacketEvent.{PacketEvent}
use Rattle.rb_import_merge.specs.declared.packets.SeenPacket.{SeenPacket}
use Rattle.rb_import_setup.specs.declared.setup.PathSetup.{PathSetup}
use Rattle.rb_import_answers.specs.Revisions.{IsRevision}
use Rattle.rb_import_merge.specs.Packets.{StandsFor, FiledEvent, HaveEvents, IsOfPath, Expires, ExpiresAt, are_of_one, place_of, counterparty, events_of, filed_event, is_wanted, is_source, is_dest, seen_events, wanted_of}
use Rattle.rb_import_check.specs.declared.saved.Saved.{Saved}

-- ---- one packet more

-- a packet more is read for the revision, too
pub expires_more : (revision : ℕ) (all : List SeenPacket) (p : SeenPacket) → All (ExpiresAt revision) all → ExpiresAt revision p → All (ExpiresAt revision) (all ++ p ∷ [])
expires_more revision all p h one = All-push (ExpiresAt revision) all p h one

joined : {A : Type 0} (xs ys zs : List A) → (xs ++ ys) ++ zs ≡ xs ++ (ys ++ zs)
joined [] ys zs = refl
joined (x ∷ xs) ys zs = ap (λ l. x ∷ l) (joined xs ys zs)

-- and brings its event
pub events_more : (before : List PacketEvent) (all after : List SeenPacket) (p : SeenPacket) (es : List PacketEvent) (i : ℕ) (e : PacketEvent) → i < length es → e ≡ get_or es i e
    → seen_events all ≡ before ++ take i es → after ≡ all ++ p ∷ [] → p.event.now ≡ e → seen_events after ≡ before ++ take (i + 1) es
events_more before all after p es i e small is was now one =
    ap seen_events now ∙ map_push (λ (s : SeenPacket). s.event.now) all p ∙ ap (λ l. l ++ p.event.now ∷ []) was ∙ ap (λ x. (before ++ take i es) ++ x ∷ []) one
    ∙ joined before (take i es) (e ∷ []) ∙ ap (λ l. before ++ l) (sym (take_more es i e small ∙ ap (λ y. take i es ++ y ∷ []) (sym is)))

-- and its file
pub files_more : (before : List FiledEvent) (all after : List SeenPacket) (p : SeenPacket) (es : List PacketEvent) (i : ℕ) (e : PacketEvent) (file : List ℕ) → i < length es → e ≡ get_or es i e
    → map filed_event all ≡ before ++ map (λ x. (x, file)) (take i es) → after ≡ all ++ p ∷ [] → filed_event p ≡ (e, file) → map filed_event after ≡ before ++ map (λ x. (x, file)) (take (i + 1) es)
files_more before all after p es i e file small is was now one =
    let in_file : PacketEvent → FiledEvent = λ x. (x, file) in
    let next : map in_file (take (i + 1) es) ≡ map in_file (take i es) ++ in_file e ∷ [] =
    ap (map in_file) (take_more es i e small ∙ ap (λ y. take i es ++ y ∷ []) (sym is)) ∙ map_push in_file (take i es) e in
    ap (map filed_event) now ∙ map_push filed_event all p ∙ ap (λ l. l ++ filed_event p ∷ []) was ∙ ap (λ x. (before ++ map in_file (take i es)) ++ x ∷ []) one
    ∙ joined before (map in_file (take i es)) (in_file e ∷ []) ∙ ap (λ l. before ++ l) (sym next)

pub wanted_more : (p : SeenPacket → Bool) (done after : List SeenPacket) (xs : List SeenPacket) (i : ℕ) (x : SeenPacket) → i < length xs → x ≡ get_or xs i x
    → done ≡ filter p (take i xs) → after ≡ done ++ (if p x then x ∷ [] else []) → after ≡ filter p (take (i + 1) xs)
wanted_more p done after xs i x small is was now =
    now ∙ ap (λ l. l ++ (if p x then x ∷ [] else [])) was ∙ sym (filter_more p xs i x small ∙ ap (λ y. filter p (take i xs) ++ (if p y then y ∷ [] else [])) (sym is))

pub ruleset expiring = (expires_more)

pub ruleset wanting = (wanted_more)

-- ---- all of them

abbrev event_of : SeenPacket → PacketEvent
event_of p = p.event.now

filter_at : (p : PacketEvent → Bool) (b : Bool) (x : SeenPacket) (xs : List SeenPacket) (es : List PacketEvent) → map event_of xs ≡ es → map event_of (cond b (x ∷ xs) xs) ≡ cond b (event_of x ∷ es) es
filter_at p true x xs es e = ap (λ l. event_of x ∷ l) e
filter_at p false x xs es e = e

-- the events of those that pass a test are the events that pass it
pub filter_events : (p : PacketEvent → Bool) (xs : List SeenPacket) → map event_of (filter (λ s. p (event_of s)) xs) ≡ filter p (map event_of xs)
filter_events p [] = refl
filter_events p (x ∷ xs) = filter_at p (p (event_of x)) x (filter (λ s. p (event_of s)) xs) (filter p (map event_of xs)) (filter_events p xs)

in_events : (xs : List SeenPacket) (p : SeenPacket) → Contains xs p → Contains (map event_of xs) (event_of p)
in_events [] p c = absurd (omega (arith, c.1))
in_events (x ∷ xs) p (zero, small, is) = (0, omega arith, ap event_of is)
in_events (x ∷ xs) p (suc k, small, is) = let w = in_events xs p (k, omega arith, is) in (suc w.0, omega (arith, w.1), w.2)

of_events : (P : PacketEvent → Type 0) (xs : List SeenPacket) → All (λ s. P (event_of s)) xs → All P (map event_of xs)
of_events P [] h = λ k d small. absurd (omega (arith, small))
of_events P (x ∷ xs) h = All-cons P (event_of x) (map event_of xs) (h 0 x (omega arith)) (of_events P xs (λ k d small. h (suc k) d (omega arith)))

pub any_among : (P : SeenPacket → Type 0) (xs ys : List SeenPacket) → IsPermutation xs ys → Any P xs → Any P ys
any_among P xs ys same (k, y, small, is, p) =
    let there : Contains ys y = All-contains (Contains ys) xs y (All-permutation (Contains ys) ys xs (IsPermutation-sym xs ys same) (All-contains_itself ys)) (k, small, is) in
    (there.0, y, there.1, there.2, p)

pub flips : (p q : SeenPacket) → are_of_one p q ≡ are_of_one q p
flips p q = λ i. nat_eq_equiv.symm (place_of p.event.now.kind) (place_of q.event.now.kind) i && nat_eq_equiv.symm p.event.now.sequence q.event.now.sequence i

pub have_events : (setup : PathSetup) (saved : List Saved) (all wanted lowest packets : List SeenPacket) → seen_events all ≡ events_of saved
    → wanted ≡ filter (λ s. is_wanted setup (counterparty setup (events_of saved)) saved s.event.now) all → All (Contains wanted) lowest → All (λ p. Any (StandsFor p.event.now) lowest) wanted
    → IsDistinct are_of_one lowest → IsPermutation lowest packets → HaveEvents setup saved packets
have_events setup saved all wanted lowest packets these are among standing once same =
    let p : PacketEvent → Bool = is_wanted setup (counterparty setup (events_of saved)) saved in
    let same_events : map event_of wanted ≡ wanted_of setup saved = ap (map event_of) are ∙ filter_events p all ∙ ap (filter p) these in
    let each : All (λ (s : SeenPacket). Contains (wanted_of setup saved) s.event.now) lowest =
    λ k d small. subst (λ l. Contains l (event_of (get_or lowest k d))) same_events (in_events wanted (get_or lowest k d) (among k d small)) in
    let for_each : All (λ (s : SeenPacket). Any (StandsFor (event_of s)) packets) wanted = λ k d small. any_among (StandsFor (event_of (get_or wanted k d))) lowest packets same (standing k d small) in (
      All-permutation (λ (s : SeenPacket). Contains (wanted_of setup saved) s.event.now) lowest packets same each,
      subst (All (λ e. Any (StandsFor e) packets)) same_events (of_events (λ e. Any (StandsFor e) packets) wanted for_each),
      IsDistinct-IsPermutation are_of_one flips lowest packets same once,
    )

passes_at : (p : SeenPacket → Bool) (b : Bool) (x : SeenPacket) (xs : List SeenPacket) → p x ≡ b → All (λ s. p s ≡ true) xs → All (λ s. p s ≡ true) (cond b (x ∷ xs) xs)
passes_at p true x xs e h = All-cons (λ s. p s ≡ true) x xs e h
passes_at p false x xs e h = h

-- what a filter leaves passes its test
passes : (p : SeenPacket → Bool) (xs : List SeenPacket) → All (λ s. p s ≡ true) (filter p xs)
passes p [] = λ k d small. absurd (omega (arith, small))
passes p (x ∷ xs) = passes_at p (p x) x (filter p xs) refl (passes p xs)

is_source_of : (o : Option (String Global)) (source : List ℕ) → is_source o source ≡ true → IfSome o (λ w. source ≡ string_bytes w)
is_source_of (Some w) source e = sym ((bytes_eq-Decides (string_bytes w) source).0 e)
is_source_of None source e = tt

is_dest_of : (o : Option (List ℕ)) (dest : List ℕ) → is_dest o dest ≡ true → IfSome o (λ w. dest ≡ w)
is_dest_of (Some w) dest e = sym ((bytes_eq-Decides w dest).0 e)
is_dest_of None dest e = tt

is_of_path : (setup : PathSetup) (saved : List Saved) (p : SeenPacket) → is_wanted setup (counterparty setup (events_of saved)) saved p.event.now ≡ true → IsOfPath setup saved p
is_of_path setup saved p e =
    let whole = and_parts _ _ e in
    let late = and_parts _ _ whole.0 in
    let ends = and_parts _ _ late.0 in (
      leb-true setup.config.first p.event.now.sequence late.1,
      is_source_of setup.source_channel (string_bytes p.event.now.source) ends.0,
      is_dest_of (counterparty setup (events_of saved)) (string_bytes p.event.now.dest) ends.1,
      whole.1,
    )

-- what holds of the wanted ones holds of what is seen
pub carried : (P : SeenPacket → Type 0) (wanted lowest packets : List SeenPacket) → All P wanted → All (Contains wanted) lowest → IsPermutation lowest packets → All P packets
carried P wanted lowest packets h among same =
    All-permutation P lowest packets same (λ k d small. All-contains P wanted (get_or lowest k d) h (among k d small))

pub are_of_path : (setup : PathSetup) (saved : List Saved) (all wanted lowest packets : List SeenPacket)
    → wanted ≡ filter (λ s. is_wanted setup (counterparty setup (events_of saved)) saved s.event.now) all → All (Contains wanted) lowest → IsPermutation lowest packets
    → All (IsOfPath setup saved) packets
are_of_path setup saved all wanted lowest packets are among same =
    let test : SeenPacket → Bool = λ s. is_wanted setup (counterparty setup (events_of saved)) saved s.event.now in
    let pass : All (λ (s : SeenPacket). test s ≡ true) wanted = subst (All (λ (s : SeenPacket). test s ≡ true)) (sym are) (passes test all) in
    carried (IsOfPath setup saved) wanted lowest packets (λ k d small. is_of_path setup saved (get_or wanted k d) (pass k d small)) among same

pub expire : (dest : List ℕ) (revision : ℕ) (p : SeenPacket → Bool) (all wanted lowest packets : List SeenPacket) → IsRevision dest revision → All (ExpiresAt revision) all
    → wanted ≡ filter p all → All (Contains wanted) lowest → IsPermutation lowest packets → All (Expires dest) packets
expire dest revision p all wanted lowest packets is h are among same =
    let kept : All (ExpiresAt revision) wanted = subst (All (ExpiresAt revision)) (sym are) (All-filter p (ExpiresAt revision) all h) in
    carried (Expires dest) wanted lowest packets (λ k d small. (revision, is, kept k d small)) among same
