-- runs of packets with consecutive sequences
use Rattle.std.proofs.Common.{ℕ, ◌+◌, ◌<◌, ◌≤◌, ◌≡◌, ◌≢◌, ◌⊎◌, zero, suc, Bool, true, false, cond, eqb, List, [], ◌∷◌, ◌++◌, length, map, take, drop, get_or, Option, Some, None, refl, sym, ap, ◌∙◌, arith, inl, inr, append_assoc, min}
use Rattle.std.specs.Bool.{⊤}
use Rattle.std.specs.List.{AllPairs, find, prefix_len, range_with_len, filter_map, cons_option, slice_get, count_by}
use Rattle.std.specs.Option.{option_map_or, option_and_then, option_to_list, some_prefix, is_some}
use Rattle.std.proofs.lemmas.Bool.{cases_eq, eq-eqb, ne_eqb}
use Rattle.std.proofs.lemmas.Bool.Decides.{nat_tests}
use Rattle.std.proofs.lemmas.List.{at_drop_more, take_more, take_all, drop_all, append-nil, get_or-map, length-map}
use Rattle.std.proofs.lemmas.List.Sums.{prefix_len-le-length, sum_by-cons}
use Rattle.std.proofs.lemmas.List.Elements.{filter_map-append}
use Rattle.std.proofs.lemmas.List.Kept.{AllPairs-from_increasing}
use Rattle.rb_scan.specs.Packet.{Packet}
use Rattle.rb_scan.specs.Path.{Path, IsPath, AreFrom}
use Rattle.rb_scan.specs.Owed.{message_of, packet_at, message_at, sequences_from, is_done, next_sequence, run, open_messages}
use Rattle.rb_scan.specs.declared.path.Order.TheVariants.{Ordered}
use Rattle.rb_scan.specs.declared.message.Kind.TheVariants.{Receive, Acknowledge, Timeout}
use Rattle.rb_scan.specs.declared.message.Kind.{Kind}

-- the packet with a sequence
abbrev pub at : List Packet → ℕ → Option Packet
at ps s = find (λ (p : Packet). eqb p.sequence s) ps

-- the packets of consecutive sequences from s on, at the front
abbrev pub front : ℕ → List Packet → List Packet
front s [] = []
front s (p ∷ ps) = cond (eqb p.sequence s) (p ∷ front (s + 1) ps) []

-- ---- a loop that goes along the front
pub front_more : (ps : List Packet) (i s : ℕ) (p : Packet) → i < length ps → p ≡ get_or ps i p → p.sequence ≡ s
    → take (i + 1) ps ++ front (s + 1) (drop (i + 1) ps) ≡ take i ps ++ front s (drop i ps)
front_more ps i s p less is same =
    let more = take_more ps i p less in
    let step = at_drop_more (front s) ps i p less in
    let head : eqb (get_or ps i p).sequence s ≡ true = eq-eqb _ _ (ap (λ (q : Packet). q.sequence) (sym is) ∙ same) in
    rw (more, append_assoc, step, head) refl

pub front_stops : (ps : List Packet) (i s : ℕ) (p : Packet) → i < length ps → p ≡ get_or ps i p → p.sequence ≢ s → take i ps ++ front s (drop i ps) ≡ take i ps
front_stops ps i s p less is other =
    let step = at_drop_more (front s) ps i p less in
    let head : eqb (get_or ps i p).sequence s ≡ false = ne_eqb _ _ (λ e. other (ap (λ (q : Packet). q.sequence) is ∙ e)) in
    rw (step, head, append-nil) refl

pub front_all : (ps : List Packet) (i s : ℕ) → length ps ≤ i → take i ps ++ front s (drop i ps) ≡ ps
front_all ps i s past = rw (drop_all i ps past, take_all i ps past, append-nil) refl

-- ---- a run by its numbers
-- sequences rise strictly from s on
abbrev pub Rises : ℕ → List Packet → Type 0
Rises s [] = ⊤
Rises s (p ∷ ps) = (s ≤ p.sequence) × Rises (p.sequence + 1) ps

pub Rises-from_pairs : (ps : List Packet) (s : ℕ) → AllPairs (λ (x y : ℕ). x < y) (map (λ (p : Packet). p.sequence) ps) → AreFrom s ps → Rises s ps
Rises-from_pairs [] s pairs low = tt
Rises-from_pairs (p ∷ ps) s pairs low = (
  low 0 p (omega arith),
  Rises-from_pairs ps (p.sequence + 1) (λ i j d less within. pairs (suc i) (suc j) d (omega arith) (omega arith)) (λ k d less. let above = pairs 0 (suc k) 0 (omega arith) (omega (arith, length-map ps (λ (q : Packet). q.sequence))) in let is = get_or-map (λ (q : Packet). q.sequence) ps k d 0 less in omega arith),
)

at-below : (ps : List Packet) (s k : ℕ) → Rises s ps → k < s → at ps k ≡ None
at-below [] s k h less = refl
at-below (p ∷ ps) s k h less =
    let rest = at-below ps (p.sequence + 1) k h.1 (omega (arith, h.0)) in
    grind (arith, nat_tests, h.0)

-- f finds the packets from s on
abbrev Finds : (ℕ → Option Packet) → ℕ → List Packet → Type 0
Finds f s ps = (k : ℕ) → s ≤ k → f k ≡ at ps k

Finds-tail : (f : ℕ → Option Packet) (s : ℕ) (p : Packet) (ps : List Packet) → p.sequence ≡ s → Finds f s (p ∷ ps) → Finds f (s + 1) ps
Finds-tail f s p ps same h k above = let found = h k (omega arith) in grind (arith, nat_tests)

-- the packets that a run of numbers finds, as far as it finds any, are the front
front-finds : (f : ℕ → Option Packet) (ps : List Packet) (s m : ℕ) → Rises s ps → Finds f s ps → length ps ≤ m → some_prefix (map f (range_with_len s m)) ≡ front s ps
front-finds f [] s zero rises finds long = refl
front-finds f [] s (suc m) rises finds long = rw (finds s (omega arith)) refl
front-finds f (p ∷ ps) s zero rises finds long = absurd (omega arith)
front-finds f (p ∷ ps) s (suc m) rises finds long =
    let here = finds s (omega arith) in
    elim (cases_eq p.sequence s) [
      | inl same ↦
          let head : eqb p.sequence s ≡ true = eq-eqb _ _ same in
          let found : f s ≡ Some p = here ∙ rw head refl in
          rw (found, head, front-finds f ps (s + 1) m (rw same at rises.1) (Finds-tail f s p ps same finds) (omega arith)) refl
      | inr other ↦
          let head : eqb p.sequence s ≡ false = ne_eqb _ _ other in
          let found : f s ≡ None = here ∙ at-below (p ∷ ps) p.sequence s (omega arith, rises.1) (omega (arith, rises.0)) in
          rw (found, head) refl
    ]

-- ---- a run that begins later
-- from the j-th number on, the packets that are found are the front without its first j
front-finds_later : (f : ℕ → Option Packet) (ps : List Packet) (s m j t : ℕ) → Rises s ps → Finds f s ps → length ps ≤ m → j ≤ length (front s ps) → s + j ≡ t
    → some_prefix (map f (range_with_len t m)) ≡ drop j (front s ps)
front-finds_later f ps s m zero t rises finds long within to = let e : t ≡ s = omega arith in rw e (front-finds f ps s m rises finds long)
front-finds_later f [] s m (suc j) t rises finds long within to = absurd (omega arith)
front-finds_later f (p ∷ ps) s m (suc j) t rises finds long within to =
    elim (cases_eq p.sequence s) [
      | inl same ↦
          let head : eqb p.sequence s ≡ true = eq-eqb _ _ same in
          let shorter : j ≤ length (front (s + 1) ps) = let here = rw head at within in omega arith in
          rw head (front-finds_later f ps (s + 1) m j t (rw same at rises.1) (Finds-tail f s p ps same finds) (omega arith) shorter (omega arith))
      | inr other ↦
          let head : eqb p.sequence s ≡ false = ne_eqb _ _ other in
          absurd (let here = rw head at within in omega arith)
    ]

-- ---- what is asked of each packet that is found
-- a test of the packets that numbers find
pub prefix_len-found : (done : Packet → Bool) (f : ℕ → Option Packet) (ns : List ℕ)
    → prefix_len (λ s. option_map_or done (f s) false) ns ≡ prefix_len done (some_prefix (map f ns))
prefix_len-found done f [] = refl
prefix_len-found done f (n ∷ ns) =
    elim (f n) as (λ o. cond (option_map_or done o false) (1 + prefix_len (λ s. option_map_or done (f s) false) ns) 0 ≡ prefix_len done (some_prefix (o ∷ map f ns))) [
      | None ↦ refl
      | Some p ↦ ap (λ k. cond (done p) (1 + k) 0) (prefix_len-found done f ns)
    ]

-- the first packet of a run is the one at its first number
first-found : (ps : List Packet) (s : ℕ) → slice_get (some_prefix (map (at ps) (range_with_len s (length ps)))) 0 ≡ at ps s
first-found [] s = refl
first-found (p ∷ ps) s =
    elim (at (p ∷ ps) s) as (λ o. slice_get (some_prefix (o ∷ map (at (p ∷ ps)) (range_with_len (s + 1) (length ps)))) 0 ≡ o) [ None ↦ refl | Some q ↦ refl ]

module _ {X : Type 0} where
  -- what h makes of the packets that numbers find, as far as it makes something
  pub some_prefix-found : (h : Packet → Option X) (f : ℕ → Option Packet) (ns : List ℕ)
      → some_prefix (map (λ s. option_and_then h (f s)) ns) ≡ some_prefix (map h (some_prefix (map f ns)))
  some_prefix-found h f [] = refl
  some_prefix-found h f (n ∷ ns) =
      elim (f n) as (λ o. some_prefix (option_and_then h o ∷ map (λ s. option_and_then h (f s)) ns) ≡ some_prefix (map h (some_prefix (o ∷ map f ns)))) [
        | None ↦ refl
        | Some p ↦
            elim (h p) as (λ o. some_prefix (o ∷ map (λ s. option_and_then h (f s)) ns) ≡ some_prefix (o ∷ map h (some_prefix (map f ns)))) [
              | None ↦ refl
              | Some x ↦ ap (λ xs. x ∷ xs) (some_prefix-found h f ns)
            ]
      ]

  -- what h makes of a list, as far as it makes something
  pub filter_map-prefix : (h : Packet → Option X) (ps : List Packet) → filter_map h (take (prefix_len (λ p. is_some (h p)) ps) ps) ≡ some_prefix (map h ps)
  filter_map-prefix h [] = refl
  filter_map-prefix h (p ∷ ps) =
      let count = prefix_len (λ p. is_some (h p)) ps in
      let more : 1 + count ≡ suc count = omega arith in
      (elim (h p) as (λ o. h p ≡ o → filter_map h (take (prefix_len (λ q. is_some (h q)) (p ∷ ps)) (p ∷ ps)) ≡ some_prefix (map h (p ∷ ps))) [
        | None ↦ λ e. rw e refl
        | Some x ↦ λ e. rw (e, more, e) (ap (λ xs. x ∷ xs) (filter_map-prefix h ps))
      ])
      refl

  -- what h makes of the first of a list
  pub filter_map-first : (h : Packet → Option X) (ps : List Packet) → filter_map h (take (min (length ps) 1) ps) ≡ option_to_list (option_and_then h (slice_get ps 0))
  filter_map-first h [] = refl
  filter_map-first h (p ∷ ps) =
      let one : min (suc (length ps)) 1 ≡ 1 = omega arith in
      rw one (elim (h p) as (λ o. cons_option o [] ≡ option_to_list o) [ None ↦ refl | Some x ↦ refl ])

-- ---- a path's runs
-- the packets of consecutive sequences from the first on
abbrev pub unbroken : Path → List Packet
unbroken path = some_prefix (map (packet_at path) (sequences_from path path.first))

-- those that are left without the front that waits for no message of the kind
abbrev pub rest : Path → Kind → List Packet
rest path kind = drop (prefix_len (is_done kind) (unbroken path)) (unbroken path)

rises : (path : Path) → IsPath path → Rises path.first path.packets
rises path h = Rises-from_pairs path.packets path.first (AllPairs-from_increasing _ h.sequences) h.from_first

pub front-path : (path : Path) → IsPath path → front path.first path.packets ≡ unbroken path
front-path path h = sym (front-finds (packet_at path) path.packets path.first (length path.packets) (rises path h) (λ k _. refl) (omega arith))

-- the packets from the next sequence on
later : (path : Path) (kind : Kind) → IsPath path → some_prefix (map (packet_at path) (sequences_from path (next_sequence path kind))) ≡ rest path kind
later path kind h =
    let made = front-path path h in
    let done = prefix_len (is_done kind) (unbroken path) in
    let count = prefix_len-found (is_done kind) (packet_at path) (sequences_from path path.first) in
    let within : done ≤ length (front path.first path.packets) = rw made (prefix_len-le-length (is_done kind) (unbroken path)) in
    front-finds_later (packet_at path) path.packets path.first (length path.packets) done (next_sequence path kind) (rises path h) (λ k _. refl) (omega arith) within (ap (λ k. path.first + k) (sym count))
    ∙ ap (drop done) made

pub run-rest : (path : Path) (kind : Kind) → IsPath path
    → filter_map (message_of path.destination kind) (take (prefix_len (λ p. is_some (message_of path.destination kind p)) (rest path kind)) (rest path kind)) ≡ run path kind
run-rest path kind h =
    let make = message_of path.destination kind in
    filter_map-prefix make (rest path kind)
    ∙ ap (λ ps. some_prefix (map make ps)) (sym (later path kind h))
    ∙ sym (some_prefix-found make (packet_at path) (sequences_from path (next_sequence path kind)))

-- the first of them is the packet at the next sequence
pub first-rest_is : (path : Path) (kind : Kind) → IsPath path → slice_get (rest path kind) 0 ≡ packet_at path (next_sequence path kind)
first-rest_is path kind h = ap (λ ps. slice_get ps 0) (sym (later path kind h)) ∙ first-found path.packets (next_sequence path kind)

pub first-rest : (path : Path) (kind : Kind) → IsPath path
    → filter_map (message_of path.destination kind) (take (min (length (rest path kind)) 1) (rest path kind)) ≡ option_to_list (message_at path kind (next_sequence path kind))
first-rest path kind h =
    filter_map-first (message_of path.destination kind) (rest path kind)
    ∙ ap (λ o. option_to_list (option_and_then (message_of path.destination kind) o))
    (first-rest_is path kind h)

-- what an ORDERED path owes of a kind
pub run-messages : (path : Path) (kind : Kind) → IsPath path → (kind ≡ Receive) ⊎ (kind ≡ Acknowledge)
    → filter_map (message_of path.destination kind) (take (prefix_len (λ p. is_some (message_of path.destination kind p)) (rest path kind)) (rest path kind)) ≡ open_messages Ordered path kind
run-messages path kind h (inl is) = rw is (run-rest path Receive h)
run-messages path kind h (inr is) = rw is (run-rest path Acknowledge h)

pub first-messages : (path : Path) (kind : Kind) → IsPath path → kind ≡ Timeout
    → filter_map (message_of path.destination kind) (take (min (length (rest path kind)) 1) (rest path kind)) ≡ open_messages Ordered path kind
first-messages path kind h is = rw is (first-rest path Timeout h)

-- one packet more
pub filter_map_more : {X : Type 0} (h : Packet → Option X) (ps : List Packet) (i : ℕ) (p : Packet) → i < length ps → p ≡ get_or ps i p
    → filter_map h (take (i + 1) ps) ≡ filter_map h (take i ps) ++ option_to_list (h p)
filter_map_more h ps i p less is =
    ap (filter_map h) (take_more ps i p less)
    ∙ filter_map-append h (take i ps) (get_or ps i p ∷ [])
    ∙ ap (λ xs. filter_map h (take i ps) ++ xs) (rw (← is) (elim (h p) as (λ o. cons_option o [] ≡ option_to_list o) [ None ↦ refl | Some x ↦ refl ]))
