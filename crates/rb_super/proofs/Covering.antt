-- Before a client is planned for, all parts of all paths are scanned.
use Rattle.std.proofs.Common.{◌≡◌, ◌⊎◌, ℕ, zero, suc, ◌+◌, ◌<◌, ◌≤◌, Bool, true, false, if◌then◌else◌, List, [], ◌∷◌, ◌++◌, length, map, is_some, refl, ap, ◌∙◌, inl, inr, arith}
use Rattle.std.specs.List.{flat_map, range_with_len, AllByRecursion}
use Rattle.std.proofs.lemmas.Bool.{cases_eq}
use Rattle.std.proofs.lemmas.List.Elements.{recursion_from_All}
use Rattle.rb_base.specs.Window.{Span}
use Rattle.rb_base.specs.declared.gate.Part.{Part}
use Rattle.rb_base.specs.declared.gate.Part.TheVariants.{Packets, Channel}
use Rattle.rb_script_types.specs.Config.{Config}
use Rattle.rb_core_model.specs.Event.{Event, IsEvent}
use Rattle.rb_core_model.specs.Standing.{Standing}
use Rattle.rb_script_types.specs.declared.script.HostWindow.{HostWindow as WindowOf}
use Rattle.rb_super_turn.specs.Agenda.{Item, enter_host, enter, ask, observe, scan, plan, settle, take_open, takes, observations, both_parts, agenda}
use Rattle.rb_script_types.specs.declared.script.Asked.{Asked as Question}
use Rattle.rb_script_types.specs.declared.script.Settlement.{Settlement}
use Rattle.rb_super_turn.specs.Script.{Turn, IsSeen, IsTurn}

abbrev pub Scanning : Type 1
Scanning = ℕ → Part → Type 0

abbrev pub Nothing : Scanning
Nothing p part = ⊥

abbrev pub Plus : Scanning → ℕ → Part → Scanning
Plus S path part p other = S p other ⊎ ((p ≡ path) × (other ≡ part))

-- with so many paths: where a client is planned for, all is scanned, by what was scanned before and since
abbrev pub Covers : ℕ → Scanning → List Item → Type 0
Covers paths S [] = Unit {0}
Covers paths S (enter_host x ∷ items) = Covers paths Nothing items
Covers paths S (enter window ∷ items) = Covers paths Nothing items
Covers paths S (ask q ∷ items) = Covers paths Nothing items
Covers paths S (observe number event ∷ items) = Covers paths Nothing items
Covers paths S (scan path part ∷ items) = Covers paths (Plus S path part) items
Covers paths S (plan client ∷ items) = ((p : ℕ) (part : Part) → p < paths → S p part) × Covers paths S items
Covers paths S (settle x ∷ items) = Covers paths Nothing items
Covers paths S (take_open client ∷ items) = Covers paths Nothing items

pub more : (paths : ℕ) (S T : Scanning) → ((p : ℕ) (part : Part) → S p part → T p part) → (items : List Item) → Covers paths S items → Covers paths T items
more paths S T f [] c = c
more paths S T f (enter_host x ∷ items) c = c
more paths S T f (enter window ∷ items) c = c
more paths S T f (ask q ∷ items) c = c
more paths S T f (observe number event ∷ items) c = c
more paths S T f (scan path part ∷ items) c = more paths (Plus S path part) (Plus T path part) (λ p other. elim [ inl a ↦ inl (f p other a) | inr b ↦ inr b ]) items c
more paths S T f (plan client ∷ items) c = (λ p part lt. f p part (c.0 p part lt), more paths S T f items c.1)
more paths S T f (settle x ∷ items) c = c
more paths S T f (take_open client ∷ items) c = c

-- ---- the agenda

after_asks : (paths : ℕ) (goals : List Question) (items : List Item) → Covers paths Nothing items → Covers paths Nothing (map ask goals ++ items)
after_asks paths [] items c = c
after_asks paths (q ∷ goals) items c = after_asks paths goals items c

after_observations : (paths : ℕ) (events : List Event) (number : ℕ) (items : List Item) → Covers paths Nothing items → Covers paths Nothing (observations number events ++ items)
after_observations paths [] number items c = c
after_observations paths (event ∷ events) number items c = after_observations paths events (number + 1) items c

abbrev Both : Scanning → ℕ → Scanning
Both S n = Plus (Plus S n Packets) n Channel

abbrev PlusAll : Scanning → List ℕ → Scanning
PlusAll S [] = S
PlusAll S (n ∷ ns) = PlusAll (Both S n) ns

after_scans : (paths : ℕ) (ns : List ℕ) (S : Scanning) (items : List Item) → Covers paths (PlusAll S ns) items → Covers paths S (flat_map both_parts ns ++ items)
after_scans paths [] S items c = c
after_scans paths (n ∷ ns) S items c = after_scans paths ns (Both S n) items c

stays : (ns : List ℕ) (S : Scanning) (p : ℕ) (part : Part) → S p part → PlusAll S ns p part
stays [] S p part is = is
stays (n ∷ ns) S p part is = stays ns (Both S n) p part (inl (inl is))

here : (S : Scanning) (p n : ℕ) (part : Part) → p ≡ n → Both S n p part
here S p n Packets e = inl (inr (e, refl))
here S p n Channel e = inr (e, refl)

within : (count a : ℕ) (S : Scanning) (p : ℕ) (part : Part) → a ≤ p → p < a + count → PlusAll S (range_with_len a count) p part
within zero a S p part from to = absurd (omega arith)
within (suc count) a S p part from to = elim (cases_eq p a) [
  | inl e ↦ stays (range_with_len (a + 1) count) (Both S a) p part (here S p a part e)
  | inr other ↦ within count (a + 1) (Both S a) p part (omega arith) (omega arith)
]

nothing_more : (paths : ℕ) (S : Scanning) (items : List Item) → Covers paths Nothing items → Covers paths S items
nothing_more paths S items c = more paths Nothing S (λ p part no. absurd no) items c

settling : (paths : ℕ) (xs : List Settlement) (items : List Item) (S : Scanning) → Covers paths Nothing items → Covers paths S (map settle xs ++ items)
settling paths [] items S c = nothing_more paths S items c
settling paths (x ∷ xs) items S c = settling paths xs items Nothing c

taking_open : (paths : ℕ) (clients : List ℕ) → Covers paths Nothing (map take_open clients)
taking_open paths [] = tt
taking_open paths (n ∷ clients) = taking_open paths clients

taking_all : (paths : ℕ) (clients : List ℕ) (b : Bool) → Covers paths Nothing (if b then map take_open clients else [])
taking_all paths clients true = taking_open paths clients
taking_all paths clients false = tt

after_plans : (paths : ℕ) (clients : List ℕ) (S : Scanning) (items : List Item) → ((p : ℕ) (part : Part) → p < paths → S p part) → Covers paths S items → Covers paths S (map plan clients ++ items)
after_plans paths [] S items all c = c
after_plans paths (n ∷ clients) S items all c = (all, after_plans paths clients S items all c)

-- windows of hosts, and then the window
after_hosts : (paths : ℕ) (ws : List WindowOf) (S : Scanning) (window : Span) (items : List Item) → Covers paths Nothing items → Covers paths S (map enter_host ws ++ (enter window ∷ items))
after_hosts paths [] S window items c = c
after_hosts paths (w ∷ ws) S window items c = after_hosts paths ws Nothing window items c

pub agenda_covers : (config : Config) (turn : Turn) (S : Scanning) → Covers (length config.paths) S (agenda config turn)
agenda_covers config turn S =
    let n = length config.paths in
    after_hosts n turn.windows S turn.window _ (after_asks n turn.goals _ (after_observations n turn.events 0 _ (after_scans n (range_with_len 0 n) Nothing _
    (after_plans n (range_with_len 0 (length config.clients)) (PlusAll Nothing (range_with_len 0 n)) (map settle turn.settlements ++ takes config turn)
    (λ p part lt. within n 0 Nothing p part (omega arith) (omega arith)) (settling n turn.settlements (takes config turn) (PlusAll Nothing (range_with_len 0 n)) (taking_all n (range_with_len 0 (length config.clients)) turn.taken))))))

-- ---- what is named is there

abbrev pub IsItem : Config → Item → Type 0
IsItem c (enter_host x) = (x.host < length c.chains) × (x.window.from ≤ x.window.until)
IsItem c (enter window) = window.from ≤ window.until
IsItem c (ask q) = q.client < length c.clients
IsItem c (observe number event) = IsSeen c event × IsEvent event
IsItem c (scan path part) = path < length c.paths
IsItem c (plan client) = client < length c.clients
IsItem c (settle x) = x.client < length c.clients
IsItem c (take_open client) = client < length c.clients

module _ (c : Config) where
  items_hosts : (ws : List WindowOf) (items : List Item) → AllByRecursion (λ (w : WindowOf). (w.host < length c.chains) × (w.window.from ≤ w.window.until)) ws → AllByRecursion (IsItem c) items
      → AllByRecursion (IsItem c) (map enter_host ws ++ items)
  items_hosts [] items all rest = rest
  items_hosts (w ∷ ws) items all rest = (all.0, items_hosts ws items all.1 rest)

  items_asked : (goals : List Question) (items : List Item) → AllByRecursion (λ (g : Question). g.client < length c.clients) goals → AllByRecursion (IsItem c) items → AllByRecursion (IsItem c) (map ask goals ++ items)
  items_asked [] items all rest = rest
  items_asked (q ∷ goals) items all rest = (all.0, items_asked goals items all.1 rest)

  items_observed : (events : List Event) (number : ℕ) (items : List Item) → AllByRecursion (IsSeen c) events → AllByRecursion IsEvent events → AllByRecursion (IsItem c) items
      → AllByRecursion (IsItem c) (observations number events ++ items)
  items_observed [] number items seen right rest = rest
  items_observed (e ∷ events) number items seen right rest = ((seen.0, right.0), items_observed events (number + 1) items seen.1 right.1 rest)

  items_scanned : (count a : ℕ) (items : List Item) → a + count ≤ length c.paths → AllByRecursion (IsItem c) items → AllByRecursion (IsItem c) (flat_map both_parts (range_with_len a count) ++ items)
  items_scanned zero a items le rest = rest
  items_scanned (suc count) a items le rest = (omega arith, (omega arith, items_scanned count (a + 1) items (omega arith) rest))

  items_planned : (count a : ℕ) (items : List Item) → a + count ≤ length c.clients → AllByRecursion (IsItem c) items → AllByRecursion (IsItem c) (map plan (range_with_len a count) ++ items)
  items_planned zero a items le rest = rest
  items_planned (suc count) a items le rest = (omega arith, items_planned count (a + 1) items (omega arith) rest)

  items_settled : (xs : List Settlement) (items : List Item) → AllByRecursion (λ (x : Settlement). x.client < length c.clients) xs → AllByRecursion (IsItem c) items
      → AllByRecursion (IsItem c) (map settle xs ++ items)
  items_settled [] items all rest = rest
  items_settled (x ∷ xs) items all rest = (all.0, items_settled xs items all.1 rest)

  items_taken : (count a : ℕ) → a + count ≤ length c.clients → AllByRecursion (IsItem c) (map take_open (range_with_len a count))
  items_taken zero a le = tt
  items_taken (suc count) a le = (omega arith, items_taken count (a + 1) (omega arith))

  items_if_taken : (b : Bool) → AllByRecursion (IsItem c) (if b then map take_open (range_with_len 0 (length c.clients)) else [])
  items_if_taken true = items_taken (length c.clients) 0 (omega arith)
  items_if_taken false = tt

pub agenda_items : (c : Config) (turn : Turn) → IsTurn c turn → AllByRecursion (IsItem c) (agenda c turn)
agenda_items c turn is = items_hosts c turn.windows _ (recursion_from_All _ turn.windows is.windows) (
  is.window,
  items_asked c turn.goals _ (recursion_from_All _ turn.goals is.goals)
      (items_observed c turn.events 0 _ (recursion_from_All _ turn.events is.events) (recursion_from_All _ turn.events is.right)
      (items_scanned c (length c.paths) 0 _ (omega arith)
      (items_planned c (length c.clients) 0 _ (omega arith) (items_settled c turn.settlements (takes c turn) (recursion_from_All _ turn.settlements is.settlements) (items_if_taken c turn.taken))))),
)

-- ---- a window is entered first

abbrev pub Entered : Standing → List Item → Type 0
Entered s [] = Unit {0}
Entered s (enter_host x ∷ items) = Entered s items
Entered s (enter window ∷ items) = Unit {0}
Entered s (item ∷ items) = is_some s.window ≡ true

pub entered : (s : Standing) (items : List Item) → is_some s.window ≡ true → Entered s items
entered s [] is = tt
entered s (enter_host x ∷ items) is = entered s items is
entered s (enter window ∷ items) is = tt
entered s (ask q ∷ items) is = is
entered s (observe number event ∷ items) is = is
entered s (scan path part ∷ items) is = is
entered s (plan client ∷ items) is = is
entered s (settle x ∷ items) is = is
entered s (take_open client ∷ items) is = is

-- it stays so where the window does
pub still_entered : (s t : Standing) (items : List Item) → t.window ≡ s.window → Entered s items → Entered t items
still_entered s t [] e is = tt
still_entered s t (enter_host x ∷ items) e is = still_entered s t items e is
still_entered s t (enter window ∷ items) e is = tt
still_entered s t (ask q ∷ items) e is = ap (λ o. is_some o) e ∙ is
still_entered s t (observe number event ∷ items) e is = ap (λ o. is_some o) e ∙ is
still_entered s t (scan path part ∷ items) e is = ap (λ o. is_some o) e ∙ is
still_entered s t (plan client ∷ items) e is = ap (λ o. is_some o) e ∙ is
still_entered s t (settle x ∷ items) e is = ap (λ o. is_some o) e ∙ is
still_entered s t (take_open client ∷ items) e is = ap (λ o. is_some o) e ∙ is

-- a turn's windows come first
pub first_entered : (s : Standing) (ws : List WindowOf) (window : Span) (items : List Item) → Entered s (map enter_host ws ++ (enter window ∷ items))
first_entered s [] window items = tt
first_entered s (w ∷ ws) window items = first_entered s ws window items
