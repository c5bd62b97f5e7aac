-- Each step keeps the board's rule.
use Rattle.std.proofs.Common.{◌≡◌, ◌≢◌, ℕ, List, [], ◌∷◌, ◌++◌, set, refl, sym, ap, ◌∙◌, subst, ⊎_elim, append_assoc, append-nil}
use Rattle.std.specs.Prelude.{◌⊎◌, false, fold, is_err, is_some, All, Option, Result, Ok, Err, IfErr, IsSome, OnOk, MatchResult, Some, None}
use mathlib.Core.Option.{some, some-ne-none}
use mathlib.Core.List.{IsPrefix}
use mathlib.Core.Logic.{inl, inr}
use lib.ListN.{get_elem?}
use Rattle.std.proofs.lemmas.Bool.{true≢false}
use Rattle.std.proofs.lemmas.List.Sums.{fold-append}
use Rattle.left_right.specs.Register.{Admits, Turns, TurnsAt, Forks, Merges}
use Rattle.atomic_table.proofs.Lists.{at_set, at_snoc}
use Rattle.rb_core.specs.Follower.{Past, Follower, IsOfLog, Told, log_in, followed, follows, told_of}
use Rattle.rb_core.proofs.Entries.{after_free, events-append, events_grow}
use Rattle.rb_core.proofs.Unjudged.{told_back}
use Rattle.rb_script_types.specs.Config.{Config}
use Rattle.rb_core_model.specs.Config.{IsSetUp}
use Rattle.rb_core_model.specs.Begun.{IsBegun}
use Rattle.rb_core_model.specs.Entry.{Logged, events_of, log_from}
use Rattle.rb_core_model.specs.Event.{Event, IsEvent}
use Rattle.rb_core_model.specs.Log.{IsLog}
use Rattle.rb_core_model.specs.Machine.{State, begun, after, refusal_of, state_of}
use Rattle.rb_core_model.specs.Snapshot.{Snapshot, Log, followed_by, IsBeginning}
use Rattle.rb_board.specs.Knowledge.{Knowledge, nothing_yet, Begins}
use Rattle.rb_board.specs.Ends.{Desk}
use Rattle.rb_board.specs.Rule.{IsKnown, HasBeginnings, Sees, origin_of, origin_or, followed_on, knowledge_of, past_of}
use Rattle.rb_board.specs.declared.replica.Replica.{Replica}

pub prefix_trans : {X : Type 0} (a b c : List X) → IsPrefix a b → IsPrefix b c → IsPrefix a c
prefix_trans a b c p q = (p.0 ++ q.0, sym (append_assoc a p.0 q.0) ∙ ap (λ (l : List _). l ++ q.0) p.1 ∙ q.1)

pub prefix_same : {X : Type 0} (a : List X) → IsPrefix a a
prefix_same a = ([], append-nil a)

-- the log of a beginning of the entries is a beginning of the log
pub logs_begin : (origin : Config × Snapshot) (a b : List Logged) → IsPrefix a b → IsBeginning (log_from origin.0 origin.1 a) (log_from origin.0 origin.1 b)
logs_begin origin a b p =
    let s = begun origin.0 origin.1 in
    (refl, (events_of (fold after s (events_of s a)) p.0, sym (events-append s a p.0) ∙ ap (events_of s) p.1))

pub begins_trans : (a b c : Knowledge) → Begins a b → Begins b c → Begins a c
begins_trans a b c p q = (
  ⊎_elim (λ (none : a.origin ≡ _). inl none) (λ (e : a.origin ≡ b.origin). ⊎_elim (λ (none : b.origin ≡ _). inl (e ∙ none)) (λ (f : b.origin ≡ c.origin). inr (e ∙ f)) q.0) p.0,
  prefix_trans a.entries b.entries c.entries p.1 q.1,
)

pub begins_same : (a : Knowledge) → Begins a a
begins_same a = (inr refl, prefix_same a.entries)

abbrev AllKnown : Knowledge → List Knowledge → Type 0
AllKnown k views = (seat : ℕ) (v : Knowledge) → get_elem? views seat ≡ some v → Begins v k

known_set : (k : Knowledge) (views : List Knowledge) (seat : ℕ) (w : Knowledge) → AllKnown k views → Begins w k → AllKnown k (set views seat w)
known_set k views seat w h mine j u e = ⊎_elim (λ (t : (j ≡ seat) × (w ≡ u)). subst (λ (z : Knowledge). Begins z k) t.1 mine) (λ (t : (j ≢ seat) × (get_elem? views j ≡ some u)). h j u t.1) (at_set views seat j w u e)

-- who follows what waits keeps the configuration and what the log begins with, and has what was there at the beginning of the entries
pub same_origin : (f : Follower) (waiting : List Told) → origin_of f.past ≡ origin_of (followed_on f waiting).past
same_origin f [] = refl
same_origin f (x ∷ xs) = same_origin (follows f x) xs

pub same_config : (f : Follower) (waiting : List Told) → f.past.config ≡ (followed_on f waiting).past.config
same_config f waiting = ap (λ (o : Config × Snapshot). o.0) (same_origin f waiting)

more_entries : (f : Follower) (waiting : List Told) → IsPrefix f.past.entries (followed_on f waiting).past.entries
more_entries f [] = prefix_same f.past.entries
more_entries f (x ∷ xs) =
    prefix_trans f.past.entries (follows f x).past.entries (followed_on (follows f x) xs).past.entries (x.entry ∷ [], refl) (more_entries (follows f x) xs)

-- the log that was followed is a beginning of the one that is followed with what waits
pub published_begins : (f : Follower) (waiting : List Told) → IsBeginning (log_in f.past) (log_in (followed_on f waiting).past)
published_begins f waiting =
    let g = followed_on f waiting in
    subst (λ (o : Config × Snapshot). IsBeginning (log_in f.past) (log_from o.0 o.1 g.past.entries)) (same_origin f waiting)
    (logs_begin (origin_of f.past) f.past.entries g.past.entries (more_entries f waiting))

-- what is known of the core stays the same
origin_kept : (c : Option (Config × Snapshot)) (d : Config × Snapshot) → IsSome c → (c ≡ None) ⊎ (c ≡ Some d) → d ≡ origin_or c
origin_kept None d has _ = absurd (true≢false (sym has))
origin_kept (Some x) d has to = ⊎_elim (λ (none : Some x ≡ None). absurd (true≢false (ap is_some none))) (λ (e : Some x ≡ Some d). sym (ap origin_or e)) to

-- what a core has taken in, as what a follower has followed
pub of_log : (f : Follower) (config : Config) (log : Log) → f.past.config ≡ config → log ≡ log_in f.past → f.state ≡ state_of config log
    → IsSetUp config → IsBegun config log.start → All IsEvent log.events → IsLog config log → IsOfLog f
of_log f config log same is knows rules starts events accepted = record {
  set_up = subst IsSetUp (sym same) rules;
  begun = subst (λ (p : Config × Log). IsBegun p.0 p.1.start) (λ i. (sym same i, is i)) starts;
  events = subst (λ (l : Log). All IsEvent l.events) is events;
  accepted = subst (λ (p : Config × Log). IsLog p.0 p.1) (λ i. (sym same i, is i)) accepted;
  state = knows ∙ (λ i. state_of (sym same i) (is i));
}

-- what a desk knows where it couldn't look
pub unlooked : (old new : Knowledge) (told : ℕ) (desk : Desk) → desk ≡ record { config = (past_of old).config; seen = log_in (past_of old); told = told } → new ≡ old → IsBeginning desk.seen (log_in (past_of new))
unlooked old new told desk is same =
    subst (λ (p : Desk × Knowledge). IsBeginning p.0.seen (log_in (past_of p.1))) (λ i. (sym is i, sym same i)) (refl, prefix_same (log_in (past_of old)).events)

-- an event is appended to the log, and what is told of it is put behind what waits
pub appends : (f : Follower) (config : Config) (log head : Log) (waiting rest : List Told) (told : Told) (event : Event)
    → f.past.config ≡ config → log ≡ log_in (followed_on f waiting).past → (followed_on f waiting).state ≡ state_of config log
    → refusal_of (state_of config log) event ≡ None → head ≡ followed_by log (event ∷ []) → told ≡ told_of event → rest ≡ waiting ++ told ∷ []
    → (head ≡ log_in (followed_on f rest).past) × ((followed_on f rest).state ≡ state_of config head)
appends f config log head waiting rest told event same is knows none to kept put =
    let g = followed_on f waiting in
    let c = g.past.config in
    let there : config ≡ c = sym same ∙ same_config f waiting in
    let next : followed_on f rest ≡ follows g (told_of event) = ap (followed_on f) put ∙ fold-append follows f waiting (told ∷ []) ∙ ap (follows g) kept in
    let none_there : refusal_of (state_of c (log_in g.past)) event ≡ None = subst (λ (p : Config × Log). refusal_of (state_of p.0 p.1) event ≡ None) (λ i. (there i, is i)) none in
    let s = state_of config log in
    let one : followed s (told_of event) ≡ state_of config (followed_by log (event ∷ [])) =
    told_back s event none ∙ sym (after_free s event none) ∙ sym (fold-append after (begun config log.start) log.events (event ∷ [])) in (
      to ∙ ap (λ (l : Log). followed_by l (event ∷ [])) is ∙ sym (events_grow c g.past.start g.past.entries event none_there) ∙ ap (λ (h : Follower). log_in h.past) (sym next),
      ap (λ (h : Follower). h.state) next ∙ ap (λ (t : State). followed t (told_of event)) knows ∙ one ∙ ap (state_of config) (sym to),
    )

module _ {A : Type 0} where
  -- what a desk knows after it has looked, and left
  pub looked : (old w v : Knowledge) (shown : Replica A) (told : ℕ) (desk : Desk)
      → desk ≡ record { config = (past_of old).config; seen = log_in (past_of old); told = told } → IsSome old.origin → Sees old shown shown w → v ≡ w
      → ((past_of v).config ≡ desk.config) × IsBeginning desk.seen (log_in (past_of v))
  looked old w v shown told desk is has sees left =
      let now = shown.follower.past in
      let all : past_of v ≡ now = ap past_of (left ∙ sees.1) in
      let same : origin_of now ≡ origin_or old.origin = origin_kept old.origin (origin_of now) has sees.0.0 in
      let begins : IsBeginning (log_in (past_of old)) (log_in now) =
      subst (λ (o : Config × Snapshot). IsBeginning (log_from o.0 o.1 old.entries) (log_in now)) same (logs_begin (origin_of now) old.entries now.entries sees.0.1) in (
        ap (λ (p : Past). p.config) all ∙ ap (λ (o : Config × Snapshot). o.0) same ∙ sym (ap (λ (d : Desk). d.config) is),
        subst (λ (p : Desk × Past). IsBeginning p.0.seen (log_in p.1)) (λ i. (sym is i, sym all i)) begins,
      )

  -- what holds of what was looked at holds of what is known then
  pub known_then : (P : Past → Type 0) (v : Knowledge) (shown got : Replica A) → v ≡ knowledge_of shown → got ≡ shown → P got.follower.past → P (past_of v)
  known_then P v shown got is same p = subst P (sym (ap past_of is)) (subst (λ (h : Replica A). P h.follower.past) same p)

  pub admits : Admits (HasBeginnings {A = A}) nothing_yet
  admits x views h = (
    h.0,
    λ seat v at.
        ⊎_elim (h.1 seat v) (λ (e : nothing_yet ≡ v). subst (λ (z : Knowledge). Begins z (knowledge_of x)) e (inl refl, (x.follower.past.entries, refl))) (at_snoc views nothing_yet v seat at),
  )

  pub sees : (seat : ℕ) (v : Knowledge) (x y : Replica A) → IsOfLog y.follower → Begins (knowledge_of x) (knowledge_of y) → TurnsAt (HasBeginnings {A = A}) seat v x y Sees
  sees seat v x y is up views h at = (
    knowledge_of y,
    (is, known_set (knowledge_of y) views seat (knowledge_of y) (λ j u e. begins_trans u (knowledge_of x) (knowledge_of y) (h.1 j u e) up) (begins_same (knowledge_of y))),
    (begins_trans v (knowledge_of x) (knowledge_of y) (h.1 seat v at) up, refl, is),
  )

  pub looks : (seat : ℕ) (v : Knowledge) → Turns (HasBeginnings {A = A}) seat v (λ x. x) Sees
  looks seat v x views h = sees seat v x x h.0 (begins_same (knowledge_of x)) views h

  -- a publish of what waits
  pub shows : (seat : ℕ) (v : Knowledge) (x next : Replica A) (more : List Told) → IsOfLog next.follower → next.follower ≡ followed_on x.follower more → TurnsAt (HasBeginnings {A = A}) seat v x next Sees
  shows seat v x next more of is =
      sees seat v x next of
      (subst (λ (f : Follower). Begins (knowledge_of x) (record { origin = Some (origin_of f.past); entries = f.past.entries })) (sym is) (inr (ap (λ (o : Config × Snapshot). Some o) (same_origin x.follower more)), more_entries x.follower more))

  pub forks : (seat : ℕ) (v : Knowledge) → Forks (HasBeginnings {A = A}) seat v v v
  forks seat v x views h at = (
    h.0,
    λ j u e.
        ⊎_elim (known_set (knowledge_of x) views seat v h.1 (h.1 seat v at) j u) (λ (same : v ≡ u). subst (λ (z : Knowledge). Begins z (knowledge_of x)) same (h.1 seat v at)) (at_snoc (set views seat v) v u j e),
  )

  pub merges : (seat : ℕ) (v : Knowledge) (other : ℕ) (w : Knowledge) → Merges (HasBeginnings {A = A}) seat v other w w nothing_yet
  merges seat v other w x views h at apart there =
      let theirs : Begins w (knowledge_of x) = ⊎_elim (λ (t : (other ≡ seat) × (w ≡ w)). absurd (apart t.0)) (λ (t : (other ≢ seat) × (get_elem? views other ≡ some w)). h.1 other w t.1) (at_set views seat other w w there) in
      (h.0, known_set (knowledge_of x) (set views seat w) other nothing_yet (known_set (knowledge_of x) views seat w h.1 theirs) (inl refl, (x.follower.past.entries, refl)))

  pub opens : (x : Replica A) → IsOfLog x.follower → HasBeginnings x (nothing_yet ∷ [])
  opens x is = admits x [] (is, λ j u e. absurd (some-ne-none u (sym e)))

  -- all of the log is shown
  whole : (new : Replica A) (w : Knowledge) (rest : List Told) (config : Config) (log : Log) → new.follower.past.config ≡ config → log ≡ log_in new.follower.past → new.follower.state ≡ state_of config log
      → w ≡ knowledge_of new → IsOfLog new.follower → rest ≡ [] → IsKnown new w rest config log
  whole new w rest config log same led knows all of none = record {
    all = all;
    config_same = same;
    published = of;
    leads = led ∙ ap (λ (l : List Told). log_in (followed_on new.follower l).past) (sym none);
    knows = ap (λ (l : List Told). (followed_on new.follower l).state) none ∙ knows;
  }

  -- what a publish leaves: all that was appended is published, or what was published before
  pub publishes : {U E : Type 0} (r : Result U E) (old new : Replica A) (v w : Knowledge) (waiting rest : List Told) (config : Config) (log : Log)
      → IsKnown old v waiting config log
      → MatchResult r (λ _. (new.follower ≡ followed_on old.follower waiting) × (rest ≡ [])) (λ _. (new ≡ old) × (rest ≡ waiting))
      → MatchResult r (λ _. Sees v old new w) (λ _. w ≡ v)
      → IsKnown new w rest config log × (OnOk r (log_in new.follower.past ≡ log) × IfErr r (λ _. log_in new.follower.past ≡ log_in old.follower.past))
  publishes (Ok u) old new v w waiting rest config log is values rule =
      let all = values.0 in
      let led : log ≡ log_in new.follower.past = is.leads ∙ ap (λ (f : Follower). log_in f.past) (sym all) in
      let same : new.follower.past.config ≡ config = ap (λ (f : Follower). f.past.config) all ∙ sym (same_config old.follower waiting) ∙ is.config_same in
      (whole new w rest config log same led (ap (λ (f : Follower). f.state) all ∙ is.knows) rule.1 rule.2 values.1, (sym led, tt))
  publishes (Err e) old new v w waiting rest config log is values rule =
      (subst (λ (p : Replica A × Knowledge × List Told). IsKnown p.0 p.1 p.2 config log) (λ i. (sym values.0 i, sym rule i, sym values.1 i)) is, (tt, ap (λ (x : Replica A). log_in x.follower.past) values.0))

  -- what the first publish leaves, before which nothing was appended: all of the core is published
  pub opened : {U E : Type 0} (r : Result U E) (old new : Replica A) (v w : Knowledge) (waiting rest : List Told) (config : Config) (log : Log)
      → is_err r ≡ false → old.follower.past.config ≡ config → log_in old.follower.past ≡ log → IsOfLog old.follower → waiting ≡ []
      → MatchResult r (λ _. (new.follower ≡ followed_on old.follower waiting) × (rest ≡ [])) (λ _. (new ≡ old) × (rest ≡ waiting))
      → MatchResult r (λ _. Sees v old new w) (λ _. w ≡ v)
      → IsKnown new w rest config log × (log_in new.follower.past ≡ log)
  opened (Ok u) old new v w waiting rest config log shown of is first none values rule =
      let all : new.follower ≡ old.follower = values.0 ∙ ap (followed_on old.follower) none in
      let led : log_in new.follower.past ≡ log = ap (λ (f : Follower). log_in f.past) all ∙ is in
      (whole new w rest config log (ap (λ (f : Follower). f.past.config) all ∙ of) (sym led) (ap (λ (f : Follower). f.state) all ∙ first.state ∙ (λ i. state_of (of i) (is i))) rule.1 rule.2 values.1, led)
  opened (Err e) old new v w waiting rest config log shown of is first none values rule = absurd (true≢false shown)
