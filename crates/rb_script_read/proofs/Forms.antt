-- What every script that was read keeps.
use Rattle.std.proofs.Common.{◌≡◌, ◌≢◌, ℕ, ◌+◌, ◌<◌, ◌≤◌, ◌==◌, nat_le, not, ◌||◌, List, [], ◌∷◌, ◌++◌, length, codes, Result, Ok, Err, None, Bool, true, false, All, AllPairs, IfOk, sum_by, refl, sym, ap, subst, ◌∙◌, arith}
use Rattle.std.specs.declared.alloc.Global.{Global}
use Rattle.std.proofs.lemmas.Bool.{eq-eqb, leb-true, true≢false}
use Rattle.std.proofs.lemmas.List.{length-map, length_push}
use Rattle.std.proofs.lemmas.List.Sums.{sum_by_push}
use Rattle.std.proofs.lemmas.List.Elements.{All-cons, All-push}
use Rattle.std.proofs.lemmas.List.Quantifiers.{all_pairs_push}
use Rattle.toml.specs.Data.{Items, no_items, item}
use Rattle.rb_script_types.specs.Script.{Script, Turn, IsReadScript, IsReadTurn, IsReadObservation, IsReadWindow, entry_count, script_view}
use Rattle.rb_script_types.specs.declared.version.Version.{Version}
use Rattle.rb_script_types.specs.Config.{Config}
use Rattle.rb_script_types.specs.Limits.{max_entries}
use Rattle.rb_script_types.specs.declared.script.Script.{Script as CodeScript}
use Rattle.rb_script_types.specs.declared.config.ClientConfig.{ClientConfig}
use Rattle.rb_script_types.specs.declared.config.PathConfig.{PathConfig}
use Rattle.rb_script_types.specs.declared.script.Asked.{Asked}
use Rattle.rb_script_types.specs.declared.script.HostWindow.{HostWindow}
use Rattle.rb_script_types.specs.declared.script.Settlement.{Settlement}
use Rattle.rb_script_types.specs.declared.observation.Observation.{Observation}
use Rattle.rb_script_toml.specs.Faults.{Fault, check, Gives}
use Rattle.rb_script_toml.specs.declared.fault.RunError.{RunError}
use Rattle.rb_script_toml.specs.declared.fault.FaultName.TheVariants.{OutOfRange, TwoGoals, TooManyEvents, DuplicateIdentifier, BadWindow}
use Rattle.rb_script_toml.specs.Fields.{Section, section_at, elements, next_in_sequence, in_sequence, needs, optional, or_default, only, maybe, number, max_number, height, time, hash, zero_hash, items, items_count}
use Rattle.rb_script_toml.specs.KeyPaths.{child, element}
use Rattle.rb_script_config.specs.Named.{reference}
use Rattle.rb_script_config.specs.Clients.{client, client_ids}
use Rattle.rb_script_read.specs.declared.event.EventKind.{EventKind}
use Rattle.rb_script_read.specs.declared.event.EventKind.TheVariants as kinds
use Rattle.rb_script_read.specs.Names.{Names, new_set_name, set_reference}
use Rattle.rb_script_read.specs.Sets.{validators}
use Rattle.rb_script_config.specs.Paths.{path, path_ids, sequence}
use Rattle.rb_script_read.specs.Packets.{block, height_or_none, time_or_none, time_in, sent, sent_keys, received, ack_written, ack_keys, packet_keys, cleared, cleared_keys, closed, closed_keys}
use Rattle.rb_script_read.specs.Events.{kind, votes, set_seen, set_keys, header_seen, header_keys, stored_seen, stored_keys, tracked_by, unnamed, event_of_kind, event}
use Rattle.rb_script_config.specs.Goals.{asked, goal_keys, goal_of, one_goal, is_asked, settlement, settlement_keys}
use Rattle.rb_script_config.specs.HostWindows.{host_window, window_keys, has_window}
use Rattle.rb_script_read.specs.Turns.{TurnHead, Reading, opening, entries, is_taken, windows_in, frame, turn_keys, turn}
use Rattle.rb_script_config.specs.Tables.{tables, config}
use Rattle.rb_script_read.specs.Work.{little}
use Rattle.rb_script_read.specs.Scripts.{script}
use Rattle.rb_script_config.proofs.ConfigForms.{pass, same_ok, check-passed, needs-field, elements-keep, elements-count, reference-within, client-within, place-within, tables-few, config-form}

-- ---- tables in sequence

module _ {S A : Type 0} (read : S → Section → Result (A × S) Fault) (P : List A → Type 0)
    (more : (before : List A) (state : S) (s : Section) (x : A × S) → P before → read state s ≡ Ok x → P (before ++ x.0 ∷ [])) where
  in_sequence-keep : (path : List ℕ) (state : S) (before : List A) (ds : Items) (all : List A × S) → P before → in_sequence read path state before ds ≡ Ok all → P all.0
  in_sequence-keep path state before no_items all kept h = subst P (ap (λ (x : List A × S). x.0) (same_ok (before, state) all h)) kept
  in_sequence-keep path state before (item d ds) all kept h =
      pass (next_in_sequence read path (length before) state d) (λ x. in_sequence read path x.1 (before ++ x.0 ∷ []) ds) all h (λ x e rest.
      pass (section_at (element path (length before)) d) (read state) x e (λ s t r.
      in_sequence-keep path x.1 (before ++ x.0 ∷ []) ds all (more before state s x kept r) rest))

module _ {S A : Type 0} (read : S → Section → Result (A × S) Fault) where
  pub in_sequence-count : (path : List ℕ) (state : S) (before : List A) (ds : Items) (all : List A × S) → in_sequence read path state before ds ≡ Ok all
      → length all.0 ≡ length before + items_count ds
  in_sequence-count path state before no_items all h = omega (arith, ap (λ (x : List A × S). length x.0) (same_ok (before, state) all h))
  in_sequence-count path state before (item d ds) all h =
      pass (next_in_sequence read path (length before) state d) (λ x. in_sequence read path x.1 (before ++ x.0 ∷ []) ds) all h (λ x e rest.
      let more = in_sequence-count path x.1 (before ++ x.0 ∷ []) ds all rest in omega (arith, more, length_push before x.0))

-- what all tables and the state together keep
module _ {S A : Type 0} (read : S → Section → Result (A × S) Fault) (P : List A → S → Type 0)
    (more : (before : List A) (state : S) (s : Section) (x : A × S) → P before state → read state s ≡ Ok x → P (before ++ x.0 ∷ []) x.1) where
  states-keep : (path : List ℕ) (state : S) (before : List A) (ds : Items) (all : List A × S) → P before state → in_sequence read path state before ds ≡ Ok all → P all.0 all.1
  states-keep path state before no_items all kept h = subst (λ (x : List A × S). P x.0 x.1) (same_ok (before, state) all h) kept
  states-keep path state before (item d ds) all kept h =
      pass (next_in_sequence read path (length before) state d) (λ x. in_sequence read path x.1 (before ++ x.0 ∷ []) ds) all h (λ x e rest.
      pass (section_at (element path (length before)) d) (read state) x e (λ s t r.
      states-keep path x.1 (before ++ x.0 ∷ []) ds all (more before state s x kept r) rest))

-- ---- windows of hosts

no_window-next : (host : ℕ) (w : HostWindow) (ws : List HostWindow) (b : Bool) → (w.host == host) ≡ b → not (b || has_window host ws) ≡ true
    → (not (has_window host ws) ≡ true → All (λ x. x.host ≢ host) ws) → All (λ x. x.host ≢ host) (w ∷ ws)
no_window-next host w ws true e h rest = absurd (true≢false (sym h))
no_window-next host w ws false e h rest =
    All-cons (λ x. x.host ≢ host) w ws (λ same. true≢false (sym (eq-eqb w.host host same) ∙ e)) (rest h)

no_window : (host : ℕ) (before : List HostWindow) → not (has_window host before) ≡ true → All (λ w. w.host ≢ host) before
no_window host [] h = λ k d lt. absurd (omega arith)
no_window host (w ∷ ws) h = no_window-next host w ws (w.host == host) refl h (no_window host ws)

host_window-form : (chains : List (List ℕ)) (before : List HostWindow) (s : Section) (w : HostWindow) → host_window chains before s ≡ Ok w
    → IsReadWindow (length chains) w × All (λ x. x.host ≢ w.host) before
unfolding host_window
host_window-form chains before s w h =
    pass (only window_keys s) _ w h (λ u e0 h0.
    pass (needs (codes "host") (reference chains) s) _ w h0 (λ i e1 h1.
    pass (needs (codes "from") time s) _ w h1 (λ from e2 h2.
    pass (needs (codes "until") time s) _ w h2 (λ until e3 h3.
    pass (check (not (has_window i before)) DuplicateIdentifier s.path) _ w h3 (λ v passed h4.
    pass (check (nat_le from until) BadWindow s.path) _ w h4 (λ t ordered same.
    subst (λ x. IsReadWindow (length chains) x × All (λ y. y.host ≢ x.host) before) (same_ok _ w same) (
      (place-within (codes "host") chains s i e1, leb-true from until (check-passed _ BadWindow s.path t ordered)),
      no_window i before (check-passed _ DuplicateIdentifier s.path v passed),
    )))))))

abbrev AreWindows : ℕ → List HostWindow → Type 0
AreWindows chains ws = All (IsReadWindow chains) ws × AllPairs (λ v w. v.host ≢ w.host) ws

windows-form : (chains : List (List ℕ)) (path : List ℕ) (ds : Items) (windows : List HostWindow) → elements (host_window chains) path [] ds ≡ Ok windows
    → AreWindows (length chains) windows
windows-form chains path ds windows h =
    elements-keep (host_window chains) (AreWindows (length chains)) (λ before s w kept read.
    let one = host_window-form chains before s w read in (
      All-push (IsReadWindow (length chains)) before w kept.0 one.0,
      all_pairs_push (λ a b. a.host ≢ b.host) before w kept.1 (λ k d lt. one.1 k d lt),
    )) path [] ds windows ((λ k d lt. absurd (omega arith)), (λ i j d lt end. absurd (omega arith))) h

-- ---- goals and settlements

not_asked-next : (client : ℕ) (g : Asked) (gs : List Asked) (b : Bool) → (g.client == client) ≡ b → not (b || is_asked client gs) ≡ true
    → (not (is_asked client gs) ≡ true → All (λ x. x.client ≢ client) gs) → All (λ x. x.client ≢ client) (g ∷ gs)
not_asked-next client g gs true e h rest = absurd (true≢false (sym h))
not_asked-next client g gs false e h rest =
    All-cons (λ x. x.client ≢ client) g gs (λ same. true≢false (sym (eq-eqb g.client client same) ∙ e)) (rest h)

not_asked : (client : ℕ) (before : List Asked) → not (is_asked client before) ≡ true → All (λ g. g.client ≢ client) before
not_asked client [] h = λ k d lt. absurd (omega arith)
not_asked client (g ∷ gs) h = not_asked-next client g gs (g.client == client) refl h (not_asked client gs)

asked-form : (clients : List (List ℕ)) (before : List Asked) (s : Section) (g : Asked) → asked clients before s ≡ Ok g
    → (g.client < length clients) × All (λ x. x.client ≢ g.client) before
unfolding asked
asked-form clients before s g h =
    pass (only goal_keys s) _ g h (λ u e0 h0.
    pass (needs (codes "client") (reference clients) s) _ g h0 (λ i e1 h1.
    pass (maybe height (optional (codes "at_least") s)) _ g h1 (λ least e2 h2.
    pass (maybe height (optional (codes "exactly") s)) _ g h2 (λ exact e3 h3.
    pass (one_goal s.path (goal_of least exact)) _ g h3 (λ goal e4 h4.
    pass (check (not (is_asked i before)) TwoGoals s.path) _ g h4 (λ v passed same.
    subst (λ x. (x.client < length clients) × All (λ y. y.client ≢ x.client) before) (same_ok _ g same)
    (place-within (codes "client") clients s i e1, not_asked i before (check-passed _ TwoGoals s.path v passed))))))))

abbrev AreGoals : ℕ → List Asked → Type 0
AreGoals clients gs = All (λ g. g.client < clients) gs × AllPairs (λ g h. g.client ≢ h.client) gs

goals-form : (clients : List (List ℕ)) (path : List ℕ) (ds : Items) (goals : List Asked) → elements (asked clients) path [] ds ≡ Ok goals → AreGoals (length clients) goals
goals-form clients path ds goals h =
    elements-keep (asked clients) (AreGoals (length clients)) (λ before s g kept read.
    let one = asked-form clients before s g read in (
      All-push (λ x. x.client < length clients) before g kept.0 one.0,
      all_pairs_push (λ a b. a.client ≢ b.client) before g kept.1 (λ k d lt. one.1 k d lt),
    )) path [] ds goals ((λ k d lt. absurd (omega arith)), (λ i j d lt end. absurd (omega arith))) h

settlement-form : (clients : List (List ℕ)) (before : List Settlement) (s : Section) (x : Settlement) → settlement clients before s ≡ Ok x → x.client < length clients
unfolding settlement
settlement-form clients before s x h =
    pass (only settlement_keys s) _ x h (λ u e0 h0.
    pass (needs (codes "client") (reference clients) s) _ x h0 (λ i e1 h1.
    pass (needs (codes "batch") (number 1 max_number OutOfRange) s) _ x h1 (λ batch e2 h2.
    pass (needs (codes "done") (number 0 max_number OutOfRange) s) _ x h2 (λ done e3 same.
    subst (λ (y : Settlement). y.client < length clients) (same_ok _ x same) (place-within (codes "client") clients s i e1)))))

settlements-form : (clients : List (List ℕ)) (path : List ℕ) (ds : Items) (settlements : List Settlement) → elements (settlement clients) path [] ds ≡ Ok settlements
    → All (λ (x : Settlement). x.client < length clients) settlements
settlements-form clients path ds settlements h =
    elements-keep (settlement clients) (All (λ (x : Settlement). x.client < length clients))
    (λ before s x kept read. All-push (λ (y : Settlement). y.client < length clients) before x kept (settlement-form clients before s x read))
    path [] ds settlements (λ k d lt. absurd (omega arith)) h

-- ---- events

path-within : (paths : List PathConfig) (s : Section) (i : ℕ) → needs (codes "path") (reference (path_ids paths)) s ≡ Ok i → i < length paths
path-within paths s i h =
    needs-field (codes "path") (reference (path_ids paths)) s i h
    (λ f r. let within = reference-within (path_ids paths) f i r in omega (arith, length-map paths (λ (x : PathConfig). x.id)))

-- of so many chains, clients and paths
module _ (chains clients paths : ℕ) where
  abbrev IsSeenThere : Observation Global → Type 0
  IsSeenThere e = IsReadObservation chains clients paths e

  unnamed-form : (names : Names) (read : Result (Observation Global) Fault) (x : Observation Global × Names) → unnamed names read ≡ Ok x
      → ((e : Observation Global) → read ≡ Ok e → IsSeenThere e) → IsSeenThere x.0
  unnamed-form names read x h form =
      pass read (λ e. Ok (e, names)) x h (λ e r same. subst (λ (y : Observation Global × Names). IsSeenThere y.0) (same_ok (e, names) x same) (form e r))

set_seen-form : (chains : List (List ℕ)) (clients paths : ℕ) (names : Names) (s : Section) (x : Observation Global × Names) → set_seen chains names s ≡ Ok x
    → IsReadObservation (length chains) clients paths x.0
unfolding set_seen
set_seen-form chains clients paths names s x h =
    pass (only set_keys s) _ x h (λ u e0 h0.
    pass (needs (codes "chain") (reference chains) s) _ x h0 (λ chain e1 h1.
    pass (needs (codes "name") (new_set_name (names chain)) s) _ x h1 (λ name e2 h2.
    pass (needs (codes "validators") validators s) _ x h2 (λ set e3 same.
    subst (λ (y : Observation Global × Names). IsReadObservation (length chains) clients paths y.0) (same_ok _ x same) (place-within (codes "chain") chains s chain e1)))))

header_seen-form : (chains : List (List ℕ)) (clients paths : ℕ) (names : Names) (s : Section) (x : Observation Global) → header_seen chains names s ≡ Ok x
    → IsReadObservation (length chains) clients paths x
unfolding header_seen
header_seen-form chains clients paths names s x h =
    pass (only header_keys s) _ x h (λ u e0 h0.
    pass (needs (codes "chain") (reference chains) s) _ x h0 (λ chain e1 h1.
    pass (needs (codes "height") height s) _ x h1 (λ at e2 h2.
    pass (needs (codes "time") time s) _ x h2 (λ t e3 h3.
    pass (or_default zero_hash hash (optional (codes "root") s)) _ x h3 (λ root e4 h4.
    pass (needs (codes "set") (set_reference (names chain)) s) _ x h4 (λ set e5 h5.
    pass (needs (codes "next") (set_reference (names chain)) s) _ x h5 (λ next e6 h6.
    pass (needs (codes "votes") votes s) _ x h6 (λ vs e7 same.
    subst (IsReadObservation (length chains) clients paths) (same_ok _ x same) (place-within (codes "chain") chains s chain e1)))))))))

stored_seen-form : (chains paths : ℕ) (clients : List ClientConfig) (names : Names) (s : Section) (x : Observation Global) → stored_seen clients names s ≡ Ok x
    → IsReadObservation chains (length clients) paths x
unfolding stored_seen
stored_seen-form chains paths clients names s x h =
    pass (only stored_keys s) _ x h (λ u e0 h0.
    pass (needs (codes "client") (reference (client_ids clients)) s) _ x h0 (λ i e1 h1.
    pass (needs (codes "height") height s) _ x h1 (λ at e2 h2.
    pass (needs (codes "time") time s) _ x h2 (λ t e3 h3.
    pass (or_default zero_hash hash (optional (codes "root") s)) _ x h3 (λ root e4 h4.
    pass (needs (codes "next") (set_reference (names (tracked_by clients i))) s) _ x h4 (λ next e5 same.
    subst (IsReadObservation chains (length clients) paths) (same_ok _ x same) (client-within (codes "client") clients s i e1)))))))

module _ (version : Version) (chains clients : ℕ) (paths : List PathConfig) (s : Section) (x : Observation Global) where
  abbrev Kept : Type 0
  Kept = IsReadObservation chains clients (length paths) x

  sent-form : sent version paths s ≡ Ok x → Kept
  unfolding sent
  sent-form h =
      pass (only (sent_keys version) s) _ x h (λ u e0 h0.
      pass (needs (codes "path") (reference (path_ids paths)) s) _ x h0 (λ i e1 h1.
      pass (needs (codes "seq") sequence s) _ x h1 (λ seq e2 h2.
      pass (needs (codes "height") block s) _ x h2 (λ at e3 h3.
      pass (time_in version s) _ x h3 (λ moment e4 h4.
      pass (or_default None height_or_none (optional (codes "timeout_height") s)) _ x h4 (λ th e5 h5.
      pass (or_default None time_or_none (optional (codes "timeout_time") s)) _ x h5 (λ tt e6 same.
      subst (IsReadObservation chains clients (length paths)) (same_ok _ x same) (path-within paths s i e1))))))))

  received-form : received paths s ≡ Ok x → Kept
  unfolding received
  received-form h =
      pass (only packet_keys s) _ x h (λ u e0 h0.
      pass (needs (codes "path") (reference (path_ids paths)) s) _ x h0 (λ i e1 h1.
      pass (needs (codes "seq") sequence s) _ x h1 (λ seq e2 h2.
      pass (needs (codes "height") block s) _ x h2 (λ at e3 same.
      subst (IsReadObservation chains clients (length paths)) (same_ok _ x same) (path-within paths s i e1)))))

  ack_written-form : ack_written version paths s ≡ Ok x → Kept
  unfolding ack_written
  ack_written-form h =
      pass (only (ack_keys version) s) _ x h (λ u e0 h0.
      pass (needs (codes "path") (reference (path_ids paths)) s) _ x h0 (λ i e1 h1.
      pass (needs (codes "seq") sequence s) _ x h1 (λ seq e2 h2.
      pass (needs (codes "height") block s) _ x h2 (λ at e3 h3.
      pass (time_in version s) _ x h3 (λ moment e4 same.
      subst (IsReadObservation chains clients (length paths)) (same_ok _ x same) (path-within paths s i e1))))))

  cleared-form : cleared paths s ≡ Ok x → Kept
  unfolding cleared
  cleared-form h =
      pass (only cleared_keys s) _ x h (λ u e0 h0.
      pass (needs (codes "path") (reference (path_ids paths)) s) _ x h0 (λ i e1 h1.
      pass (needs (codes "seq") sequence s) _ x h1 (λ seq e2 same.
      subst (IsReadObservation chains clients (length paths)) (same_ok _ x same) (path-within paths s i e1))))

  closed-form : closed paths s ≡ Ok x → Kept
  unfolding closed
  closed-form h =
      pass (only closed_keys s) _ x h (λ u e0 h0.
      pass (needs (codes "path") (reference (path_ids paths)) s) _ x h0 (λ i e1 same.
      subst (IsReadObservation chains clients (length paths)) (same_ok _ x same) (path-within paths s i e1)))

-- what is seen of a script that is set up so
abbrev IsSeenBy : Config → Observation Global → Type 0
IsSeenBy c e = IsReadObservation (length c.chains) (length c.clients) (length c.paths) e

of_kind-form : (k : EventKind) (c : Config) (names : Names) (s : Section) (x : Observation Global × Names) → event_of_kind k c names s ≡ Ok x → IsSeenBy c x.0
of_kind-form kinds.Set c names s x h = set_seen-form c.chains (length c.clients) (length c.paths) names s x h
of_kind-form kinds.Header c names s x h =
    unnamed-form (length c.chains) (length c.clients) (length c.paths) names (header_seen c.chains names s) x h (header_seen-form c.chains (length c.clients) (length c.paths) names s)
of_kind-form kinds.Stored c names s x h =
    unnamed-form (length c.chains) (length c.clients) (length c.paths) names (stored_seen c.clients names s) x h (stored_seen-form (length c.chains) (length c.paths) c.clients names s)
of_kind-form kinds.Sent c names s x h =
    unnamed-form (length c.chains) (length c.clients) (length c.paths) names (sent c.version c.paths s) x h (sent-form c.version (length c.chains) (length c.clients) c.paths s)
of_kind-form kinds.Received c names s x h =
    unnamed-form (length c.chains) (length c.clients) (length c.paths) names (received c.paths s) x h (received-form c.version (length c.chains) (length c.clients) c.paths s)
of_kind-form kinds.Ack c names s x h =
    unnamed-form (length c.chains) (length c.clients) (length c.paths) names (ack_written c.version c.paths s) x h (ack_written-form c.version (length c.chains) (length c.clients) c.paths s)
of_kind-form kinds.Cleared c names s x h =
    unnamed-form (length c.chains) (length c.clients) (length c.paths) names (cleared c.paths s) x h (cleared-form c.version (length c.chains) (length c.clients) c.paths s)
of_kind-form kinds.Closed c names s x h =
    unnamed-form (length c.chains) (length c.clients) (length c.paths) names (closed c.paths s) x h (closed-form c.version (length c.chains) (length c.clients) c.paths s)

event-form : (c : Config) (names : Names) (s : Section) (x : Observation Global × Names) → event c names s ≡ Ok x → IsSeenBy c x.0
unfolding event
event-form c names s x h = pass (needs (codes "kind") kind s) _ x h (λ k e0 h0. of_kind-form k c names s x h0)

events-form : (c : Config) (path : List ℕ) (names : Names) (ds : Items) (all : List (Observation Global) × Names) → in_sequence (event c) path names [] ds ≡ Ok all → All (IsSeenBy c) all.0
events-form c path names ds all h =
    in_sequence-keep (event c) (All (IsSeenBy c)) (λ before state s x kept read. All-push (IsSeenBy c) before x.0 kept (event-form c state s x read))
    path names [] ds all (λ k d lt. absurd (omega arith)) h

-- ---- turns

-- a window that doesn't end before it begins, and the room that is left
record IsTurnHead (room : ℕ) (f : TurnHead) : Type 0 where
  window : f.window.from ≤ f.window.until
  left : entries f.windows f.goals f.events f.settlements + f.room ≡ room

head-form : (ver : Version) (room : ℕ) (s : Section) (f : TurnHead) → frame ver room s ≡ Ok f → IsTurnHead room f
unfolding frame
head-form ver room s f h =
    pass (only (turn_keys ver) s) _ f h (λ u e0 h0.
    pass (needs (codes "from") time s) _ f h0 (λ from e1 h1.
    pass (needs (codes "until") time s) _ f h1 (λ until e2 h2.
    pass (windows_in ver s) _ f h2 (λ windows e3 h3.
    pass (or_default no_items items (optional (codes "goal") s)) _ f h3 (λ goals e4 h4.
    pass (or_default no_items items (optional (codes "event") s)) _ f h4 (λ events e5 h5.
    pass (or_default no_items items (optional (codes "settle") s)) _ f h5 (λ settlements e6 h6.
    pass (is_taken ver s) _ f h6 (λ whole e7 h7.
    pass (check (nat_le (entries windows goals events settlements) room) TooManyEvents s.path) _ f h7 (λ v few h8.
    pass (check (nat_le from until) BadWindow s.path) _ f h8 (λ w ordered same.
    let fits = leb-true (entries windows goals events settlements) room (check-passed _ TooManyEvents s.path v few) in
    subst (IsTurnHead room) (same_ok _ f same) (record {
      window = leb-true from until (check-passed _ BadWindow s.path w ordered);
      left = omega (arith, fits);
    })))))))))))

-- a turn keeps what every turn keeps, and takes room for its entries
pub record IsTaken (c : Config) (reading : Reading) (x : Turn Global × Reading) : Type 0 where
  pub turn : IsReadTurn (length c.chains) (length c.clients) (length c.paths) x.0
  pub room : entry_count x.0 + x.1.room ≡ reading.room

pub turn-form : (c : Config) (reading : Reading) (s : Section) (x : Turn Global × Reading) → turn c reading s ≡ Ok x → IsTaken c reading x
unfolding turn
turn-form c reading s x h =
    let ids = client_ids c.clients in
    let count = length-map c.clients (λ (k : ClientConfig). k.id) in
    pass (frame c.version reading.room s) _ x h (λ f e0 h0.
    pass (elements (host_window c.chains) (child s.path (codes "window")) [] f.windows) _ x h0 (λ windows e1 h1.
    pass (elements (asked ids) (child s.path (codes "goal")) [] f.goals) _ x h1 (λ goals e2 h2.
    pass (in_sequence (event c) (child s.path (codes "event")) reading.names [] f.events) _ x h2 (λ events e3 h3.
    pass (elements (settlement ids) (child s.path (codes "settle")) [] f.settlements) _ x h3 (λ settlements e4 same.
    let framed = head-form c.version reading.room s f e0 in
    let hosted_well = windows-form c.chains (child s.path (codes "window")) f.windows windows e1 in
    let asked_well = subst (λ n. AreGoals n goals) count (goals-form ids (child s.path (codes "goal")) f.goals goals e2) in
    let settled_well = subst (λ n. All (λ (y : Settlement). y.client < n) settlements) count (settlements-form ids (child s.path (codes "settle")) f.settlements settlements e4) in
    let hosted_count = elements-count (host_window c.chains) (child s.path (codes "window")) [] f.windows windows e1 in
    let asked_count = elements-count (asked ids) (child s.path (codes "goal")) [] f.goals goals e2 in
    let seen_count = in_sequence-count (event c) (child s.path (codes "event")) reading.names [] f.events events e3 in
    let settled_count = elements-count (settlement ids) (child s.path (codes "settle")) [] f.settlements settlements e4 in
    subst (IsTaken c reading) (same_ok _ x same) (record {
      turn = record {
        window = framed.window;
        windows = hosted_well.0;
        hosts = hosted_well.1;
        goals = asked_well.0;
        once = asked_well.1;
        events = events-form c (child s.path (codes "event")) reading.names f.events events e3;
        settlements = settled_well;
      };
      room = omega (arith, framed.left, hosted_count, asked_count, seen_count, settled_count);
    }))))))

-- so do all turns
record AreTaken (c : Config) (ts : List (Turn Global)) (reading : Reading) : Type 0 where
  turns : All (IsReadTurn (length c.chains) (length c.clients) (length c.paths)) ts
  room : sum_by entry_count ts + reading.room ≡ max_entries

turns-form : (c : Config) (ds : Items) (all : List (Turn Global) × Reading) → in_sequence (turn c) (codes "turn") opening [] ds ≡ Ok all → AreTaken c all.0 all.1
turns-form c ds all h =
    states-keep (turn c) (AreTaken c)
    (λ before state s x kept read.
    let one = turn-form c state s x read in record {
      turns = All-push (IsReadTurn (length c.chains) (length c.clients) (length c.paths)) before x.0 kept.turns one.turn;
      room = omega (arith, kept.room, one.room, sum_by_push entry_count before x.0);
    }) (codes "turn") opening [] ds all (record { turns = λ k d lt. absurd (omega arith); room = refl }) h

-- ---- scripts

pub script-form : (s : Section) (t : Script Global) → script s ≡ Ok t → IsReadScript t
unfolding script
script-form s t h =
    pass (tables s) _ t h (λ x e0 h0.
    pass (config x) _ t h0 (λ c e1 h1.
    pass (in_sequence (turn c) (codes "turn") opening [] x.turns) _ t h1 (λ turns e2 h2.
    pass (little c turns.0) _ t h2 (λ u e3 same.
    let few = tables-few s x e0 in
    let taken = turns-form c x.turns turns e2 in
    subst IsReadScript (same_ok _ t same) (record {
      config = config-form x c few e1;
      turns = taken.turns;
      few_turns = omega (arith, few.turns, in_sequence-count (turn c) (codes "turn") opening [] x.turns turns e2);
      few_entries = omega (arith, taken.room);
    })))))

pub form-of : (P : Script Global → Type 0) (r : Result (CodeScript Global) RunError) (read : Result (Script Global) Fault) → Gives script_view r read
    → ((t : Script Global) → read ≡ Ok t → P t) → IfOk r (λ s. P (script_view s))
form-of P (Ok s) read h form = form (script_view s) h
form-of P (Err e) read h form = tt
