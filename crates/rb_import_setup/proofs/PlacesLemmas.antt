-- Which chains and clients a setup that is read names.
use Rattle.std.proofs.Common.{◌≡◌, ℕ, ◌<◌, ◌==◌, nat_le, not, List, [], map, length, get_or, codes, Ok, All, arith, subst, sym}
use Rattle.std.proofs.lemmas.List.{length-map, get_or-map}
use Rattle.std.proofs.lemmas.List.Elements.{All-push}
use Rattle.toml.specs.Data.{Items}
use Rattle.rb_script_types.specs.declared.script.Asked.{Asked}
use Rattle.rb_script_types.specs.declared.script.HostWindow.{HostWindow}
use Rattle.rb_script_types.specs.declared.script.Settlement.{Settlement}
use Rattle.rb_script_toml.specs.Faults.{check}
use Rattle.rb_script_toml.specs.KeyPaths.{child}
use Rattle.rb_script_toml.specs.Fields.{Section, only, needs, optional, maybe, number, height, time, max_number, elements}
use Rattle.rb_script_toml.specs.declared.fault.FaultName.TheVariants.{BadWindow, DuplicateIdentifier, OutOfRange, SameChain, TwoGoals}
use Rattle.rb_script_config.specs.Chains.{no_defaults}
use Rattle.rb_script_config.specs.Clients.{identity, terms}
use Rattle.rb_script_config.specs.Goals.{asked, goal_keys, goal_of, one_goal, is_asked, settlement, settlement_keys}
use Rattle.rb_script_config.specs.HostWindows.{has_window, host_window, window_keys}
use Rattle.rb_script_config.specs.Named.{reference}
use Rattle.rb_script_config.specs.Channels.{channel_in}
use Rattle.rb_script_config.specs.Paths.{path_config, waits_in, fits}
use Rattle.rb_script_types.specs.declared.version.Version.TheVariants.{Two, Three}
use Rattle.rb_script_config.proofs.ConfigForms.{pass, same_ok, elements-keep, place-within, identity-form, path_config-form}
use Rattle.rb_import_setup.specs.declared.setup.ClientSetup.{ClientSetup}
use Rattle.rb_import_setup.specs.declared.setup.PathSetup.{PathSetup}
use Rattle.rb_import_setup.specs.declared.setup.TurnSetup.{TurnSetup}
use Rattle.rb_import_setup.specs.Clients.{client, client_ends, client_ids, level}
use Rattle.rb_import_setup.specs.Paths.{Path, path, path_ids, path_keys, path_view}
use Rattle.rb_import_setup.specs.Turns.{Turn, frame, turn, turn_view}
use Rattle.rb_import_setup.specs.Places.{IsClientOf, IsPathOf, IsTurnOf, ArePlaces}

-- ---- clients

client-places : (chains : List (List ℕ)) (before : List ClientSetup) (s : Section) (c : ClientSetup) → client chains before s ≡ Ok c → IsClientOf (length chains) c
unfolding client
client-places chains before s c h =
    pass (identity Two chains (client_ids before) s) _ c h (λ i e0 h0.
    pass (maybe (number 1 max_number OutOfRange) (optional (codes "period_ns") s)) _ c h0 (λ period e1 h1.
    pass (maybe (number 0 max_number OutOfRange) (optional (codes "drift_ns") s)) _ c h1 (λ drift e2 h2.
    pass (terms no_defaults s) _ c h2 (λ t e3 h3.
    pass (maybe level (optional (codes "trust") s)) _ c h3 (λ trusted e4 h4.
    pass (check (not (i.host == i.tracks)) SameChain s.path) _ c h4 (λ u e5 same.
    let named = identity-form Two chains (client_ids before) s i e0 in
    subst (IsClientOf (length chains)) (same_ok _ c same) (record { host = named.0; tracks = named.1 })))))))

pub clients-places : (chains : List (List ℕ)) (ds : Items) (clients : List ClientSetup) → elements (client chains) (codes "client") [] ds ≡ Ok clients
    → All (IsClientOf (length chains)) clients
clients-places chains ds clients h =
    elements-keep (client chains) (All (IsClientOf (length chains)))
    (λ before s c kept read. All-push (IsClientOf (length chains)) before c kept (client-places chains before s c read))
    (codes "client") [] ds clients (λ k d lt. absurd (omega arith)) h

-- ---- paths

abbrev IsPlaced : List (List ℕ) → List ClientSetup → Path → Type 0
IsPlaced chains clients p = IsPathOf (length chains) (length clients) p.config

path-places : (chains : List (List ℕ)) (clients : List ClientSetup) (before : List Path) (s : Section) (p : Path) → path chains clients before s ≡ Ok p → IsPlaced chains clients p
unfolding path
path-places chains clients before s p h =
    let count = length-map clients (λ (c : ClientSetup). c.id) in
    pass (only path_keys s) _ p h (λ u e0 h0.
    pass (path_config chains (client_ids clients) (path_ids before) s) _ p h0 (λ q e1 h1.
    pass (waits_in Three s) _ p h1 (λ waits ew hw.
    pass (channel_in Three s) _ p hw (λ channel e2 h2.
    pass (fits client_ends clients q s.path) _ p h2 (λ v e3 same.
    let named = path_config-form chains (client_ids clients) (path_ids before) s q e1 in
    subst (IsPlaced chains clients) (same_ok _ p same) (record {
      source = named.0;
      destination = named.1;
      forward = omega (arith, named.2, count);
      back = omega (arith, named.3, count);
    }))))))

pub all-views : {A B : Type 0} (P : B → Type 0) (view : A → B) (xs : List A) → All P (map view xs) → All (λ x. P (view x)) xs
all-views P view xs all k d lt = subst P (get_or-map view xs k d (view d) lt) (all k (view d) (omega (arith, lt, length-map xs view)))

pub paths-places : (chains : List (List ℕ)) (clients : List ClientSetup) (ds : Items) (paths : List PathSetup) → elements (path chains clients) (codes "path") [] ds ≡ Ok (map path_view paths)
    → All (λ p. IsPathOf (length chains) (length clients) p.config) paths
paths-places chains clients ds paths h =
    all-views (IsPlaced chains clients) path_view paths
    (elements-keep (path chains clients) (All (IsPlaced chains clients))
    (λ before s p kept read. All-push (IsPlaced chains clients) before p kept (path-places chains clients before s p read))
    (codes "path") [] ds (map path_view paths) (λ k d lt. absurd (omega arith)) h)

-- ---- turns

window-places : (chains : List (List ℕ)) (before : List HostWindow) (s : Section) (w : HostWindow) → host_window chains before s ≡ Ok w → w.host < length chains
unfolding host_window
window-places chains before s w h =
    pass (only window_keys s) _ w h (λ u e0 h0.
    pass (needs (codes "host") (reference chains) s) _ w h0 (λ host e1 h1.
    pass (needs (codes "from") time s) _ w h1 (λ from e2 h2.
    pass (needs (codes "until") time s) _ w h2 (λ until e3 h3.
    pass (check (not (has_window host before)) DuplicateIdentifier s.path) _ w h3 (λ v e4 h4.
    pass (check (nat_le from until) BadWindow s.path) _ w h4 (λ v e5 same.
    subst (λ (x : HostWindow). x.host < length chains) (same_ok _ w same) (place-within (codes "host") chains s host e1)))))))

asked-places : (clients : List (List ℕ)) (before : List Asked) (s : Section) (g : Asked) → asked clients before s ≡ Ok g → g.client < length clients
unfolding asked
asked-places clients before s g h =
    pass (only goal_keys s) _ g h (λ u e0 h0.
    pass (needs (codes "client") (reference clients) s) _ g h0 (λ i e1 h1.
    pass (maybe height (optional (codes "at_least") s)) _ g h1 (λ least e2 h2.
    pass (maybe height (optional (codes "exactly") s)) _ g h2 (λ exact e3 h3.
    pass (one_goal s.path (goal_of least exact)) _ g h3 (λ goal e4 h4.
    pass (check (not (is_asked i before)) TwoGoals s.path) _ g h4 (λ v e5 same.
    subst (λ (x : Asked). x.client < length clients) (same_ok _ g same) (place-within (codes "client") clients s i e1)))))))

settlement-places : (clients : List (List ℕ)) (before : List Settlement) (s : Section) (x : Settlement) → settlement clients before s ≡ Ok x → x.client < length clients
unfolding settlement
settlement-places clients before s x h =
    pass (only settlement_keys s) _ x h (λ u e0 h0.
    pass (needs (codes "client") (reference clients) s) _ x h0 (λ i e1 h1.
    pass (needs (codes "batch") (number 1 max_number OutOfRange) s) _ x h1 (λ batch e2 h2.
    pass (needs (codes "done") (number 0 max_number OutOfRange) s) _ x h2 (λ done e3 same.
    subst (λ (y : Settlement). y.client < length clients) (same_ok _ x same) (place-within (codes "client") clients s i e1)))))

-- the hosts of a turn's windows are among so many chains, and the clients of its goals and settlements among so many
pub record IsPlacedTurn (chains clients : ℕ) (t : Turn) : Type 0 where
  pub windows : All (λ (w : HostWindow). w.host < chains) t.windows
  pub goals : All (λ (g : Asked). g.client < clients) t.goals
  pub settlements : All (λ (x : Settlement). x.client < clients) t.settlements

turn-places : (chains : List (List ℕ)) (clients : List ClientSetup) (before : List Turn) (s : Section) (t : Turn) → turn chains clients before s ≡ Ok t
    → IsPlacedTurn (length chains) (length (client_ids clients)) t
unfolding turn
turn-places chains clients before s t h =
    let ids = client_ids clients in
    let Hosts : HostWindow → Type 0 = λ w. w.host < length chains in
    let Asks : Asked → Type 0 = λ g. g.client < length ids in
    let Settles : Settlement → Type 0 = λ x. x.client < length ids in
    pass (frame s) _ t h (λ f e0 h0.
    pass (elements (host_window chains) (child s.path (codes "window")) [] f.windows) _ t h0 (λ windows e3 h3.
    pass (elements (asked ids) (child s.path (codes "goal")) [] f.goals) _ t h3 (λ goals e1 h1.
    pass (elements (settlement ids) (child s.path (codes "settle")) [] f.settlements) _ t h1 (λ settlements e2 same.
    subst (IsPlacedTurn (length chains) (length ids)) (same_ok _ t same) (record {
      windows = elements-keep (host_window chains) (All Hosts) (λ before s w kept read. All-push Hosts before w kept (window-places chains before s w read))
          (child s.path (codes "window")) [] f.windows windows (λ k d lt. absurd (omega arith)) e3;
      goals = elements-keep (asked ids) (All Asks) (λ before s g kept read. All-push Asks before g kept (asked-places ids before s g read))
          (child s.path (codes "goal")) [] f.goals goals (λ k d lt. absurd (omega arith)) e1;
      settlements = elements-keep (settlement ids) (All Settles) (λ before s x kept read. All-push Settles before x kept (settlement-places ids before s x read))
          (child s.path (codes "settle")) [] f.settlements settlements (λ k d lt. absurd (omega arith)) e2;
    })))))

pub turn-view : (m n : ℕ) (t : TurnSetup) → IsPlacedTurn m n (turn_view t) → IsTurnOf m n t
turn-view m n t placed = record { windows = placed.windows; goals = placed.goals; settlements = placed.settlements }

pub turns-places : (chains : List (List ℕ)) (clients : List ClientSetup) (ds : Items) (turns : List TurnSetup) → elements (turn chains clients) (codes "turn") [] ds ≡ Ok (map turn_view turns)
    → All (IsTurnOf (length chains) (length clients)) turns
turns-places chains clients ds turns h =
    let m = length chains in
    let Placed : Turn → Type 0 = IsPlacedTurn m (length (client_ids clients)) in
    let all = all-views Placed turn_view turns
    (elements-keep (turn chains clients) (All Placed) (λ before s t kept read. All-push Placed before t kept (turn-places chains clients before s t read))
    (codes "turn") [] ds (map turn_view turns) (λ k d lt. absurd (omega arith)) h) in
    λ k d lt. subst (λ n. IsTurnOf m n (get_or turns k d)) (length-map clients (λ (c : ClientSetup). c.id)) (turn-view m (length (client_ids clients)) (get_or turns k d) (all k d lt))

-- ---- the setup

pub places : (chains ids : List (List ℕ)) (clients cs : List ClientSetup) (paths ps : List PathSetup) (turns : List TurnSetup) (ds es ts : Items)
    → ids ≡ chains → cs ≡ clients → ps ≡ paths → elements (client chains) (codes "client") [] ds ≡ Ok clients
    → elements (path chains clients) (codes "path") [] es ≡ Ok (map path_view paths) → elements (turn chains clients) (codes "turn") [] ts ≡ Ok (map turn_view turns)
    → ArePlaces (length ids) cs ps turns
places chains ids clients cs paths ps turns ds es ts same_ids same_clients same_paths read_clients read_paths read_turns =
    subst (λ x. ArePlaces (length x) cs ps turns) (sym same_ids) (
    subst (λ x. ArePlaces (length chains) x ps turns) (sym same_clients) (
    subst (λ x. ArePlaces (length chains) clients x turns) (sym same_paths) (record {
      each_client = clients-places chains ds clients read_clients;
      each_path = paths-places chains clients es paths read_paths;
      each_turn = turns-places chains clients ts turns read_turns;
    })))
