-- What everything that a script is set up with keeps.
use Rattle.std.proofs.Common.{◌≡◌, ◌≢◌, ℕ, suc, ◌+◌, ◌<◌, ◌≤◌, ◌==◌, nat_le, nat_lt, not, cond, ◌&&◌, List, [], ◌∷◌, ◌++◌, length, codes, get_or, Result, Ok, Err, Option, Some, None, IsSomeAnd, option_map, unwrap_or, slice_get, Bool, true, false, All, AllPairs, is_none, refl, sym, ap, subst, ◌∙◌, arith}
use Rattle.std.specs.List.{position, position_or_len, prefix_len}
use Rattle.std.specs.Str.{bytes_eq}
use Rattle.std.proofs.lemmas.Bool.{and_parts, eq-eqb, eqb-true, leb-true, ltb-false, true≢false}
use Rattle.std.proofs.lemmas.List.{length-map, map_push, get_or-map, length_push}
use Rattle.std.proofs.lemmas.List.Elements.{All-cons, All-push}
use Rattle.std.proofs.lemmas.List.Quantifiers.{all_pairs_push, position-Some}
use Rattle.std.proofs.lemmas.Slice.Eq.{bytes_eq-Decides}
use Rattle.toml.specs.Data.{Items, no_items, item}
use Rattle.rb_script_types.specs.Config.{Config, IsConfig, IsClient, IsPathConfig}
use Rattle.rb_script_types.specs.Limits.{max_chains, max_clients, max_paths, max_turns, max_records as most_records}
use Rattle.rb_script_types.specs.declared.config.ClientConfig.{ClientConfig}
use Rattle.rb_script_types.specs.declared.config.PathConfig.{PathConfig}
use Rattle.rb_script_toml.specs.Faults.{Fault, ◌>>=◌, check}
use Rattle.rb_script_toml.specs.declared.fault.FaultName.{FaultName}
use Rattle.rb_script_toml.specs.declared.fault.FaultName.TheVariants.{OutOfRange, DuplicateIdentifier, SameChain, WrongClient, TooManyObjects}
use Rattle.rb_script_toml.specs.Fields.{Field, Section, section_at, at_element, elements, identifier, needs, required, optional, or_default, only, number, fee_table, trust, max_number, items, items_count, array}
use Rattle.rb_script_toml.specs.KeyPaths.{element}
use Rattle.rb_script_config.specs.Named.{known, reference, new_identifier}
use Rattle.rb_script_types.specs.declared.version.Version.{Version}
use Rattle.rb_script_types.specs.declared.version.Version.TheVariants as versions
use Rattle.rb_script_config.specs.declared.chain.Chain.{Chain}
use Rattle.rb_script_config.specs.Versions.{version, max_records}
use Rattle.rb_script_config.specs.Chains.{chain, chain_keys, chain_ids, shared, no_defaults}
use Rattle.rb_script_config.specs.declared.client.ClientIdentity.{ClientIdentity}
use Rattle.rb_script_config.specs.Clients.{identity, terms, client, client_ends, client_keys, client_ids, own, shared_by, votes_in}
use Rattle.rb_script_config.specs.Channels.{channel_in}
use Rattle.rb_script_config.specs.Paths.{path, path_config, path_keys, waits_in, path_ids, order, sequence, path_gas, connects, fits}
use Rattle.rb_script_config.specs.Tables.{Tables, tables, top_keys, config}

-- ---- steps

-- what was read before a step goes on
pub pass : {A B G : Type 0} (r : Result A Fault) (next : A → Result B Fault) (y : B) → (r >>= next) ≡ Ok y → ((x : A) → r ≡ Ok x → next x ≡ Ok y → G) → G
pass (Ok x) next y h k = k x refl h
pass (Err e) next y h k = absurd cc

abbrev pub ok : {A : Type 0} → A → Result A Fault
ok x = Ok x

pub same_ok : {A : Type 0} (x y : A) → ok x ≡ ok y → x ≡ y
same_ok x y h = cc

pub check-passed : (test : Bool) (name : FaultName) (path : List ℕ) (u : Unit {0}) → check test name path ≡ Ok u → test ≡ true
check-passed true name path u h = refl
check-passed false name path u h = absurd cc

pub needs-field : {A G : Type 0} (key : List ℕ) (read : Field → Result A Fault) (s : Section) (x : A) → needs key read s ≡ Ok x → ((f : Field) → read f ≡ Ok x → G) → G
needs-field key read s x h k = pass (required key s) read x h (λ f e g. k f g)

module _ {A : Type 0} (read : List A → Section → Result A Fault) (P : List A → Type 0)
    (more : (before : List A) (s : Section) (x : A) → P before → read before s ≡ Ok x → P (before ++ x ∷ [])) where
  -- what each table of an array keeps, all of them keep
  pub elements-keep : (path : List ℕ) (before : List A) (ds : Items) (all : List A) → P before → elements read path before ds ≡ Ok all → P all
  elements-keep path before no_items all kept h = subst P (same_ok before all h) kept
  elements-keep path before (item d ds) all kept h =
      pass (at_element read path before d) (λ x. elements read path (before ++ x ∷ []) ds) all h (λ x e rest.
      pass (section_at (element path (length before)) d) (read before) x e (λ s t r.
      elements-keep path (before ++ x ∷ []) ds all (more before s x kept r) rest))

-- ---- how many

module _ {A : Type 0} (read : List A → Section → Result A Fault) where
  pub elements-count : (path : List ℕ) (before : List A) (ds : Items) (all : List A) → elements read path before ds ≡ Ok all → length all ≡ length before + items_count ds
  elements-count path before no_items all h = omega (arith, ap length (same_ok before all h))
  elements-count path before (item d ds) all h =
      pass (at_element read path before d) (λ x. elements read path (before ++ x ∷ []) ds) all h (λ x e rest.
      let more = elements-count path (before ++ x ∷ []) ds all rest in omega (arith, more, length_push before x))

array-most : (most : ℕ) (f : Field) (ds : Items) → array most f ≡ Ok ds → items_count ds ≤ most
unfolding array
array-most most f ds h =
    pass (items f) _ ds h (λ es e h0.
    pass (check (nat_le (items_count es) most) TooManyObjects f.path) _ ds h0 (λ u passed same.
    subst (λ x. items_count x ≤ most) (same_ok es ds same) (leb-true (items_count es) most (check-passed _ TooManyObjects f.path u passed))))

most-given : (most : ℕ) (f : Option Field) (ds : Items) → or_default no_items (array most) f ≡ Ok ds → items_count ds ≤ most
most-given most None ds h = subst (λ x. items_count x ≤ most) (same_ok no_items ds h) (omega arith)
most-given most (Some f) ds h = array-most most f ds h

pub record AreFew (t : Tables) : Type 0 where
  pub chains : items_count t.chains ≤ max_chains
  pub clients : items_count t.clients ≤ max_clients
  pub paths : items_count t.paths ≤ max_paths
  pub turns : items_count t.turns ≤ max_turns

pub tables-few : (s : Section) (t : Tables) → tables s ≡ Ok t → AreFew t
unfolding tables
tables-few s t h =
    pass (only top_keys s) _ t h (λ u e0 h0.
    pass (needs (codes "version") version s) _ t h0 (λ v e1 h1.
    pass (or_default no_items (array max_chains) (optional (codes "chain") s)) _ t h1 (λ chains e2 h2.
    pass (or_default no_items (array max_clients) (optional (codes "client") s)) _ t h2 (λ clients e3 h3.
    pass (or_default no_items (array max_paths) (optional (codes "path") s)) _ t h3 (λ paths e4 h4.
    pass (or_default no_items (array max_turns) (optional (codes "turn") s)) _ t h4 (λ turns e5 same.
    subst AreFew (same_ok _ t same) (record {
      chains = most-given max_chains (optional (codes "chain") s) chains e2;
      clients = most-given max_clients (optional (codes "client") s) clients e3;
      paths = most-given max_paths (optional (codes "path") s) paths e4;
      turns = most-given max_turns (optional (codes "turn") s) turns e5;
    })))))))

-- ---- identifiers

known-some : (path : List ℕ) (o : Option ℕ) (i : ℕ) → known path o ≡ Ok i → o ≡ Some i
known-some path (Some j) i h = ap Some (same_ok j i h)
known-some path None i h = absurd cc

pub reference-within : (ids : List (List ℕ)) (f : Field) (i : ℕ) → reference ids f ≡ Ok i → i < length ids
unfolding reference
reference-within ids f i h =
    pass (identifier f) (λ id. known f.path (position (bytes_eq id) ids)) i h (λ id e found.
    (position-Some (bytes_eq id) ids i [] (known-some f.path (position (bytes_eq id) ids) i found)).0)

never-next : {A : Type 0} (p : A → Bool) (x : A) (xs : List A) (n : ℕ) (b : Bool) → p x ≡ b → suc (length xs) ≤ cond (not b) (1 + n) 0
    → (length xs ≤ n → All (λ y. p y ≡ false) xs) → All (λ y. p y ≡ false) (x ∷ xs)
never-next p x xs n true e h rest = absurd (omega arith)
never-next p x xs n false e h rest = All-cons (λ y. p y ≡ false) x xs e (rest (omega arith))

never : {A : Type 0} (p : A → Bool) (xs : List A) → length xs ≤ prefix_len (λ x. not (p x)) xs → All (λ x. p x ≡ false) xs
never p [] h = λ k d lt. absurd (omega arith)
never p (x ∷ xs) h = never-next p x xs (prefix_len (λ y. not (p y)) xs) (p x) refl h (never p xs)

none-past : (b : Bool) (i : ℕ) → is_none (cond b (Some i) None) ≡ true → b ≡ false
none-past true i h = absurd (true≢false (sym h))
none-past false i h = refl

absent : {A : Type 0} (p : A → Bool) (xs : List A) → is_none (position p xs) ≡ true → All (λ x. p x ≡ false) xs
absent p xs h =
    let past = none-past (nat_lt (position_or_len p xs) (length xs)) (position_or_len p xs) h in
    never p xs (ltb-false (position_or_len p xs) (length xs) past)

other_bytes : (a b : List ℕ) → bytes_eq a b ≡ false → b ≢ a
other_bytes a b e same = true≢false (sym ((bytes_eq-Decides a b).1 (sym same)) ∙ e)

new_identifier-new : (ids : List (List ℕ)) (f : Field) (id : List ℕ) → new_identifier ids f ≡ Ok id → All (λ x. x ≢ id) ids
unfolding new_identifier
new_identifier-new ids f id h =
    pass (identifier f) _ id h (λ a e h1.
    pass (check (is_none (position (bytes_eq a) ids)) DuplicateIdentifier f.path) _ id h1 (λ u passed same.
    let new = absent (bytes_eq a) ids (check-passed _ DuplicateIdentifier f.path u passed) in
    subst (λ i. All (λ x. x ≢ i) ids) (same_ok a id same) (λ k d lt. other_bytes a (get_or ids k d) (new k d lt))))

-- ---- chains and clients

chain-new : (v : Version) (before : List Chain) (s : Section) (c : Chain) → chain v before s ≡ Ok c → All (λ x. x ≢ c.id) (chain_ids before)
unfolding chain
chain-new v before s c h =
    pass (only (chain_keys v) s) _ c h (λ u e0 h0.
    pass (needs (codes "id") (new_identifier (chain_ids before)) s) _ c h0 (λ id e1 h1.
    pass (shared v s) _ c h1 (λ d e2 same.
    subst (λ x. All (λ i. i ≢ x.id) (chain_ids before)) (same_ok _ c same)
    (needs-field (codes "id") (new_identifier (chain_ids before)) s id e1 (λ f r. new_identifier-new (chain_ids before) f id r)))))

chains-form : (v : Version) (ds : Items) (chains : List Chain) → elements (chain v) (codes "chain") [] ds ≡ Ok chains → AllPairs (λ a b. a ≢ b) (chain_ids chains)
chains-form v ds chains h =
    elements-keep (chain v) (λ cs. AllPairs (λ a b. a ≢ b) (chain_ids cs)) (λ before s c kept read.
    subst (AllPairs (λ a b. a ≢ b)) (sym (map_push (λ (x : Chain). x.id) before c)) (all_pairs_push (λ a b. a ≢ b) (chain_ids before) c.id kept (chain-new v before s c read)))
    (codes "chain") [] ds chains (λ i j d lt end. absurd (omega arith)) h

chain-alone : (before : List Chain) (s : Section) (c : Chain) → chain versions.One before s ≡ Ok c → c.defaults ≡ no_defaults
unfolding chain
chain-alone before s c h =
    pass (only (chain_keys versions.One) s) _ c h (λ u e0 h0.
    pass (needs (codes "id") (new_identifier (chain_ids before)) s) _ c h0 (λ id e1 same.
    ap (λ (x : Chain). x.defaults) (sym (same_ok _ c same))))

pub chains-alone : (ds : Items) (chains : List Chain) → elements (chain versions.One) (codes "chain") [] ds ≡ Ok chains → All (λ c. c.defaults ≡ no_defaults) chains
chains-alone ds chains h =
    elements-keep (chain versions.One) (All (λ c. c.defaults ≡ no_defaults)) (λ before s c kept read.
    All-push (λ c. c.defaults ≡ no_defaults) before c kept (chain-alone before s c read))
    (codes "chain") [] ds chains (λ k d lt. absurd (omega arith)) h

different : (i j : ℕ) → not (i == j) ≡ true → i ≢ j
different i j h e = true≢false (sym h ∙ ap not (eq-eqb i j e))

pub identity-form : (ver : Version) (chains before : List (List ℕ)) (s : Section) (n : ClientIdentity) → identity ver chains before s ≡ Ok n
    → (n.host < length chains) × (n.tracks < length chains) × All (λ x. x ≢ n.id) before
unfolding identity
identity-form ver chains before s n h =
    pass (only (client_keys ver) s) _ n h (λ u e0 h0.
    pass (needs (codes "id") (new_identifier before) s) _ n h0 (λ id e1 h1.
    pass (needs (codes "host") (reference chains) s) _ n h1 (λ host e2 h2.
    pass (needs (codes "of") (reference chains) s) _ n h2 (λ tracks e3 same.
    subst (λ (x : ClientIdentity). (x.host < length chains) × (x.tracks < length chains) × All (λ i. i ≢ x.id) before) (same_ok _ n same) (
      needs-field (codes "host") (reference chains) s host e2 (λ f r. reference-within chains f host r),
      needs-field (codes "of") (reference chains) s tracks e3 (λ f r. reference-within chains f tracks r),
      needs-field (codes "id") (new_identifier before) s id e1 (λ f r. new_identifier-new before f id r),
    )))))

client-form : (ver : Version) (chains : List Chain) (before : List ClientConfig) (s : Section) (c : ClientConfig) → client ver chains before s ≡ Ok c
    → IsClient (length (chain_ids chains)) c × All (λ x. x ≢ c.id) (client_ids before)
unfolding client
client-form ver chains before s c h =
    let ids = chain_ids chains in
    pass (identity ver ids (client_ids before) s) _ c h (λ n e0 h0.
    let d = shared_by chains n.tracks in
    pass (own d.period (codes "period_ns") (number 1 max_number OutOfRange) s) _ c h0 (λ period e1 h1.
    pass (own d.drift (codes "drift_ns") (number 0 max_number OutOfRange) s) _ c h1 (λ drift e2 h2.
    pass (terms d s) _ c h2 (λ t e3 h3.
    pass (or_default d.trust trust (optional (codes "trust") s)) _ c h3 (λ level e4 h4.
    pass (votes_in ver s) _ c h4 (λ votes e5 h5.
    pass (check (not (n.host == n.tracks)) SameChain s.path) _ c h5 (λ v passed same.
    let it = same_ok _ c same in
    let named = identity-form ver ids (client_ids before) s n e0 in
    subst (λ x. IsClient (length ids) x × All (λ i. i ≢ x.id) (client_ids before)) it (
      record { host = named.0; tracks = named.1; different = different n.host n.tracks (check-passed _ SameChain s.path v passed) },
      named.2,
    ))))))))

abbrev AreClients : ℕ → List ClientConfig → Type 0
AreClients chains cs = AllPairs (λ c d. c.id ≢ d.id) cs × All (IsClient chains) cs

clients-form : (ver : Version) (chains : List Chain) (ds : Items) (clients : List ClientConfig) → elements (client ver chains) (codes "client") [] ds ≡ Ok clients
    → AreClients (length (chain_ids chains)) clients
clients-form ver chains ds clients h =
    elements-keep (client ver chains) (AreClients (length (chain_ids chains))) (λ before s c kept read.
    let one = client-form ver chains before s c read in (
      all_pairs_push (λ a b. a.id ≢ b.id) before c kept.0
          (λ k d lt. let short : k < length (client_ids before) = omega (arith, length-map before (λ (x : ClientConfig). x.id)) in
          λ e. one.1 k d.id short (get_or-map (λ (x : ClientConfig). x.id) before k d d.id lt ∙ e)),
      All-push (IsClient (length (chain_ids chains))) before c kept.1 one.0,
    )) (codes "client") [] ds clients ((λ i j d lt end. absurd (omega arith)), (λ k d lt. absurd (omega arith))) h

pub client-within : (key : List ℕ) (clients : List ClientConfig) (s : Section) (i : ℕ) → needs key (reference (client_ids clients)) s ≡ Ok i → i < length clients
client-within key clients s i h =
    needs-field key (reference (client_ids clients)) s i h
    (λ f r. let within = reference-within (client_ids clients) f i r in omega (arith, length-map clients (λ (x : ClientConfig). x.id)))

pub place-within : (key : List ℕ) (chains : List (List ℕ)) (s : Section) (i : ℕ) → needs key (reference chains) s ≡ Ok i → i < length chains
place-within key chains s i h = needs-field key (reference chains) s i h (λ f r. reference-within chains f i r)

-- ---- paths

connected : (o : Option ClientConfig) (host tracks : ℕ) → unwrap_or (option_map (λ (c : ClientConfig). c.host == host && c.tracks == tracks) o) false ≡ true
    → IsSomeAnd o (λ (c : ClientConfig). (c.host ≡ host) × (c.tracks ≡ tracks))
connected (Some c) host tracks h = let parts = and_parts (c.host == host) (c.tracks == tracks) h in (eqb-true c.host host parts.0, eqb-true c.tracks tracks parts.1)
connected None host tracks h = absurd (true≢false (sym h))

pub path_config-form : (chains clients before : List (List ℕ)) (s : Section) (p : PathConfig) → path_config chains clients before s ≡ Ok p
    → (p.source < length chains) × (p.destination < length chains) × (p.forward < length clients) × (p.back < length clients) × All (λ x. x ≢ p.id) before
unfolding path_config
path_config-form chains clients before s p h =
    pass (needs (codes "id") (new_identifier before) s) _ p h (λ id e1 h1.
    pass (needs (codes "source") (reference chains) s) _ p h1 (λ source e2 h2.
    pass (needs (codes "dest") (reference chains) s) _ p h2 (λ destination e3 h3.
    pass (needs (codes "order") order s) _ p h3 (λ o e4 h4.
    pass (or_default 1 sequence (optional (codes "first") s)) _ p h4 (λ first e5 h5.
    pass (needs (codes "forward") (reference clients) s) _ p h5 (λ forward e6 h6.
    pass (needs (codes "back") (reference clients) s) _ p h6 (λ back e7 h7.
    pass (needs (codes "gas") path_gas s) _ p h7 (λ gas e8 same.
    subst (λ (x : PathConfig). (x.source < length chains) × (x.destination < length chains) × (x.forward < length clients) × (x.back < length clients) × All (λ i. i ≢ x.id) before) (same_ok _ p same) (
      place-within (codes "source") chains s source e2,
      place-within (codes "dest") chains s destination e3,
      place-within (codes "forward") clients s forward e6,
      place-within (codes "back") clients s back e7,
      needs-field (codes "id") (new_identifier before) s id e1 (λ f r. new_identifier-new before f id r),
    )))))))))

path-form : (ver : Version) (chains : List (List ℕ)) (clients : List ClientConfig) (before : List PathConfig) (s : Section) (p : PathConfig) → path ver chains clients before s ≡ Ok p
    → IsPathConfig (length chains) clients p × All (λ x. x ≢ p.id) (path_ids before)
unfolding path
path-form ver chains clients before s p h =
    pass (only (path_keys ver) s) _ p h (λ u e0 h0.
    pass (path_config chains (client_ids clients) (path_ids before) s) _ p h0 (λ q e1 h1.
    pass (waits_in ver s) _ p h1 (λ w2 e2 h2.
    pass (channel_in ver s) _ p h2 (λ ends e3 h3.
    pass (fits client_ends clients q s.path) _ p h3 (λ v fit same.
    pass (check (not (q.source == q.destination)) SameChain s.path) _ v fit (λ w apart whole.
    let named = path_config-form chains (client_ids clients) (path_ids before) s q e1 in
    let fits = and_parts (connects client_ends clients q.forward q.destination q.source) (connects client_ends clients q.back q.source q.destination) (check-passed _ WrongClient s.path v whole) in
    subst (λ x. IsPathConfig (length chains) clients x × All (λ i. i ≢ x.id) (path_ids before)) (same_ok _ p same) (
      record {
        source = named.0;
        destination = named.1;
        different = different q.source q.destination (check-passed _ SameChain s.path w apart);
        forward = connected (slice_get clients q.forward) q.destination q.source fits.0;
        back = connected (slice_get clients q.back) q.source q.destination fits.1;
      },
      named.4,
    )))))))

abbrev ArePaths : ℕ → List ClientConfig → List PathConfig → Type 0
ArePaths chains clients ps = AllPairs (λ p q. p.id ≢ q.id) ps × All (IsPathConfig chains clients) ps

paths-form : (ver : Version) (chains : List (List ℕ)) (clients : List ClientConfig) (ds : Items) (paths : List PathConfig) → elements (path ver chains clients) (codes "path") [] ds ≡ Ok paths
    → ArePaths (length chains) clients paths
paths-form ver chains clients ds paths h =
    elements-keep (path ver chains clients) (ArePaths (length chains) clients) (λ before s p kept read.
    let one = path-form ver chains clients before s p read in (
      all_pairs_push (λ a b. a.id ≢ b.id) before p kept.0
          (λ k d lt. let short : k < length (path_ids before) = omega (arith, length-map before (λ (x : PathConfig). x.id)) in
          λ e. one.1 k d.id short (get_or-map (λ (x : PathConfig). x.id) before k d d.id lt ∙ e)),
      All-push (IsPathConfig (length chains) clients) before p kept.1 one.0,
    )) (codes "path") [] ds paths ((λ i j d lt end. absurd (omega arith)), (λ k d lt. absurd (omega arith))) h

-- ---- what a script is set up with

limit-form : (v : Version) → (1 ≤ max_records v) × (max_records v ≤ most_records)
limit-form versions.One = (omega arith, omega arith)
limit-form versions.Two = (omega arith, omega arith)
limit-form versions.Three = (omega arith, omega arith)
limit-form versions.Four = (omega arith, omega arith)

pub config-form : (t : Tables) (c : Config) → AreFew t → config t ≡ Ok c → IsConfig c
unfolding config
config-form t c few h =
    pass (elements (chain t.version) (codes "chain") [] t.chains) _ c h (λ chains e0 h0.
    pass (elements (client t.version chains) (codes "client") [] t.clients) _ c h0 (λ clients e1 h1.
    pass (elements (path t.version (chain_ids chains) clients) (codes "path") [] t.paths) _ c h1 (λ paths e2 same.
    let are_clients = clients-form t.version chains t.clients clients e1 in
    let are_paths = paths-form t.version (chain_ids chains) clients t.paths paths e2 in
    subst IsConfig (same_ok _ c same) (record {
      limit = limit-form t.version;
      few_chains = omega (arith, few.chains, elements-count (chain t.version) (codes "chain") [] t.chains chains e0, length-map chains (λ (x : Chain). x.id));
      few_clients = omega (arith, few.clients, elements-count (client t.version chains) (codes "client") [] t.clients clients e1);
      few_paths = omega (arith, few.paths, elements-count (path t.version (chain_ids chains) clients) (codes "path") [] t.paths paths e2);
      chain_ids = chains-form t.version t.chains chains e0;
      client_ids = are_clients.0;
      path_ids = are_paths.0;
      clients = are_clients.1;
      paths = are_paths.1;
    }))))
