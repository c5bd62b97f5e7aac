-- The chains that are written, and the first of an identifier.
use Rattle.std.proofs.Common.{◌≡◌, ℕ, ◌+◌, ◌<◌, Bool, true, false, cond, List, [], ◌∷◌, ◌++◌, length, take, get_or, map, filter, find, Option, Some, None, option_map, is_some, Bor, append_assoc, refl, sym, ap, ◌∙◌}
use Rattle.std.specs.List.{flat_map}
use Rattle.std.proofs.lemmas.List.{take_more, append-nil, map-append}
use Rattle.std.proofs.lemmas.List.Elements.{filter-append}
use Rattle.std.proofs.lemmas.Grind.{flat_map-append}
use Rattle.rb_script_toml.specs.Identifiers.{is_identifier}
use Rattle.rb_import_setup.specs.declared.hermes_client.NamedClient.{NamedClient}
use Rattle.rb_import_setup.specs.declared.hermes_error.HermesError.TheVariants as errors
use Rattle.rb_import_setup.specs.HermesChains.{HermesChain}
use Rattle.rb_import_setup.specs.HermesClients.{setup_id}
use Rattle.rb_import_setup.specs.HermesRefusals.{refusal_of}
use Rattle.rb_import_setup.specs.HermesSetups.{chain_with, client_table, table_of}

one : {X : Type 0} (lines : X → List ℕ) (b : Bool) (x : X) → flat_map lines (cond b (x ∷ []) []) ≡ cond b (lines x) []
one lines true x = append-nil (lines x)
one lines false x = refl

-- the texts of those of the elements so far that pass a test, and the next one's
pub chosen_more : {X Y : Type 0} (lines : Y → List ℕ) (test : Y → Bool) (view : X → Y) (xs : List X) (i : ℕ) (x : X) → i < length xs → x ≡ get_or xs i x
    → flat_map lines (filter test (map view (take (i + 1) xs))) ≡ flat_map lines (filter test (map view (take i xs))) ++ cond (test (view x)) (lines (view x)) []
chosen_more lines test view xs i x lt at =
    let y = get_or xs i x in
    ap (λ ys. flat_map lines (filter test (map view ys))) (take_more xs i x lt)
    ∙ ap (λ ys. flat_map lines (filter test ys)) (map-append view (take i xs) (y ∷ []))
    ∙ ap (flat_map lines) (filter-append test (map view (take i xs)) (view y ∷ []))
    ∙ flat_map-append lines (filter test (map view (take i xs))) (filter test (view y ∷ []))
    ∙ ap (λ ys. flat_map lines (filter test (map view (take i xs))) ++ ys) (one lines (test (view y)) (view y) ∙ ap (λ y. cond (test (view y)) (lines (view y)) []) (sym at))

-- the first element by what it is seen as
pub find-map : {X Y : Type 0} (p : Y → Bool) (view : X → Y) (xs : List X) → find p (map view xs) ≡ option_map view (find (λ x. p (view x)) xs)
find-map p view [] = refl
find-map p view (x ∷ xs) =
    elim (p (view x)) as (λ b. cond b (Some (view x)) (find p (map view xs)) ≡ option_map view (cond b (Some x) (find (λ x. p (view x)) xs))) [
      | true ↦ refl
      | false ↦ find-map p view xs
    ]

pub option_map-map : {X Y : Type 0} (view : X → Y) (r : Option (Bor X)) → option_map (λ x. view x.now) r ≡ option_map view (option_map (λ x. x.now) r)
option_map-map view None = refl
option_map-map view (Some x) = refl

-- ---- of a client

pub no_host : (chains : List HermesChain) (c : NamedClient) → chain_with c.host chains ≡ None → refusal_of chains c ≡ Some (errors.UnknownChain c)
no_host chains c none = rw none refl

module _ (chains : List HermesChain) (c : NamedClient) (host : HermesChain) (found : chain_with c.host chains ≡ Some host) where
  pub no_chain : is_some (chain_with c.chain chains) ≡ false → refusal_of chains c ≡ Some (errors.UnknownChain c)
  no_chain none = rw (found, none) refl

  pub too_long : is_some (chain_with c.chain chains) ≡ true → is_identifier (setup_id c) ≡ false → refusal_of chains c ≡ Some (errors.LongIdentifier c)
  too_long there long = rw (found, there, long) refl

  pub not_refused : is_some (chain_with c.chain chains) ≡ true → is_identifier (setup_id c) ≡ true → refusal_of chains c ≡ None
  not_refused there short = rw (found, there, short) refl

  pub table-found : table_of chains c ≡ client_table c host
  table-found = rw found refl

-- ---- texts that are added one after the other

module _ (t0 t1 t2 t3 t4 a b c d : List ℕ) (h1 : t1 ≡ t0 ++ a) (h2 : t2 ≡ t1 ++ b) where
  added2 : t2 ≡ t0 ++ (a ++ b)
  added2 = rw (h2, h1) (append_assoc t0 a b)

  pub added3 : t3 ≡ t2 ++ c → t3 ≡ t0 ++ (a ++ b ++ c)
  added3 h3 = rw (h3, added2) (append_assoc t0 (a ++ b) c)

  pub added4 : t3 ≡ t2 ++ c → t4 ≡ t3 ++ d → t4 ≡ t0 ++ (a ++ b ++ c ++ d)
  added4 h3 h4 = rw (h4, added3 h3) (append_assoc t0 (a ++ b ++ c) d)

-- from an empty text on
pub made : (t0 t1 t2 t3 t4 t5 t6 a b c d e f : List ℕ) → t0 ≡ [] → t1 ≡ t0 ++ a → t2 ≡ t1 ++ b → t3 ≡ t2 ++ c → t4 ≡ t3 ++ d → t5 ≡ t4 ++ e → t6 ≡ t5 ++ f
    → t6 ≡ a ++ b ++ c ++ d ++ e ++ f
made t0 t1 t2 t3 t4 t5 t6 a b c d e f h0 h1 h2 h3 h4 h5 h6 = rw (h6, h5, h4, h3, h2, h1, h0) refl
