-- As many chains, clients and paths as the script has.
use Rattle.std.proofs.Common.{◌≡◌, ℕ, zero, suc, ◌<◌, true, ltb, List, [], ◌∷◌, length, Some, refl, sym, ap, ◌∙◌, subst, arith}
use Rattle.std.specs.List.{slice_get}
use Rattle.std.proofs.lemmas.Bool.{lt-ltb}
use Rattle.std.proofs.lemmas.List.{length-replicate, length-map}
use Rattle.rb_script_types.specs.Config.{Config}
use Rattle.rb_script_types.specs.declared.config.ClientConfig.{ClientConfig}
use Rattle.rb_script_types.specs.declared.config.PathConfig.{PathConfig}
use Rattle.rb_core_model.specs.Event.{Event, Window, HostWindow, Asked, SetSeen, HeaderSeen, StoredSeen, Sent, Received, AckWritten, Cleared, Closed, Scanned, Planned, Settled}
use Rattle.rb_core_model.specs.Machine.{State, no_scans, begun, opening, is_known, refusal_beside, accepted}
use Rattle.rb_core_model.specs.Snapshot.{Snapshot, nothing}
use Rattle.rb_core_model.specs.Standing.{judged}
use Rattle.rb_super_turn.specs.Script.{IsSeen}
use Rattle.rb_core_model.proofs.Configs.{config_of, path_config_of, configured_begun}
use Rattle.rb_core_model.proofs.Keeping.{scans_long}
use Rattle.rb_core_model.proofs.Lengths.{lengths_changed}

-- ---- sizes

pub record HasSizes (config : Config) (s : State) : Type 0 where
  pub books : length s.standing.books ≡ length config.chains
  pub clients : length s.standing.clients ≡ length config.clients
  pub paths : length s.standing.paths ≡ length config.paths
  pub scans : length s.scans ≡ length config.paths

pub sizes_accepted : (config : Config) (s : State) (e : Event) → HasSizes config s → HasSizes config (accepted s e)
sizes_accepted config s e sizes =
    let same = lengths_changed s.standing e in
    record { books = same.books ∙ sizes.books; clients = same.clients ∙ sizes.clients; paths = same.paths ∙ sizes.paths; scans = scans_long s e ∙ sizes.scans }

pub sizes_begun : (config : Config) (start : Snapshot) → HasSizes config (begun config start)
sizes_begun config start =
    let has = configured_begun config start in
    let s = (begun config start).standing in
    record {
      books = has.books;
      clients = sym (length-map s.clients config_of) ∙ ap (λ (cs : List ClientConfig). length cs) has.clients;
      paths = sym (length-map s.paths path_config_of) ∙ ap (λ (ps : List PathConfig). length ps) has.paths;
      scans = length-replicate (length config.paths) no_scans;
    }

pub sizes_opening : (config : Config) → HasSizes config (opening config)
sizes_opening config = sizes_begun config nothing

under : (n m k : ℕ) → n < m → k ≡ m → ltb n k ≡ true
under n m k lt e = lt-ltb n k (subst (λ x. n < x) (sym e) lt)

pub seen_known : (config : Config) (s : State) (e : Event) → HasSizes config s → IsSeen config e → (is_known s e ≡ true) × (refusal_beside s e ≡ judged s.standing e)
seen_known config s (Window window) sizes is = absurd is
seen_known config s (HostWindow host window) sizes is = absurd is
seen_known config s (Asked client goal) sizes is = absurd is
seen_known config s (SetSeen chain x) sizes is = (under chain _ _ is sizes.books, refl)
seen_known config s (HeaderSeen chain header) sizes is = (under chain _ _ is sizes.books, refl)
seen_known config s (StoredSeen client height r) sizes is = (under client _ _ is sizes.clients, refl)
seen_known config s (Sent path sequence block timeout_height timeout_time) sizes is = (under path _ _ is sizes.paths, refl)
seen_known config s (Received path sequence block) sizes is = (under path _ _ is sizes.paths, refl)
seen_known config s (AckWritten path sequence block) sizes is = (under path _ _ is sizes.paths, refl)
seen_known config s (Cleared path sequence) sizes is = (under path _ _ is sizes.paths, refl)
seen_known config s (Closed path) sizes is = (under path _ _ is sizes.paths, refl)
seen_known config s (Scanned path scan) sizes is = absurd is
seen_known config s (Planned d) sizes is = absurd is
seen_known config s (Settled client number done) sizes is = absurd is

pub chain_known : (config : Config) (s : State) (chain : ℕ) → HasSizes config s → chain < length config.chains → ltb chain (length s.standing.books) ≡ true
chain_known config s chain sizes lt = under chain _ _ lt sizes.books

pub client_known : (config : Config) (s : State) (client : ℕ) → HasSizes config s → client < length config.clients → ltb client (length s.standing.clients) ≡ true
client_known config s client sizes lt = under client _ _ lt sizes.clients

pub path_known : (config : Config) (s : State) (path : ℕ) → HasSizes config s → path < length config.paths → ltb path (length s.standing.paths) ≡ true
path_known config s path sizes lt = under path _ _ lt sizes.paths

pub at_place : {X : Type 0} (xs : List X) (n : ℕ) → n < length xs → (x : X) × (slice_get xs n ≡ Some x)
at_place [] n lt = absurd (omega arith)
at_place (x ∷ xs) zero lt = (x, refl)
at_place (x ∷ xs) (suc n) lt = at_place xs n (omega arith)
