-- Chains, clients and paths stay as they are configured, whatever happens.
use Rattle.std.proofs.Common.{◌≡◌, ℕ, zero, suc, Bool, true, false, cond, List, [], ◌∷◌, Option, Some, None, is_some, length, map, refl, sym, ap, ◌∙◌, arith}
use Rattle.std.specs.List.{slice_get, fold}
use Rattle.std.specs.Option.{option_and_then}
use Rattle.std.proofs.lemmas.List.{length-replicate}
use Rattle.rb_book.specs.Book.{Book}
use Rattle.rb_script_types.specs.Config.{Config}
use Rattle.rb_script_types.specs.declared.config.ClientConfig.{ClientConfig}
use Rattle.rb_script_types.specs.declared.config.PathConfig.{PathConfig}
use Rattle.rb_core_model.proofs.HostWindows.{config_in_host, same_mapped}
use Rattle.rb_core_model.specs.Event.{Event, Window, HostWindow, Asked, SetSeen, HeaderSeen, StoredSeen, Sent, Received, AckWritten, Cleared, Closed, Scanned, Planned, Settled}
use Rattle.rb_core_model.specs.Forgetting.{rest_at_floors}
use Rattle.rb_core_model.specs.Machine.{State, begun, refusal_of, accepted, after}
use Rattle.rb_core_model.specs.Snapshot.{ClientSnapshot, PathSnapshot, Snapshot, snapshot_of_client, snapshot_of_path, snapshot_of, books_from, clients_from, paths_from, standing_from}
use Rattle.rb_core_model.specs.Standing.{OpenBatch, ClientState, PathState, Standing, empty_book, new_client, new_path, changed_at, changed, with_batch, batch_opened, after_settled, after_batch, after_message, after_messages, open_batch, settled_messages, in_host_window}
use Rattle.rb_plan_client.specs.Task.{Message}
use Rattle.rb_core_model.proofs.Left.{left_books, left_clients, left_paths, path_configs_same}
use Rattle.rb_core_model.proofs.Lengths.{lengths_changed}
use Rattle.rb_core_model.proofs.Paths.{kept_at}

abbrev pub config_of : ClientState → ClientConfig
config_of c = c.config

abbrev pub path_config_of : PathState → PathConfig
path_config_of p = p.config

-- ---- what an event changes

kept_by_batch : (c : ClientState) (o : Option OpenBatch) → (with_batch c o).config ≡ c.config
kept_by_batch c None = refl
kept_by_batch c (Some b) = refl

clients_by_settled : (s : Standing) (client done : ℕ) (o : Option OpenBatch) → map config_of (after_settled s client done o).clients ≡ map config_of s.clients
clients_by_settled s client done None = refl
clients_by_settled s client done (Some b) = kept_at config_of (after_batch b done) (λ c. refl) s.clients client

clients_by_event : (s : Standing) (e : Event) → map config_of (changed s e).clients ≡ map config_of s.clients
clients_by_event s (Window window) = refl
clients_by_event s (HostWindow host window) = same_mapped config_of (in_host_window host window) (config_in_host host window) s.clients
clients_by_event s (Asked client goal) = kept_at config_of _ (λ c. refl) s.clients client
clients_by_event s (SetSeen chain x) = refl
clients_by_event s (HeaderSeen chain header) = refl
clients_by_event s (StoredSeen client height r) = kept_at config_of _ (λ c. refl) s.clients client
clients_by_event s (Sent path sequence block timeout_height timeout_time) = refl
clients_by_event s (Received path sequence block) = refl
clients_by_event s (AckWritten path sequence block) = refl
clients_by_event s (Cleared path sequence) = refl
clients_by_event s (Closed path) = refl
clients_by_event s (Scanned path scan) = refl
clients_by_event s (Planned d) = kept_at config_of _ (λ c. kept_by_batch c (batch_opened c d.answer)) s.clients d.job.client
clients_by_event s (Settled client number done) = clients_by_settled s client done (option_and_then (λ c. open_batch c number) (slice_get s.clients client))

paths_by_messages : (ms : List Message) (ps : List PathState) → map path_config_of (after_messages ps ms) ≡ map path_config_of ps
paths_by_messages [] ps = refl
paths_by_messages (m ∷ ms) ps =
    paths_by_messages ms (changed_at (after_message m.packet) ps m.path) ∙ kept_at path_config_of (after_message m.packet) (λ p. refl) ps m.path

paths_by_settled : (s : Standing) (client done : ℕ) (o : Option OpenBatch) → map path_config_of (after_settled s client done o).paths ≡ map path_config_of s.paths
paths_by_settled s client done None = refl
paths_by_settled s client done (Some b) = paths_by_messages (settled_messages b done) s.paths

paths_by_event : (s : Standing) (e : Event) → map path_config_of (changed s e).paths ≡ map path_config_of s.paths
paths_by_event s (Window window) = refl
paths_by_event s (HostWindow host window) = refl
paths_by_event s (Asked client goal) = refl
paths_by_event s (SetSeen chain x) = refl
paths_by_event s (HeaderSeen chain header) = refl
paths_by_event s (StoredSeen client height r) = refl
paths_by_event s (Sent path sequence block timeout_height timeout_time) = kept_at path_config_of _ (λ p. refl) s.paths path
paths_by_event s (Received path sequence block) = kept_at path_config_of _ (λ p. refl) s.paths path
paths_by_event s (AckWritten path sequence block) = kept_at path_config_of _ (λ p. refl) s.paths path
paths_by_event s (Cleared path sequence) = kept_at path_config_of _ (λ p. refl) s.paths path
paths_by_event s (Closed path) = kept_at path_config_of _ (λ p. refl) s.paths path
paths_by_event s (Scanned path scan) = refl
paths_by_event s (Planned d) = refl
paths_by_event s (Settled client number done) = paths_by_settled s client done (option_and_then (λ c. open_batch c number) (slice_get s.clients client))

-- ---- what is configured so

pub record IsConfigured (c : Config) (s : Standing) : Type 0 where
  pub books : length s.books ≡ length c.chains
  pub clients : map config_of s.clients ≡ c.clients
  pub paths : map path_config_of s.paths ≡ c.paths

configured_changed : (c : Config) (s : Standing) (e : Event) → IsConfigured c s → IsConfigured c (changed s e)
configured_changed c s e is = record {
  books = (lengths_changed s e).books ∙ is.books;
  clients = clients_by_event s e ∙ is.clients;
  paths = paths_by_event s e ∙ is.paths;
}

configured_after : (c : Config) (s : State) (e : Event) → IsConfigured c s.standing → IsConfigured c (after s e).standing
configured_after c s e is = go (is_some (refusal_of s e))
  where
    go : (b : Bool) → IsConfigured c (cond b s (accepted s e)).standing
    go true = is
    go false = configured_changed c s.standing e is

pub configured_fold : (c : Config) (events : List Event) (s : State) → IsConfigured c s.standing → IsConfigured c (fold after s events).standing
configured_fold c [] s is = is
configured_fold c (e ∷ events) s is = configured_fold c events (after s e) (configured_after c s e is)

-- what is left of it is, too
pub configured_left : (c : Config) (s : Standing) → IsConfigured c s → IsConfigured c (rest_at_floors s)
configured_left c s is = record {
  books = left_books s ∙ is.books;
  clients = left_clients config_of (λ m x. refl) s ∙ is.clients;
  paths = left_paths (λ ps. map path_config_of ps ≡ map path_config_of s.paths) s refl (path_configs_same s.paths) ∙ is.paths;
}

-- ---- with what is known of it

length-books : (bs : List Book) (limit chains : ℕ) → length (books_from bs limit chains) ≡ chains
length-books [] limit chains = length-replicate chains (empty_book limit)
length-books (b ∷ bs) limit zero = refl
length-books (b ∷ bs) limit (suc chains) = ap suc (length-books bs limit chains)

new_configs : (cs : List ClientConfig) → map config_of (map new_client cs) ≡ cs
new_configs [] = refl
new_configs (c ∷ cs) = ap (λ ds. c ∷ ds) (new_configs cs)

known_configs : (xs : List ClientSnapshot) (cs : List ClientConfig) → map config_of (clients_from xs cs) ≡ cs
known_configs [] cs = new_configs cs
known_configs (x ∷ xs) [] = refl
known_configs (x ∷ xs) (c ∷ cs) = ap (λ ds. c ∷ ds) (known_configs xs cs)

new_path_configs : (ps : List PathConfig) → map path_config_of (map new_path ps) ≡ ps
new_path_configs [] = refl
new_path_configs (p ∷ ps) = ap (λ qs. p ∷ qs) (new_path_configs ps)

known_path_configs : (xs : List PathSnapshot) (ps : List PathConfig) → map path_config_of (paths_from xs ps) ≡ ps
known_path_configs [] ps = new_path_configs ps
known_path_configs (x ∷ xs) [] = refl
known_path_configs (x ∷ xs) (p ∷ ps) = ap (λ qs. p ∷ qs) (known_path_configs xs ps)

pub configured_begun : (c : Config) (x : Snapshot) → IsConfigured c (begun c x).standing
configured_begun c x = record {
  books = length-books x.books c.limit (length c.chains);
  clients = known_configs x.clients c.clients;
  paths = known_path_configs x.paths c.paths;
}

-- as many books as there are
same_books : (bs : List Book) (limit chains : ℕ) → length bs ≡ chains → books_from bs limit chains ≡ bs
same_books [] limit zero e = refl
same_books [] limit (suc chains) e = absurd (omega (arith, e))
same_books (b ∷ bs) limit zero e = absurd (omega (arith, e))
same_books (b ∷ bs) limit (suc chains) e = ap (λ xs. b ∷ xs) (same_books bs limit chains (omega (arith, e)))

same_clients : (cs : List ClientState) → clients_from (map snapshot_of_client cs) (map config_of cs) ≡ cs
same_clients [] = refl
same_clients (c ∷ cs) = ap (λ ds. c ∷ ds) (same_clients cs)

same_paths : (ps : List PathState) → paths_from (map snapshot_of_path ps) (map path_config_of ps) ≡ ps
same_paths [] = refl
same_paths (p ∷ ps) = ap (λ qs. p ∷ qs) (same_paths ps)

-- what is known of how things stand, and the configuration, are how things stand
pub snapshot_back : (c : Config) (s : Standing) → IsConfigured c s → standing_from c (snapshot_of s) ≡ s
snapshot_back c s is = λ i. record {
  window = s.window;
  books = same_books s.books c.limit (length c.chains) is.books i;
  clients = ((λ j. clients_from (map snapshot_of_client s.clients) (sym is.clients j)) ∙ same_clients s.clients) i;
  paths = ((λ j. paths_from (map snapshot_of_path s.paths) (sym is.paths j)) ∙ same_paths s.paths) i;
}
