-- An event leaves as many books, clients and paths as there were.
use Rattle.std.proofs.Common.{◌≡◌, ℕ, Bool, true, false, cond, List, [], ◌∷◌, Option, Some, None, is_some, length, set, refl, ◌∙◌}
use Rattle.std.specs.List.{slice_get, fold}
use Rattle.std.specs.Option.{option_map_or, option_and_then}
use Rattle.std.proofs.lemmas.List.{length-map, length-set}
use Rattle.rb_core_model.specs.Event.{Event, Window, HostWindow, Asked, SetSeen, HeaderSeen, StoredSeen, Sent, Received, AckWritten, Cleared, Closed, Scanned, Planned, Settled}
use Rattle.rb_core_model.specs.Standing.{OpenBatch, ClientState, PathState, Standing, changed_at, with_client, with_path, judged, changed, standing_after, after_message, after_messages, after_batch, open_batch, after_settled, settled_messages, in_host_window}
use Rattle.rb_plan_client.specs.Task.{Message}

pub record HasLengthsOf (s t : Standing) : Type 0 where
  pub books : length t.books ≡ length s.books
  pub clients : length t.clients ≡ length s.clients
  pub paths : length t.paths ≡ length s.paths

pub lengths_same : (s : Standing) → HasLengthsOf s s
lengths_same s = record { books = refl; clients = refl; paths = refl }

pub lengths_trans : (s t u : Standing) → HasLengthsOf s t → HasLengthsOf t u → HasLengthsOf s u
lengths_trans s t u p q = record { books = q.books ∙ p.books; clients = q.clients ∙ p.clients; paths = q.paths ∙ p.paths }

pub length-changed_at : {X : Type 0} (f : X → X) (xs : List X) (i : ℕ) → length (changed_at f xs i) ≡ length xs
length-changed_at {X} f xs i = go (slice_get xs i)
  where
    go : (o : Option X) → length (option_map_or (λ x. set xs i (f x)) o xs) ≡ length xs
    go None = refl
    go (Some x) = length-set xs i (f x)

pub lengths_client : (s : Standing) (i : ℕ) (f : ClientState → ClientState) → HasLengthsOf s (with_client s i f)
lengths_client s i f = record { books = refl; clients = length-changed_at f s.clients i; paths = refl }

lengths_path : (s : Standing) (i : ℕ) (f : PathState → PathState) → HasLengthsOf s (with_path s i f)
lengths_path s i f = record { books = refl; clients = refl; paths = length-changed_at f s.paths i }

length-messages : (ms : List Message) (ps : List PathState) → length (after_messages ps ms) ≡ length ps
length-messages [] ps = refl
length-messages (m ∷ ms) ps = length-messages ms (changed_at (after_message m.packet) ps m.path) ∙ length-changed_at (after_message m.packet) ps m.path

lengths_settled : (s : Standing) (client done : ℕ) (o : Option OpenBatch) → HasLengthsOf s (after_settled s client done o)
lengths_settled s client done None = lengths_same s
lengths_settled s client done (Some b) =
    record { books = refl; clients = length-changed_at (after_batch b done) s.clients client; paths = length-messages (settled_messages b done) s.paths }

pub lengths_changed : (s : Standing) (e : Event) → HasLengthsOf s (changed s e)
lengths_changed s (Window window) = record { books = refl; clients = refl; paths = refl }
lengths_changed s (HostWindow host window) = record { books = refl; clients = length-map s.clients (in_host_window host window); paths = refl }
lengths_changed s (Asked client goal) = lengths_client s client _
lengths_changed s (SetSeen chain x) = record { books = length-set s.books chain _; clients = refl; paths = refl }
lengths_changed s (HeaderSeen chain header) = record { books = length-set s.books chain _; clients = refl; paths = refl }
lengths_changed s (StoredSeen client height r) = record { books = length-set s.books _ _; clients = length-changed_at _ s.clients client; paths = refl }
lengths_changed s (Sent path sequence block timeout_height timeout_time) = lengths_path s path _
lengths_changed s (Received path sequence block) = lengths_path s path _
lengths_changed s (AckWritten path sequence block) = lengths_path s path _
lengths_changed s (Cleared path sequence) = lengths_path s path _
lengths_changed s (Closed path) = lengths_path s path _
lengths_changed s (Scanned path scan) = lengths_same s
lengths_changed s (Planned d) = lengths_client s d.job.client _
lengths_changed s (Settled client number done) = lengths_settled s client done (option_and_then (λ c. open_batch c number) (slice_get s.clients client))

pub lengths_after : (s : Standing) (e : Event) → HasLengthsOf s (standing_after s e)
lengths_after s e = go (is_some (judged s e))
  where
    go : (b : Bool) → HasLengthsOf s (cond b s (changed s e))
    go true = lengths_same s
    go false = lengths_changed s e

pub lengths_fold : {X : Type 0} (f : Standing → X → Standing) → ((s : Standing) (x : X) → HasLengthsOf s (f s x)) → (xs : List X) (s : Standing) → HasLengthsOf s (fold f s xs)
lengths_fold f one [] s = lengths_same s
lengths_fold f one (x ∷ xs) s = lengths_trans s (f s x) (fold f (f s x) xs) (one s x) (lengths_fold f one xs (f s x))
