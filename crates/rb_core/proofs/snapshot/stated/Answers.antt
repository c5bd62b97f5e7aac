use Rattle.std.proofs.Common.{◌≡◌, ℕ, length, map, replicate, ap, ◌∙◌, arith}
use Rattle.std.proofs.lemmas.List.{length-map}
use Rattle.rb_book.specs.Shared.{Shared}
use Rattle.rb_script_types.specs.Config.{config_view}
use Rattle.rb_core.specs.Snapshot.{snapshot_view}
use Rattle.rb_core_model.specs.Machine.{begun, no_scans}
use Rattle.rb_core_model.specs.Snapshot.{snapshot_of_client, snapshot_of_path, snapshot_of}
use Rattle.rb_core_model.specs.Standing.{ClientState, PathState, Standing}
use Rattle.rb_core_model.proofs.Configs.{IsConfigured}
use Rattle.rb_core_state.specs.Known.{known_client, known_path}
use Rattle.rb_core_state.specs.Room.{books_of, clients_of, paths_of}
use Rattle.rb_core.proofs.Restoring.{stands, found}
use Rattle.rb_core.proofs.snapshot.stated.Goals as goal

pub returns-clause-snapshot : goal.returns-clause-snapshot
returns-clause-snapshot g c =
    let clients = found c.in_ok-clients.field-0 c.in-Some.clients (λ cs. map snapshot_of_client (clients_of cs.items) ≡ map known_client c.as_slice.result.now) c.in-Some.is c.in_ok-clients.ensures.known in
    let paths = found c.in_ok-paths.field-0 c.in-Some-2.paths (λ ps. map snapshot_of_path (paths_of ps.items) ≡ map known_path c.as_slice-2.result.now) c.in-Some-2.is c.in_ok-paths.ensures.known in
    λ i. record {
      window = c.args.snapshot.now.window;
      books = (c.in_ok-share_books.ensures ∙ ap books_of c.as_slice-3.ensures.value) i;
      clients = (clients ∙ ap (map known_client) c.as_slice.ensures.value) i;
      paths = (paths ∙ ap (map known_path) c.as_slice-2.ensures.value) i;
    }

pub returns-clause-state : goal.returns-clause-state
returns-clause-state g c =
    let config = config_view c.args.config.now in
    let snapshot = c.args.snapshot.now in
    let s : Standing = record {
      window = snapshot.window;
      books = books_of c.in_ok-share_books.field-0.items;
      clients = clients_of c.in-Some.clients.items;
      paths = paths_of c.in-Some-2.paths.items;
    } in
    let known : snapshot_of s ≡ snapshot_view snapshot = returns-clause-snapshot g c in
    let books = ap length (c.in_ok-share_books.ensures ∙ ap books_of c.as_slice-3.ensures.value) in
    let long = length-map snapshot.books.items (λ (x : Shared). x.book) in
    let clients : c.len-3.result ≡ length c.args.config.now.clients.items = omega (arith, c.len-3.ensures, c.args.config.now.clients.ok.0) in
    let paths : c.len-4.result ≡ length c.args.config.now.paths.items = omega (arith, c.len-4.ensures, c.args.config.now.paths.ok.0) in
    let configured : IsConfigured config s = record {
      books = omega (arith, books, long, c.if-len.false, c.len.ensures, c.len-2.ensures, snapshot.books.ok.0, c.args.config.now.chains.ok.0);
      clients =
          found c.in_ok-clients.field-0 c.in-Some.clients (λ cs. map (λ (k : ClientState). k.config) (clients_of cs.items) ≡ c.as_slice-configs.result.now) c.in-Some.is c.in_ok-clients.ensures.configs
          ∙ c.as_slice-configs.ensures.value;
      paths =
          found c.in_ok-paths.field-0 c.in-Some-2.paths (λ ps. map (λ (p : PathState). p.config) (paths_of ps.items) ≡ c.as_slice-configs-2.result.now) c.in-Some-2.is c.in_ok-paths.ensures.configs
          ∙ c.as_slice-configs-2.ensures.value;
    } in
    (λ i. record {
      standing = s;
      plans = (c.in_ok-new_plans.ensures ∙ ap (λ (n : ℕ). replicate n 0) clients) i;
      scans = (c.in_ok-new_scans.ensures ∙ ap (λ (n : ℕ). replicate n no_scans) paths) i;
      front = 0;
    })
    ∙ stands config s configured ∙ ap (begun config) known
