use Rattle.std.proofs.Common.{map, ap, ◌∙◌}
use Rattle.rb_core_model.specs.Snapshot.{snapshot_of_client, snapshot_of_path}
use Rattle.rb_core_state.specs.Room.{books_of, clients_of, paths_of}
use Rattle.rb_core.proofs.snapshot.known_in.Goals as goal

pub returns : goal.returns
returns g c =
    let state = c.args.state.now in
    λ i. record {
      window = state.window;
      books = (c.in_ok-share_books.ensures ∙ ap books_of c.as_slice.ensures.value) i;
      clients = (c.in_ok-client_snapshots.ensures ∙ ap (λ hs. map snapshot_of_client (clients_of hs)) c.as_slice-2.ensures.value) i;
      paths = (c.in_ok-path_snapshots.ensures ∙ ap (λ hs. map snapshot_of_path (paths_of hs)) c.as_slice-3.ensures.value) i;
    }
