use Rattle.std.proofs.Common.{ap, ◌∙◌}
use Rattle.rb_core_state.specs.Room.{books_of, clients_of, paths_of}
use Rattle.rb_core.proofs.copies.copy_state.Goals as goal

pub returns : goal.returns
returns g c =
    let state = c.args.state.now in
    λ i. record {
      standing = record {
        window = state.window;
        books = (c.in_ok-share_books.ensures ∙ ap books_of c.as_slice.ensures.value) i;
        clients = (c.in_ok-copy_clients.ensures ∙ ap clients_of c.as_slice-2.ensures.value) i;
        paths = (c.in_ok-copy_paths.ensures ∙ ap paths_of c.as_slice-3.ensures.value) i;
      };
      plans = (c.in_ok-from_slice.ensures.items ∙ c.as_slice-4.ensures.value) i;
      scans = (c.in_ok-copy_scans.ensures ∙ c.as_slice-5.ensures.value) i;
      front = state.front;
    }
