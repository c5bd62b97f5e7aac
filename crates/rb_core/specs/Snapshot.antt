-- What the code holds of a snapshot.
use Rattle.std.specs.Prelude.{map}
use Rattle.rb_core.specs.declared.snapshot.Snapshot.{Snapshot as CodeSnapshot}
use Rattle.rb_core_model.specs.Snapshot.{Snapshot}
use Rattle.rb_core_state.specs.Known.{known_client, known_path}
use Rattle.rb_core_state.specs.Room.{books_of}

abbrev pub snapshot_view : {A : Type 0} → CodeSnapshot A → Snapshot
snapshot_view s = record { window = s.window; books = books_of s.books.items; clients = map known_client s.clients.items; paths = map known_path s.paths.items }
