-- What the code holds of a snapshot's clients and paths.
use Rattle.rb_core_model.specs.Snapshot.{ClientSnapshot, PathSnapshot}
use Rattle.rb_core_state.specs.declared.snapshot.ClientSnapshot.{ClientSnapshot as CodeClient}
use Rattle.rb_core_state.specs.declared.snapshot.PathSnapshot.{PathSnapshot as CodePath}

abbrev pub known_client : {A : Type 0} → CodeClient A → ClientSnapshot
known_client c = record { window = c.window; stored = c.stored.items; asked = c.asked; batches = c.batches; batch = c.batch }

abbrev pub known_path : {A : Type 0} → CodePath A → PathSnapshot
known_path p = record { first = p.first; packets = p.packets.items; closed = p.closed }
