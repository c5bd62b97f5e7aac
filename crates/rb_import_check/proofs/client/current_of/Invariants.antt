use Rattle.std.proofs.Common.{◌≡◌, map, take}
use Rattle.rb_import_check.specs.Clients.{AreOfClient, current_of, filed_state, filed_states_of}
use Rattle.rb_import_check.specs.declared.client.Stored.{Stored}
use Rattle.rb_import_check.proofs.client.current_of.Given as goal

-- the answers so far are a client's, and the records so far are those of the answers so far that aren't of an earlier revision, and are of their files
abbrev pub invariant-loop-saved : goal.invariant-loop-saved
invariant-loop-saved l = record {
  answers : AreOfClient (take l.saved-index l.answers);
  states : map (λ (s : Stored). s.state.now) l.stored.items ≡ current_of l.revision (take l.saved-index l.answers);
  files : map filed_state l.stored.items ≡ filed_states_of l.revision (take l.saved-index l.answers);
}
