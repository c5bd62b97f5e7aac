use Rattle.std.proofs.Common.{◌≡◌, ◌<◌, ℕ, None, length, sym, ap, ◌∙◌}
use Rattle.std.specs.Option.{option_and_then}
use Rattle.rb_book.specs.Intake.{record_refusal}
use Rattle.rb_script_types.specs.Refusal.{of_book}
use Rattle.rb_core_state.specs.Room.{ClientWithRoom, books_of, clients_of}
use Rattle.rb_core_model.specs.Standing.{book_at, tracked}
use Rattle.rb_core_model.proofs.Intake.{record_accepted}
use Rattle.rb_core.proofs.Within.{within, tracked_within}
use Rattle.rb_core.proofs.state.CoreState.put_observed.Goals as goal

pub tracked-chain-requires : goal.tracked-chain-requires
tracked-chain-requires g c = rw c.as_slice.ensures.value (within (λ (h : ClientWithRoom). h.client) c.args.self.now.clients.items c.in-StoredSeen.client (rw c.in-StoredSeen.is at c.requires.state))

pub put_record-requires-clause-within : goal.put_record-requires-clause-within
put_record-requires-clause-within g c =
    let chain : c.tracked-chain.result ≡ tracked (clients_of c.args.self.now.clients.items) c.in-StoredSeen.client = rw c.as_slice.ensures.value at c.tracked-chain.ensures in
    tracked_within c.args.self.now c.in-StoredSeen.client c.tracked-chain.result c.requires.tracked (rw c.in-StoredSeen.is at c.requires.state) chain

pub put_record-requires-clause-accepted : goal.put_record-requires-clause-accepted
put_record-requires-clause-accepted g c =
    let chain : c.tracked-chain.result ≡ tracked (clients_of c.args.self.now.clients.items) c.in-StoredSeen.client = rw c.as_slice.ensures.value at c.tracked-chain.ensures in
    let books = books_of c.args.self.now.books.items in
    record_accepted (book_at books c.tracked-chain.result) c.in-StoredSeen.height c.in-StoredSeen.record
    (ap (λ n. option_and_then of_book (record_refusal (book_at books n) c.in-StoredSeen.height c.in-StoredSeen.record)) chain ∙ (rw c.in-StoredSeen.is at c.requires.accepted))

pub store-requires-clause-within : goal.store-requires-clause-within
store-requires-clause-within g c = within (λ (h : ClientWithRoom). h.client) c.args.self.now.clients.items c.in-StoredSeen.client (rw c.in-StoredSeen.is at c.requires.state)
