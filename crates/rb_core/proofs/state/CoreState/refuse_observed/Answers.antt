use Rattle.std.proofs.Common.{◌≡◌, ◌<◌, ℕ, length, sym, ap, ◌∙◌}
use Rattle.std.specs.Option.{option_and_then}
use Rattle.rb_book.specs.Intake.{record_refusal}
use Rattle.rb_book.specs.Shared.{Shared}
use Rattle.rb_script_types.specs.Refusal.{of_book}
use Rattle.rb_core_state.specs.Room.{ClientWithRoom, PathWithRoom, books_of, clients_of}
use Rattle.rb_core_model.specs.Standing.{book_at, tracked}
use Rattle.rb_core.proofs.Within.{within, tracked_within}
use Rattle.rb_core.proofs.state.CoreState.refuse_observed.Goals as goal

pub refuse_set-requires : goal.refuse_set-requires
refuse_set-requires g c = rw c.as_slice-books.ensures.value (within (λ (s : Shared). s.book) c.args.self.now.books.items c.in-SetSeen.chain (rw c.in-SetSeen.is at c.requires.state))

pub refuse_header-requires : goal.refuse_header-requires
refuse_header-requires g c = rw c.as_slice-books.ensures.value (within (λ (s : Shared). s.book) c.args.self.now.books.items c.in-HeaderSeen.chain (rw c.in-HeaderSeen.is at c.requires.state))

pub tracked-chain-requires : goal.tracked-chain-requires
tracked-chain-requires g c = rw c.as_slice.ensures.value (within (λ (h : ClientWithRoom). h.client) c.args.self.now.clients.items c.in-StoredSeen.client (rw c.in-StoredSeen.is at c.requires.state))

pub refuse_record-requires : goal.refuse_record-requires
refuse_record-requires g c =
    let chain : c.tracked-chain.result ≡ tracked (clients_of c.args.self.now.clients.items) c.in-StoredSeen.client = rw c.as_slice.ensures.value at c.tracked-chain.ensures in
    rw c.as_slice-books.ensures.value (tracked_within c.args.self.now c.in-StoredSeen.client c.tracked-chain.result c.requires.tracked (rw c.in-StoredSeen.is at c.requires.state) chain)

pub refuse_written-requires : goal.refuse_written-requires
refuse_written-requires g c = rw c.as_slice-paths.ensures.value (within (λ (h : PathWithRoom). h.path) c.args.self.now.paths.items c.in-AckWritten.path (rw c.in-AckWritten.is at c.requires.state))

pub refuse_closed-requires : goal.refuse_closed-requires
refuse_closed-requires g c = rw c.as_slice-paths.ensures.value (within (λ (h : PathWithRoom). h.path) c.args.self.now.paths.items c.in-Closed.path (rw c.in-Closed.is at c.requires.state))

pub returns-in-StoredSeen : goal.returns-in-StoredSeen
returns-in-StoredSeen g c =
    let chain : c.tracked-chain.result ≡ tracked (clients_of c.args.self.now.clients.items) c.in-StoredSeen.client = rw c.as_slice.ensures.value at c.tracked-chain.ensures in
    let books = books_of c.args.self.now.books.items in
    rw c.in-StoredSeen.is
    (rw c.as_slice-books.ensures.value at c.refuse_record.ensures
    ∙ ap (λ n. option_and_then of_book (record_refusal (book_at books n) c.in-StoredSeen.height c.in-StoredSeen.record)) chain)

pub returns-in-Sent : goal.returns-in-Sent
returns-in-Sent g c = rw c.in-Sent.is (rw c.as_slice-paths.ensures.value at (c.refuse_sent.ensures (books_of c.args.self.now.books.items)))

pub returns-in-Received : goal.returns-in-Received
returns-in-Received g c = rw c.in-Received.is (rw c.as_slice-paths.ensures.value at (c.refuse_received.ensures (books_of c.args.self.now.books.items)))

pub returns-in-AckWritten : goal.returns-in-AckWritten
returns-in-AckWritten g c = rw c.in-AckWritten.is (rw (c.as_slice-paths.ensures.value, c.height.ensures.value) at (c.refuse_written.ensures (books_of c.args.self.now.books.items)))

pub returns-in-Cleared : goal.returns-in-Cleared
returns-in-Cleared g c = rw c.in-Cleared.is (rw c.as_slice-paths.ensures.value at (c.refuse_cleared.ensures (books_of c.args.self.now.books.items)))
