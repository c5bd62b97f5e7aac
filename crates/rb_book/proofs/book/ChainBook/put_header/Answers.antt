use Rattle.std.proofs.Common.{◌≡◌, None, ℕ, sym, subst, ◌∙◌, arith}
use Rattle.rb_book.specs.Header.{Header}
use Rattle.rb_book.specs.Book.{Book, header_is_at, header_is_below}
use Rattle.rb_book.specs.Intake.{header_refusal, record_refusal, after_record}
use Rattle.rb_book.specs.Search.{IsNewPlace}
use Rattle.rb_book.proofs.Puts.{record_accepted, header_put_is_book, header_room}
use Rattle.rb_book.proofs.book.ChainBook.put_header.Goals as goal

pub put_record-requires : goal.put_record-requires
put_record-requires g c =
    let b : Book = record { limit = c.self.inside.limit; sets = c.self.inside.sets.items; records = c.self.inside.records.items; headers = c.self.inside.headers.items } in
    let e : c.args.self.now ≡ b = sym c.self.view_is in
    let h : Header = c.args.header in
    let accepted = subst (λ (x : Book). header_refusal x h ≡ None) e c.requires in
    rw (c.height-height.ensures, c.record.ensures) (subst (λ (x : Book). record_refusal x h.height h.record_of ≡ None) c.self.view_is (record_accepted b h c.self.invariant.0 accepted))

pub unwrap-requires : goal.unwrap-requires
unwrap-requires g c =
    let b : Book = record { limit = c.self.inside.limit; sets = c.self.inside.sets.items; records = c.self.inside.records.items; headers = c.self.inside.headers.items } in
    let e : c.args.self.now ≡ b = sym c.self.view_is in
    let h : Header = c.args.header in
    let accepted = subst (λ (x : Book). header_refusal x h ≡ None) e c.requires in
    let d : Book = record { limit = c.self-in-Err.inside.limit; sets = c.self-in-Err.inside.sets.items; records = c.self-in-Err.inside.records.items; headers = c.self-in-Err.inside.headers.items } in
    let place : ℕ = c.in-Err.place in
    let new : IsNewPlace (header_is_at h.height) (header_is_below h.height) b.headers place = rw (c.as_slice.ensures.value, c.height-height.ensures) at c.in-Err.ensures in
    let is : d ≡ after_record b h.height h.record_of = c.self-in-Err.view_is ∙ c.put_record.ensures ∙ (λ i. after_record (e i) (c.height-height.ensures i) (c.record.ensures i)) in
    let room = header_room b d h place c.self.invariant.0 accepted is new in
    c.insert.ensures.succeeds (omega (arith, c.self-in-Err.inside.headers.ok.0, room, c.self-in-Err.invariant.1.2))

pub invariant_of-self : goal.invariant_of-self
invariant_of-self g c =
    let b : Book = record { limit = c.self.inside.limit; sets = c.self.inside.sets.items; records = c.self.inside.records.items; headers = c.self.inside.headers.items } in
    let e : c.args.self.now ≡ b = sym c.self.view_is in
    let h : Header = c.args.header in
    let accepted = subst (λ (x : Book). header_refusal x h ≡ None) e c.requires in
    let d : Book = record { limit = c.self-in-Err.inside.limit; sets = c.self-in-Err.inside.sets.items; records = c.self-in-Err.inside.records.items; headers = c.self-in-Err.inside.headers.items } in
    let place : ℕ = c.in-Err.place in
    let new : IsNewPlace (header_is_at h.height) (header_is_below h.height) b.headers place = rw (c.as_slice.ensures.value, c.height-height.ensures) at c.in-Err.ensures in
    let is : d ≡ after_record b h.height h.record_of = c.self-in-Err.view_is ∙ c.put_record.ensures ∙ (λ i. after_record (e i) (c.height-height.ensures i) (c.record.ensures i)) in
    let room = c.self-in-Err.invariant.1 in (
      rw (rw c.unwrap.ensures at c.insert.ensures.items) (header_put_is_book b d h place c.self.invariant.0 accepted is new),
      (room.0, room.1, omega (arith, room.2, c.insert.ensures.capacity)),
      c.self-in-Err.invariant.2,
      c.self-in-Err.invariant.3,
    )
