use Rattle.std.proofs.Common.{◌≡◌, true, None, subst}
use Rattle.rb_book.specs.Book.{Book}
use Rattle.rb_book.specs.Intake.{after_record, record_refusal}
use Rattle.rb_book.specs.Shared.{Shared}
use Rattle.rb_core_model.specs.Standing.{empty_book}
use Rattle.rb_core_state.proofs.Places.{of_found, there, seen_set}
use Rattle.rb_core_state.proofs.books.put_record.Goals as goal

pub put_record-requires : goal.put_record-requires
put_record-requires g c =
    let books = c.args.books.now.items in
    record {
      apart = of_found (λ (s : Shared). s.apart ≡ true) books c.args.chain c.index_mut.result.now c.requires.within c.index_mut.ensures.value c.requires.apart;
      accepted = subst (λ (b : Book). record_refusal b c.args.height c.args.entry ≡ None) (there (λ (s : Shared). s.book) books c.args.chain c.index_mut.result.now (empty_book 1) c.requires.within c.index_mut.ensures.value) c.requires.accepted;
    }

pub returns : goal.returns
returns g c =
    seen_set (λ (s : Shared). s.book) (λ b. after_record b c.args.height c.args.entry) c.args.books.now.items c.args.chain c.index_mut.result.now c.put_record.new.self (empty_book 1) c.requires.within c.index_mut.ensures.value c.put_record.ensures
