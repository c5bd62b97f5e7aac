use Rattle.std.proofs.Common.{◌≡◌, true, None, subst}
use Rattle.rb_book.specs.Book.{Book}
use Rattle.rb_book.specs.Intake.{after_header, header_refusal}
use Rattle.rb_book.specs.Shared.{Shared}
use Rattle.rb_core_model.specs.Standing.{empty_book}
use Rattle.rb_core_state.proofs.Places.{of_found, there, seen_set}
use Rattle.rb_core_state.proofs.books.put_header.Goals as goal

pub put_header-requires : goal.put_header-requires
put_header-requires g c =
    let books = c.args.books.now.items in
    record {
      apart = of_found (λ (s : Shared). s.apart ≡ true) books c.args.chain c.index_mut.result.now c.requires.within c.index_mut.ensures.value c.requires.apart;
      accepted = subst (λ (b : Book). header_refusal b c.args.header ≡ None) (there (λ (s : Shared). s.book) books c.args.chain c.index_mut.result.now (empty_book 1) c.requires.within c.index_mut.ensures.value) c.requires.accepted;
    }

pub returns : goal.returns
returns g c =
    seen_set (λ (s : Shared). s.book) (λ b. after_header b c.args.header) c.args.books.now.items c.args.chain c.index_mut.result.now c.put_header.new.self (empty_book 1) c.requires.within c.index_mut.ensures.value c.put_header.ensures
