-- (internal) A header that a book knows, with its own set.
use Rattle.std.specs.Prelude.{◌≡◌, List, Some}
use Rattle.rb_valset.specs.Validator.{Member}
use Rattle.rb_book.specs.Book.{Book, set_of, header_at}
use Rattle.rb_book.specs.Header.{Header, IsSignedBy}

pub record IsTarget (b : Book) (header : Header) (own : List Member) : Type 0 where
  pub there : header_at b header.height ≡ Some header
  pub known : set_of b header.set_hash ≡ Some own
  pub signed : IsSignedBy header own
