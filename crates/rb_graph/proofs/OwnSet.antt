-- A header's own set, which its book knows.
use Rattle.std.proofs.Common.{◌≡◌, List, [], Option, Some, sym, ap, subst, ◌∙◌}
use Rattle.std.specs.Prelude.{unwrap_or}
use Rattle.rb_valset.specs.Validator.{Member}
use Rattle.rb_book.specs.Header.{Header, IsSignedBy}
use Rattle.rb_book.specs.Book.{Book, set_of}
use Rattle.rb_book.specs.Invariant.{IsBacked}
use Rattle.rb_graph.specs.StoredRow.{own_set}

pub own_known : (b : Book) (h : Header) → IsBacked b h → set_of b h.set_hash ≡ Some (own_set b h)
own_known b h backed =
    let (set, is, signed) = backed.own in
    is ∙ ap (λ (s : List Member). Some s) (sym (ap (λ (o : Option (List Member)). unwrap_or o []) is))

pub own_signed : (b : Book) (h : Header) → IsBacked b h → IsSignedBy h (own_set b h)
own_signed b h backed =
    let (set, is, signed) = backed.own in
    subst (IsSignedBy h) (sym (ap (λ (o : Option (List Member)). unwrap_or o []) is)) signed
