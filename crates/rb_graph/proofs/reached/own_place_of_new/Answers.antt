use Rattle.std.proofs.Common.{ℕ, List, sym, ap, ◌∙◌}
use Rattle.std.specs.List.{position}
use Rattle.rb_book.specs.Book.{has_hash}
use Rattle.rb_graph.proofs.Entered.{own_new}
use Rattle.rb_graph.proofs.OwnPlace.{own_at, own_placed}
use Rattle.rb_graph.proofs.reached.own_place_of_new.Goals as goal

pub unwrap-requires : goal.unwrap-requires
unwrap-requires g c =
    own_placed c.args.book.now c.args.header.now (own_new c.args.book.now c.args.header.now c.requires).0 c.set_place.result
    (c.set_place.ensures.value ∙ ap (λ (hash : List ℕ). position (has_hash hash) c.args.book.now.sets) c.set_hash.ensures)

pub returns-clause-place : goal.returns-clause-place
returns-clause-place g c =
    own_at c.args.book.now c.args.header.now (own_new c.args.book.now c.args.header.now c.requires).0 c.unwrap.result
    (sym c.unwrap.ensures ∙ c.set_place.ensures.value ∙ ap (λ (hash : List ℕ). position (has_hash hash) c.args.book.now.sets) c.set_hash.ensures)

pub returns-clause-signed : goal.returns-clause-signed
returns-clause-signed g c = (own_new c.args.book.now c.args.header.now c.requires).1
