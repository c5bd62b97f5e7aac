-- (internal) The votes of a header as it keeps them.
use Rattle.std.specs.Prelude.{List}
use Rattle.std.specs.Arc.{arc_value}
use Rattle.rb_book.specs.declared.vote.Vote.{Vote}
use Rattle.rb_book.specs.declared.votes.Votes.{Votes}
use Rattle.rb_book.specs.declared.votes.Votes.TheVariants.{Shared, Own}

abbrev pub items_of : {A : Type 0} → Votes A → List Vote
items_of (Shared votes) = (arc_value votes).items
items_of (Own votes) = votes.items
