use Rattle.rb_book.specs.Book.{header_height}
use Rattle.rb_book.proofs.Positions.{count-from_known}
use Rattle.rb_graph.proofs.reached.lower_headers.Goals as goal

pub returns-in-Ok : goal.returns-in-Ok
returns-in-Ok g c =
    count-from_known header_height c.args.height c.args.headers.now c.in-Ok.place c.requires c.in-Ok.ensures.within c.in-Ok.ensures.found
