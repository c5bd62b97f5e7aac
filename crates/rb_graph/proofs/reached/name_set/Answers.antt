use Rattle.std.proofs.Common.{◌<◌, ◌≤◌, rules}
use Rattle.rb_graph.proofs.Entered.{lowest_lower, lowest_first, lowest_above}
use Rattle.rb_graph.proofs.reached.name_set.Goals as goal
use Rattle.rb_graph.proofs.reached.name_set.Goals.{in-Some+else-lt, in_default}

pub returns-then-lt-clause-lowest : goal.returns-then-lt-clause-lowest
returns-then-lt-clause-lowest g c =
    let lt : c.in-Some.low < c.args.height = search rules in
    lowest_lower c.args.book.now c.args.height c.args.entry.now c.requires.known c.requires.book c.args.set_place c.requires.place
    c.args.lowest.now.items c.index.result.now c.in-Some.low c.requires.lowest c.index.ensures c.in-Some.is lt

pub returns-clause-lowest : goal.returns-clause-lowest
returns-clause-lowest g c = elim c.match-index.branch [
  | in-Some+else-lt w ↦
      (let le : c.args.height ≤ w.in-Some.low = search rules in
      lowest_above c.args.book.now c.args.height c.args.entry.now c.requires.known c.requires.book c.args.set_place c.requires.place
      c.args.lowest.now.items c.index.result.now w.in-Some.low c.requires.lowest c.index.ensures w.in-Some.is le)
  | in_default w ↦
      lowest_first c.args.book.now c.args.height c.args.entry.now c.requires.known c.requires.book c.args.set_place c.requires.place
      c.args.lowest.now.items c.index.result.now c.requires.lowest c.index.ensures w.in_default.is
]
