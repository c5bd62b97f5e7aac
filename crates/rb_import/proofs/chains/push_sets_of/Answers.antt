use Rattle.std.proofs.Common.{◌≤◌, length, refl, rules}
use Rattle.rb_import.specs.Events.{sets_of}
use Rattle.rb_import.proofs.Lists.{nothing_at}
use Rattle.rb_import.proofs.chains.push_sets_of.Goals as goal

pub returns-in-None : goal.returns-in-None
returns-in-None c =
    let kept = c.args.seen.now.sets.items in
    let past : length kept ≤ c.args.place = search rules in
    nothing_at (sets_of c.args.place c.args.chain.now) kept c.args.place c.args.events.now.items refl past
