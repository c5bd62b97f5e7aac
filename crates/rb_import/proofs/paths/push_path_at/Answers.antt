use Rattle.std.proofs.Common.{◌≤◌, length, refl, rules}
use Rattle.rb_import.specs.Events.{events_of}
use Rattle.rb_import.proofs.Lists.{nothing_at}
use Rattle.rb_import.proofs.paths.push_path_at.Goals as goal

pub returns-in-None : goal.returns-in-None
returns-in-None c =
    let paths = c.args.seen.now.paths.items in
    let past : length paths ≤ c.args.place = search rules in
    nothing_at (events_of c.args.seen.now c.args.place c.args.path.now) paths c.args.place c.args.events.now.items refl past
