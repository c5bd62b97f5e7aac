use Rattle.std.proofs.Common.{append-nil, map, sym}
use Rattle.std.proofs.lemmas.Option.{slice_get_past}
use Rattle.rb_messages.specs.Updates.{planned_view}
use Rattle.rb_messages.proofs.planned.add_client_at.Goals as goal

pub returns-in-None : goal.returns-in-None
returns-in-None c = rw (slice_get_past c.args.configs.now c.args.place c.in-None.ensures.lookup.3) (sym (append-nil (map planned_view c.args.updates.now.items)))
