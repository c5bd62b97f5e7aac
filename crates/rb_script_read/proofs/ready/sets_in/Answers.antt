use Rattle.std.proofs.Common.{arith}
use Rattle.std.proofs.lemmas.Grind.{common_steps}
use Rattle.toml.specs.View.{items_view}
use Rattle.rb_script_toml.specs.Fields.{section_view}
use Rattle.rb_script_read.proofs.ReadyLemmas.{ready_in_ok}
use Rattle.rb_script_read.proofs.ready.sets_in.Goals as goal

pub returns-in-Ok : goal.returns-in-Ok
returns-in-Ok g c =
    ready_in_ok (section_view c.args.section.now) c.as_str.result.now (items_view c.in-Ok.events.now) c.ready_sets.result
    c.in-Ok.ensures (grind (arith, common_steps)) c.ready_sets.ensures
