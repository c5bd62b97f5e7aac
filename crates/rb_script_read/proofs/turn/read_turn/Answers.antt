use Rattle.std.proofs.Common.{arith, codes}
use Rattle.std.proofs.lemmas.Grind.{common_steps}
use Rattle.toml.specs.View.{items_view}
use Rattle.rb_script_toml.specs.Fields.{section_view}
use Rattle.rb_script_toml.specs.KeyPaths.{child}
use Rattle.rb_script_read.specs.Ready.{AreReady}
use Rattle.rb_script_read.proofs.ReadyLemmas.{moved, ready_of-turn}
use Rattle.rb_script_read.proofs.turn.read_turn.Goals as goal

pub read_events-requires : goal.read_events-requires
read_events-requires c =
    let events = items_view c.in_ok-frame.frame.events.now in
    record {
      ready = moved (λ p. AreReady p events c.args.ready.items) (child c.args.section.now.path.now (codes "event")) c.as_str-3.result.now
          (grind (arith, common_steps))
          (ready_of-turn (section_view c.args.section.now) events c.args.ready.items c.requires.ready c.in_ok-frame.ensures.events);
    }
