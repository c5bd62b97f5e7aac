use Rattle.std.proofs.Common.{◌≡◌, [], drop, length}
use Rattle.toml.specs.View.{items_view}
use Rattle.rb_script_toml.specs.Fields.{in_sequence}
use Rattle.rb_script_config.specs.Setups.{setup_view}
use Rattle.rb_script_read.specs.TurnNames.{names_now}
use Rattle.rb_script_read.specs.Events.{event}
use Rattle.rb_script_read.specs.Ready.{AreReady}
use Rattle.rb_script_read.proofs.event.read_events.Given as goal

-- what is left is read after what was read
abbrev pub invariant-loop-value : goal.invariant-loop-value
invariant-loop-value l =
    let read = event (setup_view l.setup) in
    (in_sequence read l.path (names_now l.names) l.events.items (items_view (drop l.value-index l.items))
    ≡ in_sequence read l.path (names_now l.fn.names) [] (items_view l.items))
    × (l.names.earlier.now ≡ l.fn.names.earlier.now)
    × (length l.events.items ≡ l.value-index)
    × AreReady l.path (items_view l.items) l.ready.items
