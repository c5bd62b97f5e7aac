use Rattle.std.proofs.Common.{◌≡◌, ◌<◌, length, arith, refl, ap, ◌∙◌}
use Rattle.std.specs.List.{slice_get}
use Rattle.std.proofs.lemmas.Grind.{common_steps}
use Rattle.std.proofs.lemmas.Option.{slice_get_read}
use Rattle.rb_script_read.proofs.ReadyLemmas.{ready_at, rest_is_ready}
use Rattle.toml.specs.View.{items_view}
use Rattle.rb_script_read.proofs.event.read_events.Goals as goal

pub read_event_at-requires : goal.read_event_at-requires
read_event_at-requires c =
    let items = c.args.items.now in
    let at : c.len-place.result ≡ c.loop-value.value-index = grind (arith, common_steps) in
    let within : c.loop-value.value-index < length items = grind (arith, common_steps) in
    let there = slice_get_read items (length items) c.loop-value.value-index c.value-item.result refl within c.value-item.is in
    record {
      ready = ready_at c.args.path.now items c.loop-value.ready.items c.take_set-set.new.ready.items c.take_set-set.result c.len-place.result
          c.value-item.result c.take_set-set.ensures.taken c.loop-value.invariant.3 c.take_set-set.ensures.place (ap (slice_get items) at ∙ there);
    }

pub loop-value-preserved : goal.loop-value-preserved
loop-value-preserved c = (
  grind (arith, common_steps),
  grind (arith, common_steps),
  grind (arith, common_steps),
  rest_is_ready c.args.path.now (items_view c.args.items.now) c.loop-value.ready.items c.take_set-set.new.ready.items c.take_set-set.result
      c.take_set-set.ensures.taken c.loop-value.invariant.3,
)
