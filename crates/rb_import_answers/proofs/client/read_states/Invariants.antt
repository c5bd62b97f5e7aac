use Rattle.std.proofs.Common.{◌≡◌, [], drop}
use Rattle.serde_json.specs.View.{items_view}
use Rattle.rb_import_answers.specs.Clients.{states_since}
use Rattle.rb_import_answers.proofs.client.read_states.Given as goal

-- what is left is read after what was read
abbrev pub invariant-loop-index : goal.invariant-loop-index
invariant-loop-index l =
    states_since l.since l.index l.states.items (items_view (drop l.index l.items))
    ≡ states_since l.since 0 [] (items_view l.items)
