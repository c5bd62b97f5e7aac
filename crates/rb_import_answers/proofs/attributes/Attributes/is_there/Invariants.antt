use Rattle.std.proofs.Common.{◌≡◌, drop}
use Rattle.serde_json.specs.View.{items_view}
use Rattle.rb_import_answers.specs.Packets.{is_there}
use Rattle.rb_import_answers.proofs.attributes.Attributes.is_there.Given as goal

-- an attribute of this name is there exactly if it is among those that are left
abbrev pub invariant-loop-item : goal.invariant-loop-item
invariant-loop-item l = is_there l.name (items_view (drop l.item-index l.self.items.now)) ≡ is_there l.name (items_view l.self.items.now)
