use Rattle.std.proofs.Common.{◌≡◌, drop}
use Rattle.serde_json.specs.View.{items_view}
use Rattle.rb_import_json.specs.Fields.{object_view}
use Rattle.rb_import_answers.specs.Packets.{attribute}
use Rattle.rb_import_answers.proofs.attributes.Attributes.text.Given as goal

-- the first attribute of this name is among those that are left
abbrev pub invariant-loop-item : goal.invariant-loop-item
invariant-loop-item l = attribute l.name (object_view l.self.event) (items_view (drop l.item-index l.self.items.now)) ≡ attribute l.name (object_view l.self.event) (items_view l.self.items.now)
