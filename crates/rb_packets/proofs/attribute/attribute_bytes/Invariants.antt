use Rattle.std.proofs.Common.{◌≡◌, drop}
use Rattle.serde_json.specs.View.{items_view}
use Rattle.rb_packets.specs.Attributes.{attribute_bytes}
use Rattle.rb_packets.proofs.attribute.attribute_bytes.Given as goal

-- the first attribute of this name is among those that are left
abbrev pub invariant-loop-item : goal.invariant-loop-item
invariant-loop-item l = attribute_bytes l.name (items_view (drop l.item-index l.items)) ≡ attribute_bytes l.name (items_view l.items)
