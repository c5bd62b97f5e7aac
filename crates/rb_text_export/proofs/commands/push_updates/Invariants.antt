use Rattle.std.proofs.Common.{◌≡◌, ◌++◌, map, string_bytes, take}
use Rattle.std.specs.List.{flat_map}
use Rattle.rb_super_turn.specs.Views.{priced_view}
use Rattle.rb_text_export.specs.Commands.{update_line}
use Rattle.rb_text_export.proofs.commands.push_updates.Given as goal

abbrev pub invariant-loop-update : goal.invariant-loop-update
invariant-loop-update l = string_bytes l.text ≡ string_bytes l.fn.text ++ flat_map (update_line l.host l.id) (map priced_view (take l.update-index l.updates))
