use Rattle.std.proofs.Common.{◌≡◌, ◌++◌, map, string_bytes, take}
use Rattle.std.specs.List.{flat_map}
use Rattle.rb_super_turn.specs.Views.{refused_view}
use Rattle.rb_text_export.specs.Commands.{refused_line}
use Rattle.rb_text_export.proofs.commands.push_refusals.Given as goal

abbrev pub invariant-loop-refused : goal.invariant-loop-refused
invariant-loop-refused l = string_bytes l.text ≡ string_bytes l.fn.text ++ flat_map (refused_line l.turn) (map refused_view (take l.refused-index l.refusals))
