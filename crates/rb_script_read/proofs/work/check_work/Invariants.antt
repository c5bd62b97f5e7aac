use Rattle.std.proofs.Common.{◌≡◌, drop, map}
use Rattle.rb_script_types.specs.Config.{config_view}
use Rattle.rb_script_types.specs.Script.{script_view, turn_view}
use Rattle.rb_script_read.specs.Work.{little, little_from, work_view}
use Rattle.rb_script_read.proofs.work.check_work.Given as goal

-- what is left is judged after what was judged
abbrev pub invariant-loop-index : goal.invariant-loop-index
invariant-loop-index l =
    let c = config_view l.script.config in
    little_from c (work_view l.work) l.index (map turn_view (drop l.index l.script.turns.items)) ≡ little c (script_view l.script).turns
