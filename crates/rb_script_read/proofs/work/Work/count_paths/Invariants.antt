use Rattle.std.proofs.Common.{◌≡◌, drop}
use Rattle.rb_script_read.specs.Work.{after_paths, work_view}
use Rattle.rb_script_read.proofs.work.Work.count_paths.Given as goal

-- what is left is counted after what was counted
abbrev pub invariant-loop-path : goal.invariant-loop-path
invariant-loop-path l = after_paths (work_view l.self) (drop l.path-index l.paths) ≡ after_paths (work_view l.fn.self) l.paths
