use Rattle.std.proofs.Common.{◌≡◌, true, All, take}
use Rattle.rb_import_check.specs.declared.saved.Saved.{Saved}
use Rattle.rb_import_merge.specs.Packets.{is_on_packets}
use Rattle.rb_import_merge.proofs.packets.judge_kinds.Given as goal

-- a path may have the answers so far
abbrev pub invariant-loop-saved : goal.invariant-loop-saved
invariant-loop-saved l = All (λ (s : Saved). is_on_packets s.answer ≡ true) (take l.saved-index l.answers)
