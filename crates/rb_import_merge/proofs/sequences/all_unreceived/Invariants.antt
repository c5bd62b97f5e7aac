use Rattle.std.proofs.Common.{◌≡◌, take}
use Rattle.std.specs.List.{flat_map}
use Rattle.rb_import_check.specs.declared.saved.Saved.{Saved}
use Rattle.rb_import_merge.specs.Pending.{unreceived_in}
use Rattle.rb_import_merge.proofs.sequences.all_unreceived.Given as goal

-- those of the answers so far
abbrev pub invariant-loop-saved : goal.invariant-loop-saved
invariant-loop-saved l = l.all.items ≡ flat_map (λ (s : Saved). unreceived_in s.answer) (take l.saved-index l.answers)
