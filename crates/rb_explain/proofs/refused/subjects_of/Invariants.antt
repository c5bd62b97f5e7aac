use Rattle.std.proofs.Common.{◌≡◌, Some, map, take}
use Rattle.rb_core_model.specs.Seen.{observed}
use Rattle.rb_explain.specs.Subjects.{subject_of}
use Rattle.rb_explain.specs.declared.refused.Subject.{Subject}
use Rattle.rb_explain.proofs.refused.subjects_of.Given as goal

abbrev pub invariant-loop-event : goal.invariant-loop-event
invariant-loop-event g l = map (λ (s : Subject). Some s) l.subjects.items ≡ map subject_of (map observed (take l.event-index l.events))
