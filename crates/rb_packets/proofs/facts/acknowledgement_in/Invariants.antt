use Rattle.std.proofs.Common.{◌≡◌, drop, map}
use Rattle.rb_packets.specs.Facts.{answer_view, acknowledgement_in}
use Rattle.rb_packets.proofs.facts.acknowledgement_in.Given as goal

-- the first answer that tells it is among those that are left
abbrev pub invariant-loop-answer : goal.invariant-loop-answer
invariant-loop-answer l =
    acknowledgement_in l.ends l.sequence (map answer_view (drop l.answer-index l.answers)) ≡ acknowledgement_in l.ends l.sequence (map answer_view l.answers)
