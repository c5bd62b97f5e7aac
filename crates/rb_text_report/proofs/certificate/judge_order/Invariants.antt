use Rattle.std.proofs.Common.{◌≡◌, drop}
use Rattle.rb_text_report.specs.Certificates.{rising_after}
use Rattle.rb_text_report.proofs.certificate.judge_order.Given as goal

-- what is left is judged after what was judged
abbrev pub invariant-loop-index : goal.invariant-loop-index
invariant-loop-index l = rising_after l.index l.below (drop l.index l.labels) ≡ rising_after 0 0 l.labels
