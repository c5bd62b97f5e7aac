use Rattle.std.proofs.Common.{◌≡◌, codes, drop}
use Rattle.toml.specs.View.{items_view}
use Rattle.rb_script_toml.specs.Fields.{two_integers}
use Rattle.rb_text_report.specs.Certificates.{typed_from}
use Rattle.rb_text_report.proofs.certificate.judge_pairs.Given as goal

-- what is left is judged after what was judged
abbrev pub invariant-loop-index : goal.invariant-loop-index
invariant-loop-index l =
    typed_from two_integers (codes "updates") l.index (items_view (drop l.index l.items))
    ≡ typed_from two_integers (codes "updates") 0 (items_view l.items)
