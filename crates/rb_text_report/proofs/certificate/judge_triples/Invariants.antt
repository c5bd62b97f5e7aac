use Rattle.std.proofs.Common.{◌≡◌, codes, drop}
use Rattle.toml.specs.View.{items_view}
use Rattle.rb_script_toml.specs.Fields.{three_integers}
use Rattle.rb_text_report.specs.Certificates.{typed_from}
use Rattle.rb_text_report.proofs.certificate.judge_triples.Given as goal

-- what is left is judged after what was judged
abbrev pub invariant-loop-index : goal.invariant-loop-index
invariant-loop-index l =
    typed_from three_integers (codes "labels") l.index (items_view (drop l.index l.items))
    ≡ typed_from three_integers (codes "labels") 0 (items_view l.items)
