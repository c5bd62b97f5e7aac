use Rattle.std.proofs.Common.{◌≡◌, [], codes, drop}
use Rattle.toml.specs.View.{items_view}
use Rattle.rb_text_report.specs.Certificates.{each, update}
use Rattle.rb_text_report.proofs.certificate.read_updates.Given as goal

-- what is left is read after what was read
abbrev pub invariant-loop-value : goal.invariant-loop-value
invariant-loop-value l =
    each update (codes "updates") l.updates.items (items_view (drop l.value-index l.items))
    ≡ each update (codes "updates") [] (items_view l.items)
