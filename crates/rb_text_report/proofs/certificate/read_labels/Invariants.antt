use Rattle.std.proofs.Common.{◌≡◌, ◌<◌, ◌^◌, [], All, codes, drop}
use Rattle.toml.specs.View.{items_view}
use Rattle.rb_text_report.specs.Certificates.{each, label}
use Rattle.rb_text_report.proofs.certificate.read_labels.Given as goal

-- what is left is read after what was read, whose numbers have 63 bits
abbrev pub invariant-loop-value : goal.invariant-loop-value
invariant-loop-value l = record {
  read : each label (codes "labels") l.labels.items (items_view (drop l.value-index l.items)) ≡ each label (codes "labels") [] (items_view l.items);
  small : All (λ x. (x.cost.fee < 2 ^ 63) × (x.cost.count < 2 ^ 63)) l.labels.items;
}
