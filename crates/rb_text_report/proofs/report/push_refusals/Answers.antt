use Rattle.std.proofs.Common.{◌++◌, ap, sym, ◌∙◌, append_assoc, map, string_bytes, take}
use Rattle.std.specs.List.{flat_map}
use Rattle.rb_super_turn.specs.Views.{refused_view}
use Rattle.rb_text_report.specs.Report.{refused_line}
use Rattle.rb_text_report.proofs.Numbered.{flat_map_more}
use Rattle.rb_text_report.proofs.report.push_refusals.Goals as goal

pub loop-refused-preserved : goal.loop-refused-preserved
loop-refused-preserved c =
    let before = string_bytes c.args.text.now in
    let i = c.loop-refused.refused-index in
    let refused = c.refused-item.result in
    let line = refused_line (refused_view refused) in
    c.in_ok-push_refused.ensures ∙ ap (λ bs. bs ++ line) c.loop-refused.invariant
    ∙ append_assoc before (flat_map refused_line (map refused_view (take i c.args.refusals.now))) line
    ∙ ap (λ bs. before ++ bs) (sym (flat_map_more refused_line refused_view c.args.refusals.now i refused c.loop-refused-test.true c.refused-item.is))
