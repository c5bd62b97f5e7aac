use Rattle.std.proofs.Common.{◌∙◌, Bool, if◌then◌else◌, ap, sym}
use Rattle.std.specs.List.{list_any}
use Rattle.rb_import_merge.specs.LeftOut.{tells_receipts}
use Rattle.rb_import_merge.specs.Pending.{tell_unreceived}
use Rattle.rb_import_merge.proofs.left_out.tell_receipts.Goals as goal

pub returns-else-tell_commitments : goal.returns-else-tell_commitments
returns-else-tell_commitments c =
    c.some_tells_receipts.ensures
    ∙ ap (λ (b : Bool). if b then tell_unreceived c.args.answers.now else list_any tells_receipts c.args.answers.now) (sym (sym c.tell_commitments.ensures ∙ c.if-tell_commitments.false))
