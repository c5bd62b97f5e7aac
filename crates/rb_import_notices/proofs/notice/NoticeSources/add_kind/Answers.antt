use Rattle.std.proofs.Common.{◌≡◌, ◌++◌, ◌∙◌, ap, append_assoc, flat_map, sym}
use Rattle.std.specs.List.{range_with_len}
use Rattle.rb_import_notices.specs.Whole.{notices_at}
use Rattle.rb_import_notices.proofs.Places.{more_places}
use Rattle.rb_import_notices.proofs.notice.NoticeSources.add_kind.Goals as goal

pub loop-place-preserved : goal.loop-place-preserved
loop-place-preserved c =
    let f = notices_at c.args.self.now.setup.now c.args.self.now.answers.now c.args.self.now.seen.now c.args.kind in
    let before = c.args.list.now.items in
    let place = c.loop-place.place in
    let added : c.add_at.new.list.items ≡ c.loop-place.list.items ++ f place = c.in_ok-add_at.ensures in
    added
    ∙ ap (λ l. l ++ f place) c.loop-place.invariant
    ∙ append_assoc before (flat_map f (range_with_len 0 place)) (f place)
    ∙ ap (λ l. before ++ l) (sym (more_places f place))
