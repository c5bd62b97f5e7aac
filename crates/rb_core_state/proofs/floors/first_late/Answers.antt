use Rattle.std.proofs.Common.{Some, ap, ◌∙◌}
use Rattle.rb_book.specs.Header.{Record}
use Rattle.rb_scan.specs.Expiry.{has_come}
use Rattle.rb_core_state.proofs.Late.{none_seen}
use Rattle.rb_core_state.proofs.floors.first_late.Goals as goal

pub returns-then-not-has_come : goal.returns-then-not-has_come
returns-then-not-has_come g c =
    let late = c.has_come.ensures ∙ ap (λ t. has_come (Some c.args.limit) (Some t)) (c.time.ensures ∙ ap (λ (r : Record). r.time) c.record.ensures) in
    none_seen c.args.book.now c.records-records.result.now c.args.limit c.in_ok-last.field-0.now c.has_come.result c.records-records.ensures.value c.records-records.ensures.book c.in_ok-last.ensures.value late c.if-not-has_come.true
