use Rattle.std.proofs.Common.{◌≡◌, Some, None, rules}
use Rattle.std.proofs.lemmas.Result.{err_from_is_err_and}
use Rattle.toml.specs.View.{table_view}
use Rattle.rb_journal.specs.Entries.{turn_in}
use Rattle.rb_journal.proofs.Entries.{restored, unrestored-read, unrestored-turn, unrestored-text}
use Rattle.rb_journal.proofs.entry.script_document.Goals as goal

pub returns-in_err-script-clause-unrestored : goal.returns-in_err-script-clause-unrestored
returns-in_err-script-clause-unrestored c =
    let p = err_from_is_err_and c.from_residual.result c.from_residual.ensures.1 in
    rw (p.1, p.2) (unrestored-read c.args.digests c.args.part.now c.inner.result.now _ c.inner.ensures c.in_err-script.ensures.read)

pub returns-in-Some-clause-restored : goal.returns-in-Some-clause-restored
returns-in-Some-clause-restored c =
    let is_turn : turn_in (table_view c.in_ok-script.script) ≡ Some (table_view c.in-Some.turn.now) = search rules in
    restored c.args.digests c.text_of.result c.args.part.now c.inner.result.now (table_view c.in_ok-script.script) (table_view c.in-Some.turn.now) c.inner.ensures
    c.in_ok-script.ensures.read is_turn c.text_of.ensures.read

pub returns-in-Some-clause-unrestored : goal.returns-in-Some-clause-unrestored
returns-in-Some-clause-unrestored c =
    let is_turn : turn_in (table_view c.in_ok-script.script) ≡ Some (table_view c.in-Some.turn.now) = search rules in
    unrestored-text c.args.digests c.text_of.result c.args.part.now c.inner.result.now (table_view c.in_ok-script.script) (table_view c.in-Some.turn.now) c.inner.ensures
    c.in_ok-script.ensures.read is_turn c.text_of.ensures.refused

pub returns-clause-unrestored : goal.returns-clause-unrestored
returns-clause-unrestored c =
    let none : turn_in (table_view c.in_ok-script.script) ≡ None = search rules in
    unrestored-turn c.args.digests c.args.part.now c.inner.result.now (table_view c.in_ok-script.script) c.fault_at.result c.inner.ensures c.in_ok-script.ensures.read none
