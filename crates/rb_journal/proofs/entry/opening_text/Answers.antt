use Rattle.std.proofs.Common.{ap, ◌∙◌, inl}
use Rattle.std.proofs.lemmas.Result.{err_from_is_err_and}
use Rattle.toml.specs.View.{table_view, members_view}
use Rattle.rb_journal.specs.Entries.{turn_key}
use Rattle.rb_journal.proofs.Entries.{view-removed, is_opening}
use Rattle.rb_journal.proofs.Refusals.{no_opening}
use Rattle.rb_journal.proofs.entry.opening_text.Goals as goal

pub returns-clause-written : goal.returns-clause-written
returns-clause-written c =
    is_opening c.part_of.result c.args.digests c.args.setup.now (table_view c.in_ok-table.table) (table_view c.remove.new.self) c.in_ok-table.ensures.read
    (ap members_view c.remove.ensures.entries ∙ view-removed turn_key c.in_ok-table.table.entries) (rw c.heading.ensures at c.part_of.ensures.part)

pub returns-clause-refused : goal.returns-clause-refused
returns-clause-refused c =
    no_opening c.part_of.result c.args.digests c.args.setup.now (table_view c.in_ok-table.table) (table_view c.remove.new.self) c.in_ok-table.ensures.read
    (ap members_view c.remove.ensures.entries ∙ view-removed turn_key c.in_ok-table.table.entries) (rw c.heading.ensures at c.part_of.ensures.refused)

pub returns-in_err-table-clause-refused : goal.returns-in_err-table-clause-refused
returns-in_err-table-clause-refused c =
    let p = err_from_is_err_and c.from_residual.result c.from_residual.ensures.1 in
    rw (p.1, p.2) (inl c.in_err-table.ensures.read)
