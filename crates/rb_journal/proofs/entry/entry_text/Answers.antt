use Rattle.toml.specs.View.{table_view}
use Rattle.rb_journal.proofs.Entries.{verbatim_entry}
use Rattle.rb_journal.proofs.entry.entry_text.Goals as goal

pub returns-in-Err-Fault-clause-written : goal.returns-in-Err-Fault-clause-written
returns-in-Err-Fault-clause-written c =
    let refused = rw c.in-Err-Fault.field-0-is at c.in-Err-Fault.ensures.refused in
    (verbatim_entry c.args.digests c.args.bytes.now c.in_ok-verbatim_part-in-Err-Fault.field-0.items (table_view c.in_ok-turn.turn) (table_view c.in_ok-script.script)
    c.in-Err-Fault.field-0-0 c.in_ok-turn.ensures.read c.in_ok-script.ensures refused c.in_ok-verbatim_part-in-Err-Fault.ensures).0

pub returns-in-Err-Fault-clause-printed : goal.returns-in-Err-Fault-clause-printed
returns-in-Err-Fault-clause-printed c =
    let refused = rw c.in-Err-Fault.field-0-is at c.in-Err-Fault.ensures.refused in
    (verbatim_entry c.args.digests c.args.bytes.now c.in_ok-verbatim_part-in-Err-Fault.field-0.items (table_view c.in_ok-turn.turn) (table_view c.in_ok-script.script)
    c.in-Err-Fault.field-0-0 c.in_ok-turn.ensures.read c.in_ok-script.ensures refused c.in_ok-verbatim_part-in-Err-Fault.ensures).1
