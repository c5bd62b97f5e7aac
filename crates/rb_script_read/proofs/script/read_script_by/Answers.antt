use Rattle.toml.specs.View.{table_view}
use Rattle.rb_script_toml.specs.Documents.{whole}
use Rattle.rb_script_read.specs.Scripts.{script}
use Rattle.rb_script_types.specs.Script.{IsReadScript, script_view}
use Rattle.rb_script_read.proofs.Forms.{script-form, form-of}
use Rattle.rb_script_read.proofs.PlainLemmas.{script_of-form}
use Rattle.rb_script_read.proofs.script.read_script_by.Goals as goal

pub returns-in-Ok-clause-form : goal.returns-in-Ok-clause-form
returns-in-Ok-clause-form g c = script_of-form c.args.bytes.now (script_view c.in-Ok.script) c.in-Ok.ensures

pub returns-clause-form : goal.returns-clause-form
returns-clause-form g c =
    form-of IsReadScript c.read_document_by.result (script (whole (table_view c.in_ok-table.table))) c.read_document_by.ensures
    (script-form (whole (table_view c.in_ok-table.table)))
