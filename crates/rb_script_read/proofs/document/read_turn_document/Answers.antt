use Rattle.toml.specs.View.{table_view}
use Rattle.rb_script_toml.specs.Documents.{whole}
use Rattle.rb_script_config.specs.Setups.{setup_view}
use Rattle.rb_script_read.specs.Turns.{reading_view}
use Rattle.rb_script_read.proofs.DocumentsLemmas.{next-form}
use Rattle.rb_script_read.proofs.document.read_turn_document.Goals as goal

pub returns-clause-form : goal.returns-clause-form
returns-clause-form c =
    next-form (setup_view c.args.setup.now) (reading_view c.args.reading.now) (whole (table_view c.in_ok-table.table)) c.read_top.result c.read_top.ensures
