use Rattle.std.proofs.Common.{codes}
use Rattle.toml.proofs.Views.{table_get}
use Rattle.rb_import_setup.proofs.hermes_chain.price_of.Goals as goal

pub returns : goal.returns
returns c = table_get c.get.result (codes "price") c.args.table.now.entries c.get.ensures.value
