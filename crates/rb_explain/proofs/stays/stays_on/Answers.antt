use Rattle.std.proofs.Common.{sym, ap, ◌∙◌}
use Rattle.rb_script_types.specs.declared.config.ClientConfig.{ClientConfig}
use Rattle.rb_explain.proofs.Waits.{stays_are}
use Rattle.rb_explain.proofs.stays.stays_on.Goals as goal

pub returns-in-Newer : goal.returns-in-Newer
returns-in-Newer g c =
    stays_are c.args.job.now.task c.args.path.now c.owed.result.now c.bars_of.result c.of.result (ap (λ (k : ClientConfig). k.refresh_to) (sym c.config.ensures) ∙ c.in-Newer.is)
    c.owed.ensures c.bars_of.ensures c.of.ensures
