use Rattle.std.proofs.Common.{sym, ◌∙◌, subst}
use Rattle.rb_script_types.specs.Config.{IsConfig}
use Rattle.rb_script_config.specs.Setups.{setup_view}
use Rattle.rb_script_config.specs.Tables.{tables_view}
use Rattle.rb_script_config.proofs.ConfigForms.{same_ok, tables-few, config-form}
use Rattle.rb_script_toml.specs.Fields.{section_view}
use Rattle.rb_follow.proofs.setup.setup_at.Goals as goal

-- what was read twice is one
pub returns-clause-same : goal.returns-clause-same
returns-clause-same c =
    c.into_config-config.ensures ∙ same_ok (setup_view c.in_ok-again.again) (setup_view c.in_ok-setup.setup) (sym c.in_ok-again.ensures ∙ c.in_ok-setup.ensures)

pub returns-clause-form : goal.returns-clause-form
returns-clause-form c =
    subst IsConfig (sym c.into_config-config.ensures)
    (config-form (tables_view c.in_ok-tables.tables) _ (tables-few (section_view c.args.section) (tables_view c.in_ok-tables.tables) c.in_ok-tables.ensures) c.in_ok-again.ensures)
