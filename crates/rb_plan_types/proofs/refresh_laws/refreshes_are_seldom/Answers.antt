use Rattle.rb_plan_types.proofs.Seldom.{calm_seldom, calm_seldom_with_lag, always_seldom, seldom}
use Rattle.rb_plan_types.proofs.refresh_laws.refreshes_are_seldom.Goals as goal

pub returns : goal.returns
returns c = record { calm = calm_seldom; calm_where_nodes_lag = calm_seldom_with_lag; always = always_seldom; all = seldom }
