use Rattle.ibcplan_folders.proofs.Lefts.{not_more}
use Rattle.ibcplan_folders.proofs.left_out.rest_of.Goals as goal

pub returns-clause-not_more : goal.returns-clause-not_more
returns-clause-not_more c =
    not_more _ _ _ _ c.args.fleet.setup.clients.items c.in_ok-rest.rest.setup.clients.items c.args.fleet.setup.paths.items c.in_ok-rest.rest.setup.paths.items
    c.in_ok-rest.ensures.clients c.in_ok-rest.ensures.paths
