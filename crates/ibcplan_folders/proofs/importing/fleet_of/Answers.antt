use Rattle.std.proofs.Common.{◌≡◌, List, ℕ, subst}
use Rattle.std.specs.Prelude.{Ok}
use Rattle.rb_import_setup.specs.Setups.{setup_of, setup_view}
use Rattle.ibcplan_folders.proofs.Fleeting.{fleet_read}
use Rattle.ibcplan_folders.proofs.importing.fleet_of.Goals as goal

pub returns-in-Ok : goal.returns-in-Ok
returns-in-Ok g c =
    fleet_read (g.F.AnswerFolders.known c.args.files.now) c.args.input.now c.args.left_out.now c.read_fleet.new.left_out c.in-Ok.setup c.read_fleet.result
    (subst (λ (bytes : List ℕ). setup_of bytes ≡ Ok (setup_view c.in-Ok.setup)) c.bytes.ensures c.in-Ok.ensures.read)
    c.read_fleet.ensures.rest c.read_fleet.ensures.whole c.read_fleet.ensures.chains c.read_fleet.ensures.clients c.read_fleet.ensures.paths
