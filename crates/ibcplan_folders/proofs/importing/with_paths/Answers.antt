use Rattle.std.proofs.Common.{List, subst}
use Rattle.std.specs.List.{AllZip}
use Rattle.rb_import_setup.specs.declared.setup.PathSetup.{PathSetup}
use Rattle.ibcplan_folders.specs.Fleets.{AreTold, ChainsHave, ClientsHave, IsRestOf, PathsHave, path_ids}
use Rattle.ibcplan_folders.specs.Leavings.{IsLeftOf, OrFailed, failed}
use Rattle.ibcplan_folders.specs.declared.left_out.Fleet.{Fleet}
use Rattle.ibcplan_folders.proofs.Leaving.{chains_stay, clients_stay, if_ok, paths_left, rest_of_left}
use Rattle.ibcplan_folders.proofs.importing.with_paths.Goals as goal

pub returns-clause-rest : goal.returns-clause-rest
returns-clause-rest g c =
    let ids = failed c.path_answers.new.failures.items in
    let fleet : Fleet = record { setup = c.args.fleet.setup; answers = record c.args.fleet.answers { paths = c.in_ok-paths.paths } } in
    if_ok (IsLeftOf ids fleet) (λ left. IsRestOf c.args.fleet.setup left.setup) c.without_all.result (λ left is. rest_of_left fleet left (ids, is)) c.without_all.ensures.left

pub returns-clause-chains : goal.returns-clause-chains
returns-clause-chains g c =
    let told = AreTold (g.F.AnswerFolders.known c.args.files.now) in
    let ids = failed c.path_answers.new.failures.items in
    let fleet : Fleet = record { setup = c.args.fleet.setup; answers = record c.args.fleet.answers { paths = c.in_ok-paths.paths } } in
    if_ok (IsLeftOf ids fleet) (ChainsHave told) c.without_all.result (λ left is. chains_stay told ids fleet left is c.requires.chains) c.without_all.ensures.left

pub returns-clause-clients : goal.returns-clause-clients
returns-clause-clients g c =
    let told = AreTold (g.F.AnswerFolders.known c.args.files.now) in
    let ids = failed c.path_answers.new.failures.items in
    let fleet : Fleet = record { setup = c.args.fleet.setup; answers = record c.args.fleet.answers { paths = c.in_ok-paths.paths } } in
    if_ok (IsLeftOf ids fleet) (ClientsHave told) c.without_all.result (λ left is. clients_stay told ids fleet left is c.requires.clients) c.without_all.ensures.left

pub returns-clause-paths : goal.returns-clause-paths
returns-clause-paths g c =
    let told = AreTold (g.F.AnswerFolders.known c.args.files.now) in
    let ids = failed c.path_answers.new.failures.items in
    let fleet : Fleet = record { setup = c.args.fleet.setup; answers = record c.args.fleet.answers { paths = c.in_ok-paths.paths } } in
    let have : PathsHave (OrFailed told ids) fleet =
    subst (λ (ps : List PathSetup). AllZip (OrFailed told ids 0) (path_ids ps) c.in_ok-paths.paths.items) c.as_slice.ensures.value c.in_ok-paths.ensures in
    if_ok (IsLeftOf ids fleet) (PathsHave told) c.without_all.result (λ left is. paths_left told ids fleet left is have) c.without_all.ensures.left
