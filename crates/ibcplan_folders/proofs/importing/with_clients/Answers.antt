use Rattle.std.proofs.Common.{List, ℕ, subst}
use Rattle.std.specs.List.{AllZip}
use Rattle.rb_import_setup.specs.declared.setup.ClientSetup.{ClientSetup}
use Rattle.ibcplan_folders.specs.Fleets.{AreTold, ChainsHave, ClientHas, ClientsHave, IsRestOf}
use Rattle.ibcplan_folders.specs.Leavings.{IsLeftOf, OrFailed, failed}
use Rattle.ibcplan_folders.specs.declared.left_out.Fleet.{Fleet}
use Rattle.ibcplan_folders.proofs.Leaving.{chains_stay, clients_left, if_ok, rest_of_left}
use Rattle.ibcplan_folders.proofs.importing.with_clients.Goals as goal

pub returns-clause-rest : goal.returns-clause-rest
returns-clause-rest g c =
    let ids = failed c.client_answers.new.failures.items in
    let fleet : Fleet = record { setup = c.args.fleet.setup; answers = record c.args.fleet.answers { clients = c.in_ok-clients.clients } } in
    if_ok (IsLeftOf ids fleet) (λ left. IsRestOf c.args.fleet.setup left.setup) c.without_all.result (λ left is. rest_of_left fleet left (ids, is)) c.without_all.ensures.left

pub returns-clause-chains : goal.returns-clause-chains
returns-clause-chains g c =
    let told = AreTold (g.F.AnswerFolders.known c.args.files.now) in
    let ids = failed c.client_answers.new.failures.items in
    let fleet : Fleet = record { setup = c.args.fleet.setup; answers = record c.args.fleet.answers { clients = c.in_ok-clients.clients } } in
    if_ok (IsLeftOf ids fleet) (ChainsHave told) c.without_all.result (λ left is. chains_stay told ids fleet left is c.requires.chains) c.without_all.ensures.left

pub returns-clause-clients : goal.returns-clause-clients
returns-clause-clients g c =
    let told = AreTold (g.F.AnswerFolders.known c.args.files.now) in
    let ids = failed c.client_answers.new.failures.items in
    let fleet : Fleet = record { setup = c.args.fleet.setup; answers = record c.args.fleet.answers { clients = c.in_ok-clients.clients } } in
    let have : ClientsHave (OrFailed told ids) fleet =
    subst (λ (cs : List (List ℕ)). AllZip (ClientHas (OrFailed told ids) cs) c.args.fleet.setup.clients.items c.in_ok-clients.clients.items) c.as_slice.ensures.value
    (subst (λ (cs : List ClientSetup). AllZip (ClientHas (OrFailed told ids) c.as_slice.result.now) cs c.in_ok-clients.clients.items) c.as_slice-2.ensures.value c.in_ok-clients.ensures) in
    if_ok (IsLeftOf ids fleet) (ClientsHave told) c.without_all.result (λ left is. clients_left told ids fleet left is have) c.without_all.ensures.left
