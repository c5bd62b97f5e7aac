use Rattle.std.proofs.Common.{List, ℕ, subst}
use Rattle.std.specs.List.{AllZip, enumerate_from}
use Rattle.ibcplan_folders.specs.Fleets.{AreTold, ChainHas, ChainsHave, IsRestOf}
use Rattle.ibcplan_folders.specs.Leavings.{IsLeftOf, OrFailed, failed}
use Rattle.ibcplan_folders.specs.declared.left_out.Fleet.{Fleet}
use Rattle.ibcplan_folders.proofs.Leaving.{chains_left, if_ok, rest_of_left}
use Rattle.ibcplan_folders.proofs.importing.with_chains.Goals as goal

pub returns-clause-rest : goal.returns-clause-rest
returns-clause-rest g c =
    let ids = failed c.chain_answers.new.failures.items in
    let fleet : Fleet = record { setup = c.args.fleet.setup; answers = record c.args.fleet.answers { chains = c.in_ok-chains.chains } } in
    if_ok (IsLeftOf ids fleet) (λ left. IsRestOf c.args.fleet.setup left.setup) c.without_all.result (λ left is. rest_of_left fleet left (ids, is)) c.without_all.ensures.left

pub returns-clause-chains : goal.returns-clause-chains
returns-clause-chains g c =
    let told = AreTold (g.F.AnswerFolders.known c.args.files.now) in
    let ids = failed c.chain_answers.new.failures.items in
    let fleet : Fleet = record { setup = c.args.fleet.setup; answers = record c.args.fleet.answers { chains = c.in_ok-chains.chains } } in
    let have : ChainsHave (OrFailed told ids) fleet =
    subst (λ (cs : List (List ℕ)). AllZip (ChainHas (OrFailed told ids) c.args.fleet.setup.clients.items) (enumerate_from 0 cs) c.in_ok-chains.chains.items) c.as_slice.ensures.value c.in_ok-chains.ensures in
    if_ok (IsLeftOf ids fleet) (ChainsHave told) c.without_all.result (λ left is. chains_left told ids fleet left is have) c.without_all.ensures.left
