use Rattle.std.proofs.Common.{subst}
use Rattle.rb_import_setup.specs.declared.setup.ImportSetup.{ImportSetup}
use Rattle.ibcplan_folders.specs.Fleets.{IsRestOf}
use Rattle.ibcplan_folders.specs.Leavings.{StaysWhole}
use Rattle.ibcplan_folders.proofs.Leaving.{if_ok, rest_after}
use Rattle.ibcplan_folders.proofs.Wholes.{whole_after}
use Rattle.ibcplan_folders.proofs.importing.read_fleet.Goals as goal

pub returns-clause-rest : goal.returns-clause-rest
returns-clause-rest g c =
    let setup = c.args.setup in
    let chains = c.in_ok-chains.chains.setup in
    let clients = c.in_ok-clients.clients.setup in
    let whole : IsRestOf setup chains = subst (λ (s : ImportSetup). IsRestOf s chains) c.without_answers-empty.ensures c.in_ok-chains.ensures.rest in
    if_ok (λ f. IsRestOf clients f.setup) (λ f. IsRestOf setup f.setup) c.with_paths.result
    (λ f rest. rest_after setup clients f.setup (rest_after setup chains clients whole c.in_ok-clients.ensures.rest) rest) c.with_paths.ensures.rest

pub returns-clause-whole : goal.returns-clause-whole
returns-clause-whole g c =
    let setup = c.args.setup in
    let chains = c.in_ok-chains.chains.setup in
    let clients = c.in_ok-clients.clients.setup in
    let begun = c.args.left_out.now in
    let first = c.with_chains.new.left_out in
    let second = c.with_clients.new.left_out in
    let last = c.with_paths.new.left_out in
    let whole : StaysWhole begun first setup chains = subst (λ (s : ImportSetup). StaysWhole begun first s chains) c.without_answers-empty.ensures c.in_ok-chains.ensures.whole in
    if_ok (λ f. StaysWhole second last clients f.setup) (λ f. StaysWhole begun last setup f.setup) c.with_paths.result
    (λ f next. whole_after begun second last setup clients f.setup (whole_after begun first second setup chains clients whole c.in_ok-clients.ensures.whole) next) c.with_paths.ensures.whole
