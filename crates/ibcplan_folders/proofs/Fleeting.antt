-- Fleets whose answers are what files tell.
use Rattle.std.proofs.Common.{◌≡◌, ℕ, List, true, ap, ◌∙◌}
use Rattle.std.specs.Prelude.{Option, Result, Ok, Err, IfOk, is_some}
use Rattle.rb_import_check.specs.declared.signed.Signatures.{Signatures}
use Rattle.rb_import_setup.specs.Setups.{setup_of, setup_view}
use Rattle.rb_import_setup.specs.declared.setup.ImportSetup.{ImportSetup}
use Rattle.ibcplan_folders.specs.Fleets.{AreTold, ChainsHave, ClientsHave, IsFleetOf, IsMadeBy, IsRestOf, PathsHave}
use Rattle.ibcplan_folders.specs.Folders.{AnswerFile}
use Rattle.ibcplan_folders.specs.Leavings.{IsLeftOf, IsMadeOfLeft, StaysWhole}
use Rattle.ibcplan_folders.specs.LeftOut.{import_status}
use Rattle.ibcplan_folders.specs.declared.importing.MadeScript.{MadeScript}
use Rattle.ibcplan_folders.specs.declared.left_out.Fleet.{Fleet}
use Rattle.ibcplan_folders.specs.declared.left_out.LeftOut.{LeftOut}
use Rattle.ibcplan_folders.proofs.Leaving.{chains_stay, clients_stay, paths_stay, rest_after, rest_of_left}
use Rattle.ibcplan_folders.proofs.Wholes.{none_before, nothing}

pub fleet_read : {E : Type 0} (known : Option (List AnswerFile)) (bytes : List ℕ) (old new : LeftOut) (setup : ImportSetup) (r : Result Fleet E) → setup_of bytes ≡ Ok (setup_view setup)
    → IfOk r (λ f. IsRestOf setup f.setup) → IfOk r (λ f. StaysWhole old new setup f.setup) → IfOk r (ChainsHave (AreTold known)) → IfOk r (ClientsHave (AreTold known))
    → IfOk r (PathsHave (AreTold known)) → IfOk r (IsFleetOf known bytes (import_status new))
fleet_read known bytes old new setup (Err e) read rest whole chains clients paths = tt
fleet_read known bytes old new setup (Ok f) read rest whole chains clients paths =
    record { setup = setup; read = read; rest = rest; whole = λ zero. (whole (nothing (is_some new.first) zero)).1; chains = chains; clients = clients; paths = paths }

fleet_left : (known : Option (List AnswerFile)) (bytes : List ℕ) (before status : ℕ) (ids : List (List ℕ)) (f g : Fleet) → IsLeftOf ids f g → (status ≡ 0 → g ≡ f) → (status ≡ 0 → before ≡ 0)
    → IsFleetOf known bytes before f → IsFleetOf known bytes status g
fleet_left known bytes before status ids f g left whole none is = record {
  setup = is.setup;
  read = is.read;
  rest = rest_after is.setup f.setup g.setup is.rest (rest_of_left f g (ids, left));
  whole = λ zero. ap (λ (h : Fleet). h.setup) (whole zero) ∙ is.whole (none zero);
  chains = chains_stay (AreTold known) ids f g left is.chains;
  clients = clients_stay (AreTold known) ids f g left is.clients;
  paths = paths_stay (AreTold known) ids f g left is.paths;
}

pub made_by : {E : Type 0} (known : Option (List AnswerFile)) (bytes : List ℕ) (signatures : Signatures) (l : LeftOut) (f : Fleet) (r : Result MadeScript E) → IsFleetOf known bytes (import_status l) f
    → IfOk r (λ m. is_some l.first ≡ true → m.status ≡ 7) → IfOk r (IsMadeOfLeft f signatures) → IfOk r (λ m. IsMadeBy known bytes signatures m.status m.script)
made_by known bytes signatures l f (Err e) is some made = tt
made_by known bytes signatures l f (Ok m) is some (rest, whole, ((ids, left), made)) = record {
  fleet = rest;
  is_fleet = fleet_left known bytes (import_status l) m.status ids f rest left whole (none_before l m.status some) is;
  is_made = made;
}
