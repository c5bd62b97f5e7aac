-- Worked schedules, one after another.
use Rattle.std.proofs.Common.{◌≡◌, [], ◌∷◌, Some, length, refl}
use Rattle.std.specs.List.{slice_get}
use Rattle.std.specs.Option.{option_map}
use Rattle.rb_super.specs.Examples.{a_script, alone, with_worker, clients_in, idle_client}
use Rattle.rb_super_turn.specs.Report.{TurnReport}
use Rattle.rb_super.specs.Schedule.{world_after}

pub alone_clients : clients_in alone ≡ Some (idle_client 1 ∷ idle_client 2 ∷ [])
alone_clients = refl

pub alone_refused : option_map (λ (r : TurnReport). length r.refused) (slice_get (world_after a_script alone).done 0) ≡ Some 1
alone_refused = refl

pub worker_clients : clients_in with_worker ≡ Some (idle_client 1 ∷ idle_client 2 ∷ [])
worker_clients = refl

pub worker_drafts : length (world_after a_script with_worker).drafts ≡ 2
worker_drafts = refl
