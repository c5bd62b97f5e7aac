-- What a draft that is accepted means for the report.
use Rattle.std.specs.Prelude.{◌≡◌, ℕ, Some, None, slice_get}
use Rattle.rb_plan_client.specs.Draft.{Draft, IsDraft}
use Rattle.rb_core_model.specs.Event.{Planned}
use Rattle.rb_core_model.specs.Machine.{State, refusal_of, after}
use Rattle.rb_core_model.specs.Standing.{ClientState, with_client}
use Rattle.rb_plan_client.specs.Task.{too_big_messages}
use Rattle.rb_super_turn.specs.Turns.{IsClientReport, outcome_of, after_outcome}

-- a draft that a relayer accepts is what is to be reported of its client as things stand, and leaves what the report leaves
abbrev pub AcceptedDraftsAreReported : Type 0
AcceptedDraftsAreReported =
    (s : State) (d : Draft) (c : ClientState) → IsDraft d → refusal_of s (Planned d) ≡ None → slice_get s.standing.clients d.job.client ≡ Some c
    → IsClientReport s.standing (d.job.client, c) (record { id = c.config.id; outcome = outcome_of c d; too_big = too_big_messages d.job.task })
    × ((after s (Planned d)).standing ≡ with_client s.standing d.job.client (after_outcome (outcome_of c d)))
