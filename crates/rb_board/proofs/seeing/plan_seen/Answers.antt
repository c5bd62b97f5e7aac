use Rattle.std.proofs.Common.{◌≡◌, ℕ, Option, Some, None, IfSome, refl, ap, ◌∙◌, subst}
use Rattle.std.specs.List.{slice_get}
use Rattle.std.specs.Option.{option_map, option_and_then}
use Rattle.rb_base.specs.Window.{Span}
use Rattle.rb_core_model.specs.Machine.{State, client_view, job_of, state_of}
use Rattle.rb_core_model.specs.Standing.{ClientState}
use Rattle.rb_plan_client.specs.Draft.{Job}
use Rattle.rb_board.proofs.seeing.plan_seen.Goals as goal

-- what is seen of a client is of that client
of_client : (s : State) (client : ℕ) → IfSome (client_view s client) (λ (j : Job). j.client ≡ client)
of_client s client = windowed s.standing.window
  where
    held : (window : Span) (k : Option ClientState) → IfSome (option_map (job_of s client window) k) (λ (j : Job). j.client ≡ client)
    held window None = tt
    held window (Some k) = refl

    windowed : (w : Option Span) → IfSome (option_and_then (λ window. option_map (job_of s client window) (slice_get s.standing.clients client)) w) (λ (j : Job). j.client ≡ client)
    windowed None = tt
    windowed (Some window) = held window (slice_get s.standing.clients client)

pub returns-in-Ok-clause-client : goal.returns-in-Ok-clause-client
returns-in-Ok-clause-client g c =
    ap (λ (j : Job). j.client) c.in-Ok.ensures.job
    ∙ subst (λ o. IfSome o (λ (j : Job). j.client ≡ c.args.client)) c.in_ok-job.ensures.view (of_client (state_of c.view_client.new.self.config c.view_client.new.self.seen) c.args.client)
