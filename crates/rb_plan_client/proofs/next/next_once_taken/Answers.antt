use Rattle.std.proofs.Common.{◌≡◌, ◌∙◌, ◌⊎◌, List, ap, sym, subst}
use Rattle.rb_scan.specs.Expiry.{lesser}
use Rattle.rb_script_types.specs.declared.config.ClientConfig.{ClientConfig}
use Rattle.rb_script_types.specs.declared.config.RefreshTo.TheVariants.{Lowest, Highest}
use Rattle.rb_step.specs.LightClient.{Update}
use Rattle.rb_plan_client.specs.Draft.{planned_updates}
use Rattle.rb_plan_client.specs.Task.{first_press, if_later, refresh_moment, view_of}
use Rattle.rb_plan_client.proofs.ProofHeights.{next_without_proof, proof_height_exists}
use Rattle.rb_plan_client.proofs.next.next_once_taken.Goals as goal

pub returns-in-Lowest : goal.returns-in-Lowest
returns-in-Lowest g c =
    let t = c.args.job.now.task in
    let reach = c.args.reach.now in
    let us = planned_updates c.args.planned.now in
    let (proof, is_proof) = proof_height_exists (view_of t) us in
    let by_age : (t.config.refresh_to ≡ Lowest) ⊎ (t.config.refresh_to ≡ Highest) =
    subst (λ (k : ClientConfig). (k.refresh_to ≡ Lowest) ⊎ (k.refresh_to ≡ Highest)) c.config.ensures c.in-Lowest.is in
    record {
      proof = proof;
      is_proof = is_proof;
      is = c.next_by_age.ensures ∙ ap (λ (xs : List Update). lesser (if_later t (first_press t reach)) (if_later t (refresh_moment t xs))) c.planned_updates-updates.ensures
          ∙ sym (next_without_proof t reach proof us t.config.refresh_to by_age);
    }
