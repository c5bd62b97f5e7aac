use Rattle.std.proofs.Common.{◌≡◌, ◌≢◌, ◌∙◌, ℕ, Option, map, sym, ap}
use Rattle.std.specs.Option.{option_or}
use Rattle.rb_scan.specs.Owed.{wanted}
use Rattle.rb_script_types.specs.declared.config.ClientConfig.{ClientConfig}
use Rattle.rb_script_types.specs.declared.config.RefreshTo.TheVariants.{Newer}
use Rattle.rb_script_types.specs.declared.goal.Goal.{Goal}
use Rattle.rb_plan_client.specs.Task.{Task, Message, wanted_height, newer_height, first_goal, asked_in_reach, joined_goal, goal_by, goal_of}
use Rattle.rb_plan_client.proofs.Ages.{first_is_goal}
use Rattle.rb_plan_client.proofs.goal.goal_of.Goals as goal

by_gain : (t : Task) (reach high height : Option ℕ) (asked joined own result : Option Goal)
    → high ≡ wanted_height t reach → asked ≡ asked_in_reach t reach → height ≡ newer_height t reach
    → joined ≡ joined_goal asked high height → own ≡ t.asked → result ≡ option_or joined own → t.config.refresh_to ≡ Newer
    → result ≡ goal_of t reach
by_gain t reach high height asked joined own result wanting asking refreshing joining owning is newer =
    is ∙ (λ i. option_or (joining i) (owning i))
    ∙ (λ i. option_or (joined_goal (asking i) (wanting i) (refreshing i)) t.asked)
    ∙ ap (goal_by t reach) (sym newer)

pub returns-in-Newer : goal.returns-in-Newer
returns-in-Newer g c =
    let t = c.args.job.now.task in
    by_gain t c.args.reach.now c.wanted-wanted.result c.newer_height.result c.asked_in_reach-asked.result c.joined_goal.result
    c.asked.result c.or.result
    (c.wanted-wanted.ensures ∙ ap (λ ms. wanted (map (λ (m : Message). m.packet) ms)) c.requires)
    c.asked_in_reach-asked.ensures c.newer_height.ensures c.joined_goal.ensures c.asked.ensures c.or.ensures
    (sym (ap (λ (x : ClientConfig). x.refresh_to) c.config.ensures) ∙ c.in-Newer.is)

pub returns-in_default : goal.returns-in_default
returns-in_default g c =
    let t = c.args.job.now.task in
    let by_age : t.config.refresh_to ≢ Newer =
    λ newer. c.in_default.not-Newer (ap (λ (x : ClientConfig). x.refresh_to) c.config.ensures ∙ newer) in
    let wanting = c.wanted-wanted.ensures ∙ ap (λ ms. wanted (map (λ (m : Message). m.packet) ms)) c.requires in
    c.first_goal.ensures ∙ ap (first_goal t c.args.reach.now) wanting ∙ sym (first_is_goal t c.args.reach.now by_age)
