-- What goes with a plan's updates is what is ready at some height.
use Rattle.std.proofs.Common.{◌≡◌, ℕ, ◌≤◌, List, [], ◌∷◌, Option, Some, None, is_some, refl, sym, ap, arith, if◌then◌else◌}
use Rattle.std.specs.List.{flat_map}
use Rattle.rb_plan_types.specs.ProofHeight.{IsProofHeight}
use Rattle.rb_script_types.specs.declared.config.RefreshTo.{RefreshTo}
use Rattle.rb_script_types.specs.declared.config.RefreshTo.TheVariants.{Lowest, Highest, Newer}
use Rattle.rb_script_types.specs.declared.goal.Goal.{Goal}
use Rattle.rb_step.specs.LightClient.{Update, Client}
use Rattle.rb_plan_client.specs.Task.{PathTask, Task, Message, ready_on, ready_messages, sending_reach, messages_by, messages_of}

none_ready : (t : Task) (ps : List PathTask) → flat_map (ready_on t None) ps ≡ []
none_ready t [] = refl
none_ready t (p ∷ ps) = none_ready t ps

-- a height at which these messages are those that are ready
pub record AreReadyAt (t : Task) (ms : List Message) : Type 0 where
  pub height : Option ℕ
  pub are : ms ≡ ready_messages t height

by_asked : (t : Task) (height : Option ℕ) (asked : Option Goal) → AreReadyAt t (if is_some asked then [] else ready_messages t height)
by_asked t height None = record { height = height; are = refl }
by_asked t height (Some g) = record { height = None; are = sym (none_ready t t.paths) }

by_refresh : (t : Task) (reach proof : Option ℕ) (to : RefreshTo) → AreReadyAt t (messages_by t reach proof to)
by_refresh t reach proof Lowest = by_asked t (sending_reach t reach) t.asked
by_refresh t reach proof Highest = by_asked t (sending_reach t reach) t.asked
by_refresh t reach proof Newer = record { height = proof; are = refl }

pub ready_at : (t : Task) (reach proof : Option ℕ) → AreReadyAt t (messages_of t reach proof)
ready_at t reach proof = by_refresh t reach proof t.config.refresh_to

-- updates leave one proof height
pub same_proof : (client : Client) (us : List Update) (top : Option ℕ) (n : ℕ) → IsProofHeight client us top → IsProofHeight client us (Some n) → top ≡ Some n
same_proof client us None n a b = absurd (a.greatest n b.left)
same_proof client us (Some m) n a b =
    let low : m ≤ n = b.greatest m a.left in
    let high : n ≤ m = a.greatest n b.left in
    let same : m ≡ n = omega (arith, low, high) in
    ap (λ x. Some x) same
