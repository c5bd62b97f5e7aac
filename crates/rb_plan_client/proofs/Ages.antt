-- Clients that are refreshed by age: the goal is the first of their needs.
use Rattle.std.proofs.Common.{◌≡◌, ◌≢◌, ℕ, Bool, true, false, Option, None, is_some, refl, ap, ◌∙◌, if◌then◌else◌, List, []}
use Rattle.std.specs.Option.{option_map, option_or}
use Rattle.rb_scan.specs.Expiry.{lesser}
use Rattle.rb_script_types.specs.declared.config.RefreshTo.{RefreshTo}
use Rattle.rb_script_types.specs.declared.config.RefreshTo.TheVariants.{Lowest, Highest, Newer}
use Rattle.rb_script_types.specs.declared.goal.Goal.{Goal}
use Rattle.rb_script_types.specs.declared.goal.Goal.TheVariants.{AtLeast}
use Rattle.rb_plan_client.specs.Laws.{in_window}
use Rattle.rb_base.specs.Window.{Span}
use Rattle.rb_plan_client.specs.Task.{PathTask, Task, Message, going_by, going_on, due_messages, wanted_height, is_due, lowest_fresh, fresh_reach, refresh_height, first_goal, goal_by, goal_of, messages_by, messages_of, first_press, refresh_moment, if_later, next_by, next_moment}

-- the height of a refresh that is due
abbrev pub age_height : Task → Option ℕ → RefreshTo → Option ℕ
age_height t reach Lowest = lowest_fresh t
age_height t reach Highest = option_or (fresh_reach t reach) (lowest_fresh t)
age_height t reach Newer = lowest_fresh t

abbrev pub age_refresh : Task → Option ℕ → Option Goal
age_refresh t reach = if is_due t then option_map (λ h. AtLeast h) (age_height t reach t.config.refresh_to) else None

abbrev pub age_goal : Task → Option ℕ → Option Goal
age_goal t reach = option_or t.asked (option_or (option_map (λ h. AtLeast h) (wanted_height t reach)) (age_refresh t reach))

abbrev pub age_next : Task → Option ℕ → Option ℕ
age_next t reach = lesser (if_later t (first_press t reach)) (if_later t (refresh_moment t []))

if_due : (b : Bool) (o : Option ℕ) → ◌≡◌ {A = Option Goal} (option_map (λ h. AtLeast h) (if b then o else None)) (if b then option_map (λ h. AtLeast h) o else None)
if_due true o = refl
if_due false o = refl

refresh_by : (t : Task) (reach : Option ℕ) (to : RefreshTo) → to ≢ Newer
    → ◌≡◌ {A = Option Goal} (option_map (λ h. AtLeast h) (refresh_height t reach to)) (if is_due t then option_map (λ h. AtLeast h) (age_height t reach to) else None)
refresh_by t reach Lowest by_age = if_due (is_due t) (lowest_fresh t)
refresh_by t reach Highest by_age = if_due (is_due t) (option_or (fresh_reach t reach) (lowest_fresh t))
refresh_by t reach Newer by_age = absurd (by_age refl)

goal_first : (t : Task) (reach : Option ℕ) (to : RefreshTo) → to ≢ Newer → goal_by t reach to ≡ first_goal t reach (wanted_height t reach)
goal_first t reach Lowest by_age = refl
goal_first t reach Highest by_age = refl
goal_first t reach Newer by_age = absurd (by_age refl)

pub first_is_goal : (t : Task) (reach : Option ℕ) → t.config.refresh_to ≢ Newer → goal_of t reach ≡ first_goal t reach (wanted_height t reach)
first_is_goal t reach by_age = goal_first t reach t.config.refresh_to by_age

pub goal_is_age : (t : Task) (reach : Option ℕ) → t.config.refresh_to ≢ Newer → goal_of t reach ≡ age_goal t reach
goal_is_age t reach by_age =
    first_is_goal t reach by_age
    ∙ ap (λ (r : Option Goal). option_or t.asked (option_or (option_map (λ h. AtLeast h) (wanted_height t reach)) r)) (refresh_by t reach t.config.refresh_to by_age)

next_by_age : (t : Task) (reach proof : Option ℕ) (to : RefreshTo) → to ≢ Newer → next_by t reach proof [] to ≡ age_next t reach
next_by_age t reach proof Lowest by_age = refl
next_by_age t reach proof Highest by_age = refl
next_by_age t reach proof Newer by_age = absurd (by_age refl)

pub next_is_age : (t : Task) (reach proof : Option ℕ) → t.config.refresh_to ≢ Newer → next_moment t reach proof [] ≡ age_next t reach
next_is_age t reach proof by_age = next_by_age t reach proof t.config.refresh_to by_age

going_same_by : (t : Task) (window : Span) (p : PathTask) (to : RefreshTo) → to ≢ Newer → going_by (in_window t window) p to ≡ going_by t p to
going_same_by t window p Lowest by_age = refl
going_same_by t window p Highest by_age = refl
going_same_by t window p Newer by_age = absurd (by_age refl)

-- the window plays no part in what goes
pub going_same : (t : Task) (window : Span) (p : PathTask) → t.config.refresh_to ≢ Newer → going_on (in_window t window) p ≡ going_on t p
going_same t window p by_age = going_same_by t window p t.config.refresh_to by_age

messages_by_age : (t : Task) (reach proof : Option ℕ) (to : RefreshTo) → to ≢ Newer
    → ◌≡◌ {A = List Message} (messages_by t reach proof to) (if is_some t.asked then [] else due_messages t reach)
messages_by_age t reach proof Lowest by_age = refl
messages_by_age t reach proof Highest by_age = refl
messages_by_age t reach proof Newer by_age = absurd (by_age refl)

pub messages_are_due : (t : Task) (reach proof : Option ℕ) → t.config.refresh_to ≢ Newer
    → ◌≡◌ {A = List Message} (messages_of t reach proof) (if is_some t.asked then [] else due_messages t reach)
messages_are_due t reach proof by_age = messages_by_age t reach proof t.config.refresh_to by_age
