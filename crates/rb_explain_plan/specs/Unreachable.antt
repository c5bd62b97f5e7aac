-- A goal that no list of updates meets: what it wants, and what is refused on the way there.
use Rattle.std.specs.Prelude.{◌≡◌, ℕ, ◌+◌, ◌≤◌, nat_lt, nat_le, Bool, false, List, [], ◌++◌, map, filter, reverse, take, Option, Some, None, All, Any, MatchOption}
use Rattle.std.specs.List.{AllZip}
use Rattle.std.specs.Option.{option_map_or}
use Rattle.rb_book.specs.Book.{Book, record_at}
use Rattle.rb_book.specs.Header.{Header, Record}
use Rattle.rb_plan_types.specs.declared.labelling.Label.{Label}
use Rattle.rb_script_types.specs.Goal.{Wants}
use Rattle.rb_script_types.specs.declared.goal.Goal.{Goal}
use Rattle.rb_step.specs.LightClient.{Update}
use Rattle.rb_step.specs.View.{View}
use Rattle.rb_explain_plan.specs.Bisection.{update_to}
use Rattle.rb_explain_plan.specs.Steps.{IsExplainedUpdate}
use Rattle.rb_explain_plan.specs.declared.unreachable.UnreachableExplanation.{UnreachableExplanation}

-- the lowest height of these headers that the goal wants
pub record IsLowestWanted (goal : Goal) (headers : List Header) (height : ℕ) : Type 0 where
  pub header : Any (λ (h : Header). h.height ≡ height) headers
  pub wanted : Wants goal height
  pub lowest : All (λ (h : Header). Wants goal h.height → height ≤ h.height) headers

-- the lowest header that the goal wants; none where it wants none of them
abbrev pub IsFirstWanted : Book → Goal → Option ℕ → Type 0
IsFirstWanted b goal o = MatchOption o (All (λ (h : Header). Wants goal h.height → ⊥) b.headers) (IsLowestWanted goal b.headers)

-- the height that was wanted before, if there was one, else this one, where the goal wants it
abbrev pub IsFirstOf : Goal → Option ℕ → ℕ → Option ℕ → Type 0
IsFirstOf goal (Some first) height o = o ≡ Some first
IsFirstOf goal None height o = MatchOption o (Wants goal height → ⊥) (λ h. (h ≡ height) × Wants goal height)

-- whether the record at a height expires by the end of the window (ICS 7, trusting period)
abbrev pub has_expired : View → ℕ → Bool
has_expired v height = option_map_or (λ (r : Record). nat_le (r.time + v.options.period) v.window.until) (record_at v.book height) false

-- the heights from which steps are tried: those of the labels, which are reached, and then the stored ones that have expired;
-- both the highest first
abbrev pub bases : View → List Label → List ℕ
bases v labels = map (λ (l : Label). l.height) (reverse labels) ++ filter (has_expired v) (reverse v.stored)

-- the updates to a height from the first of these that lie below it, so many at most
abbrev pub updates_to : List ℕ → ℕ → ℕ → List Update
updates_to heights most wanted = map (update_to wanted) (take most (filter (λ h. nat_lt h wanted) heights))

-- the updates that are tried; none where no header is wanted
abbrev pub tried : View → List Label → ℕ → Option ℕ → List Update
tried v labels most None = []
tried v labels most (Some wanted) = updates_to (bases v labels) most wanted

-- by the labels of the reached heights, and up to so many steps: the lowest header that the goal wants; the updates to it that are
-- tried; and the step of each, explained
pub record IsUnreachableExplained {A : Type 0} (v : View) (goal : Goal) (labels : List Label) (most : ℕ) (x : UnreachableExplanation A) : Type 0 where
  pub wanted : IsFirstWanted v.book goal x.wanted
  pub tried : x.tried.items ≡ tried v labels most x.wanted
  pub steps : AllZip (IsExplainedUpdate v) x.tried.items x.steps.items
