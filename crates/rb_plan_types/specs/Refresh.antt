-- When and how high a client is refreshed (own choice). Times are in nanoseconds.
use Rattle.std.specs.Prelude.{ℕ, ◌+◌, ◌-◌, ◌/◌, ◌==◌, min, max, Bool, ◌&&◌, nat_lt, nat_le, if◌then◌else◌, Option, Some, None}
use Rattle.rb_plan_types.specs.declared.terms.Terms.{Terms}

-- from this age on a refresh is urgent: a third of the period is left, or less
abbrev pub urgent_age : Terms → ℕ
urgent_age t = t.period - t.period / 3

-- the newest stored state is so old at the end of the window
abbrev pub is_urgent : Terms → ℕ → ℕ → Bool
is_urgent t stored until = nat_le (stored + urgent_age t) until

-- the client can be brought to a state that is newer by more than half the refresh age
abbrev pub is_newer_by_half : Terms → ℕ → ℕ → Bool
is_newer_by_half t stored reach = nat_lt (stored + t.refresh / 2) reach

-- the newest stored state has the refresh age by the end of the window, and an update is worth its price
abbrev pub is_due : Terms → ℕ → ℕ → ℕ → Bool
is_due t stored reach until = nat_le (stored + t.refresh) until && is_newer_by_half t stored reach

-- an urgent refresh is one that makes it newer by more than this: a hundredth of the refresh age, or of the period where that is less
abbrev pub urgent_gain : Terms → ℕ
urgent_gain t = min t.refresh t.period / 100

-- to which time a refresh brings the client: any that isn't urgent to what is newer than the stored state by the refresh age, or, where
-- nothing is, as high as can be, and no further below the reach than that age; an urgent one as high as can be, where that is newer by
-- more than a hundredth of it
abbrev pub needed_time : Terms → ℕ → ℕ → ℕ → Option ℕ
needed_time t stored reach until =
    if t.refresh == 0 then None
    else if is_urgent t stored until then (if nat_lt (stored + urgent_gain t) reach then Some reach else None)
    else if is_due t stored reach until then Some (max (min (stored + t.refresh) reach) (reach - t.refresh))
    else None

-- from which moment on a refresh is needed, by what is in reach now: from the refresh age on where that is newer by more than half of it, and
-- from the urgent age on in any case
abbrev pub refresh_moment : Terms → ℕ → ℕ → Option ℕ
refresh_moment t stored reach =
    if t.refresh == 0 then None
    else if is_newer_by_half t stored reach then Some (stored + min t.refresh (urgent_age t))
    else if nat_lt (stored + urgent_gain t) reach then Some (stored + urgent_age t)
    else None
