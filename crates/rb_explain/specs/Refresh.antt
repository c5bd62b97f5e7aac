-- What is told of a client's refresh by gain (own choice): that one is needed, or that it waits for a newer header.
use Rattle.std.specs.Prelude.{◌≡◌, ℕ, ◌==◌, Bool, false, not, ◌&&◌, ◌||◌, ◌+◌, nat_lt, Option, Some, None, is_some, if◌then◌else◌}
use Rattle.std.specs.Option.{option_map_or}
use Rattle.rb_book.specs.Header.{Record}
use Rattle.rb_plan_client.specs.Task.{Task, is_due, newest_stored, newer_height, terms_of}
use Rattle.rb_plan_types.specs.Refresh.{is_urgent}
use Rattle.rb_script_types.specs.declared.config.RefreshTo.{RefreshTo}
use Rattle.rb_script_types.specs.declared.config.RefreshTo.TheVariants.{Lowest, Highest, Newer}
use Rattle.rb_super_turn.specs.Report.{Outcome, held, idle, planned}
use Rattle.rb_explain.specs.declared.refresh.Refresh.{Refresh}

-- the newest stored state is so old at the end of the window that a refresh is urgent
abbrev pub is_pressed : Task → Bool
is_pressed t =
    not (t.config.refresh == 0) && option_map_or (λ (r : Record). is_urgent (terms_of t) r.time t.window.until) (newest_stored t) false

-- by its age alone the newest stored state would be refreshed
abbrev pub is_aged_by : Task → RefreshTo → Bool
is_aged_by t Lowest = is_due t
is_aged_by t Highest = is_due t
is_aged_by t Newer = is_due t || is_pressed t

abbrev pub is_aged : Task → Bool
is_aged t = is_aged_by t t.config.refresh_to

-- a refresh with the height that it needs, if there is one; none where none is needed, and none would be by the age alone
abbrev pub refresh_to : Task → Option ℕ → Option Refresh
refresh_to t height = if is_some height || is_aged t then Some (record { height = height; is_urgent = is_pressed t }) else None

-- it is live throughout the window (ICS 7)
abbrev pub is_live : Task → Bool
is_live t = option_map_or (λ (r : Record). nat_lt t.window.until (r.time + t.config.options.period)) (newest_stored t) false

-- nothing is told of a client that has expired, or that is refreshed by age
abbrev pub refresh_by : Task → Option ℕ → RefreshTo → Option Refresh
refresh_by t reach Lowest = None
refresh_by t reach Highest = None
refresh_by t reach Newer = if is_live t then refresh_to t (newer_height t reach) else None

-- nor while a batch is open. (An idle client needs no refresh, by whichever height it can be brought to.)
abbrev pub refresh_in : Task → Outcome → Option ℕ → Option Refresh
refresh_in t (held number) reach = None
refresh_in t (idle next) reach = refresh_by t reach t.config.refresh_to
refresh_in t (planned p) reach = refresh_by t reach t.config.refresh_to
