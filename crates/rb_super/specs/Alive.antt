-- Clients that are refreshed by gain, turn by turn of a script (own choice, over what a script's turns report).
use Rattle.std.specs.Prelude.{◌≡◌, ℕ, ◌+◌, ◌-◌, ◌<◌, ◌==◌, Bool, true, not, ◌||◌, List, [], length, map, Some, is_some, slice_get}
use Rattle.std.specs.List.{list_any}
use Rattle.std.specs.Option.{option_map_or, option_or}
use Rattle.rb_book.specs.Header.{Record}
use Rattle.rb_script_types.specs.declared.config.ClientConfig.{ClientConfig}
use Rattle.rb_script_types.specs.declared.config.RefreshTo.TheVariants.{Newer}
use Rattle.rb_plan_types.specs.Turns.{Turns, IsLive, FollowsRule, WouldExpire, CanBeKept}
use Rattle.rb_plan_types.specs.declared.terms.Terms.{Terms}
use Rattle.rb_plan_client.specs.Task.{newest_stored, reach_record}
use Rattle.rb_super_turn.specs.Report.{PricedUpdate, PlanReport, Outcome, held, idle, planned, Report}
use Rattle.rb_super_turn.specs.Script.{Script}
use Rattle.rb_super.specs.Fewest.{ClientTurn, IsRun}
use Rattle.rb_super.specs.Pressing.{asks_exactly}

-- ---- a turn, as a refresh sees it

-- the times of the newest stored state, and of the greatest height that the client can be brought to; 0 where there is none
abbrev pub newest_time : ClientTurn → ℕ
newest_time k = option_map_or (λ (r : Record). r.time) (newest_stored k.task) 0

abbrev pub reach_time : ClientTurn → ℕ
reach_time k = option_map_or (λ (r : Record). r.time) (reach_record k.task k.reach) 0

-- the heights of the updates that are planned
abbrev pub planned_heights : Outcome → List ℕ
planned_heights (held number) = []
planned_heights (idle next) = []
planned_heights (planned a) = option_map_or (λ (p : PlanReport). map (λ (u : PricedUpdate). u.update.height) p.updates) a.plan []

-- a height that the turn plans isn't stored in the next one
abbrev pub is_left : ClientTurn → ClientTurn → Bool
is_left k next = list_any (λ height. not (list_any (λ h. h == height) next.task.stored)) (planned_heights k.report.outcome)

-- no refresh comes of the turn: an open batch holds the client, it was asked for a height exactly, or what is planned isn't taken by the next turn
abbrev pub is_held : ClientTurn → ClientTurn → Bool
is_held k next = is_some k.client.batch || (asks_exactly k.client.asked || is_left k next)

-- ---- a run of turns, as the rule on refreshes has it

-- nothing comes of the last turn
abbrev pub held_in : List ClientTurn → ℕ → Bool
held_in ks turn = option_map_or (λ k. option_map_or (is_held k) (slice_get ks (turn + 1)) true) (slice_get ks turn) true

abbrev pub turns_of : List ClientTurn → Turns
turns_of ks = record {
  until = λ turn. option_map_or (λ (k : ClientTurn). k.task.window.until) (slice_get ks turn) 0;
  reach = λ turn. option_map_or reach_time (slice_get ks turn) 0;
  held = held_in ks;
}

-- the time of the newest stored state in each turn, and after the last one still that of the last
abbrev pub stored_of : List ClientTurn → ℕ → ℕ
stored_of ks turn = option_map_or newest_time (option_or (slice_get ks turn) (slice_get ks (length ks - 1))) 0

-- ---- the laws

-- what a client's refreshes go by
abbrev pub terms_for : ClientConfig → Terms
terms_for c = record { period = c.options.period; refresh = c.refresh }

-- a client of the script, by its place, is refreshed by gain
pub record IsByGain (script : Script) (place : ℕ) (config : ClientConfig) : Type 0 where
  pub is_client : slice_get script.config.clients place ≡ Some config
  pub by_gain : config.refresh_to ≡ Newer

-- a client's turns follow the rule: so all laws of refreshes hold of them
abbrev pub TurnsFollowTheRule : Type 0
TurnsFollowTheRule =
    (script : Script) (report : Report) (place : ℕ) (config : ClientConfig) (ks : List ClientTurn) → IsRun script report place ks → IsByGain script place config
    → FollowsRule (terms_for config) (length ks) (turns_of ks) (stored_of ks)

-- a client that is live in the first turn never expires, if it can be kept in each turn after which it would
abbrev pub IsKept : ClientConfig → List ClientTurn → Type 0
IsKept config ks =
    0 < config.refresh → IsLive (terms_for config) (stored_of ks 0) ((turns_of ks).until 0)
    → ((turn : ℕ) → turn + 1 < length ks → WouldExpire (terms_for config) (turns_of ks) (stored_of ks) turn → CanBeKept (terms_for config) (turns_of ks) turn)
    → (turn : ℕ) → turn < length ks → IsLive (terms_for config) (stored_of ks turn) ((turns_of ks).until turn)

abbrev pub KeptAlive : Type 0
KeptAlive =
    (script : Script) (report : Report) (place : ℕ) (config : ClientConfig) (ks : List ClientTurn) → IsRun script report place ks → IsByGain script place config
    → IsKept config ks
