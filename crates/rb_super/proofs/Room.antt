-- The log of a script that was read is never full.
use Rattle.std.proofs.Common.{◌≡◌, ℕ, suc, ◌+◌, ◌*◌, ◌≤◌, Bool, true, false, if◌then◌else◌, List, [], ◌∷◌, ◌++◌, length, map, refl, ap, arith}
use Rattle.std.specs.List.{flat_map, range_with_len, sum_by}
use Rattle.std.proofs.lemmas.List.{length-append, length-map}
use Rattle.std.proofs.lemmas.List.FromFn.{length-range_with_len}
use Rattle.std.proofs.lemmas.List.Sums.{sum_by-cons}
use Rattle.rb_script_types.specs.Config.{Config}
use Rattle.rb_script_types.specs.Limits.{max_clients, max_paths}
use Rattle.rb_script_types.specs.Script.{Turn as SeenTurn, Script as SeenScript, IsReadScript, entry_count}
use Rattle.rb_core_model.specs.Event.{Event}
use Rattle.rb_core_model.specs.Seen.{observed}
use Rattle.rb_super_turn.specs.Agenda.{enter_host, enter, Item, ask, plan, settle, take_open, takes, observations, both_parts, agenda}
use Rattle.rb_super_turn.specs.Script.{Turn}
use Rattle.rb_super_turn.specs.AsEvents.{as_events, turn_as_events}
use Rattle.rb_super.specs.Schedule.{appends_in, FitsLog}

length-observations : (events : List Event) (number : ℕ) → length (observations number events) ≡ length events
length-observations [] number = refl
length-observations (e ∷ events) number = ap (λ n. suc n) (length-observations events (number + 1))

length-parts : (paths : List ℕ) → length (flat_map both_parts paths) ≡ 2 * length paths
length-parts [] = refl
length-parts (p ∷ paths) = let rest = length-parts paths in omega arith

length-takes : (c : Config) (b : Bool) → length (if b then map take_open (range_with_len 0 (length c.clients)) else []) ≤ length c.clients
length-takes c true = omega (arith, length-map (range_with_len 0 (length c.clients)) take_open, length-range_with_len 0 (length c.clients))
length-takes c false = omega arith

-- how much a turn has to do
length-agenda : (c : Config) (t : Turn)
    → length (agenda c t) ≤ length t.windows + length t.goals + length t.events + length t.settlements + (1 + (2 * length c.paths + 2 * length c.clients))
length-agenda c t =
    let paths = range_with_len 0 (length c.paths) in
    let clients = range_with_len 0 (length c.clients) in
    let last : List Item = map settle t.settlements ++ takes c t in
    let plans : List Item = map plan clients ++ last in
    let scans : List Item = flat_map both_parts paths ++ plans in
    let seen : List Item = observations 0 t.events ++ scans in
    omega (
      arith,
      length-append (map enter_host t.windows) (enter t.window ∷ (map ask t.goals ++ seen)),
      length-map t.windows enter_host,
      length-append (map ask t.goals) seen,
      length-append (observations 0 t.events) scans,
      length-append (flat_map both_parts paths) plans,
      length-append (map plan clients) last,
      length-append (map settle t.settlements) (takes c t),
      length-takes c t.taken,
      length-map t.goals ask,
      length-observations t.events 0,
      length-parts paths,
      length-map clients plan,
      length-map t.settlements settle,
      length-range_with_len 0 (length c.paths),
      length-range_with_len 0 (length c.clients),
    )

module _ {A : Type 0} where
  turns_fit : (c : Config) → length c.clients ≤ max_clients → length c.paths ≤ max_paths → (ts : List (SeenTurn A))
      → appends_in c (map turn_as_events ts) ≤ sum_by entry_count ts + 1025 * length ts
  turns_fit c clients paths [] = omega arith
  turns_fit c clients paths (t ∷ ts) =
      let rest = turns_fit c clients paths ts in
      let this = turn_as_events t in
      omega (
        arith,
        rest,
        length-agenda c this,
        length-map t.events observed,
        sum_by-cons (λ (x : Turn). length (agenda c x)) this (map turn_as_events ts),
        sum_by-cons entry_count t ts,
        clients,
        paths,
      )

  pub read_fits : (s : SeenScript A) → IsReadScript s → FitsLog (as_events s)
  read_fits s is = let all = turns_fit s.config is.config.few_clients is.config.few_paths s.turns in omega (arith, all, is.few_turns, is.few_entries)
