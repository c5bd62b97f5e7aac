-- In scripts whose messages may not wait, all that are ready go at once.
use Rattle.std.proofs.Common.{◌≡◌, ℕ, zero, suc, ◌+◌, List, [], ◌∷◌, length, Option, Some, None, refl, sym, ap, ◌∙◌, subst, arith}
use Rattle.std.specs.List.{AllByRecursion, cons_option, enumerate_from, filter_map, slice_get}
use Rattle.std.specs.Option.{option_map}
use Rattle.std.proofs.lemmas.List.{length-map}
use Rattle.std.proofs.lemmas.List.Elements.{All-from_recursion, recursion_from_All}
use Rattle.std.proofs.lemmas.Option.{same_Some, slice_get-map}
use Rattle.rb_base.specs.declared.gate.Part.{Part}
use Rattle.rb_book.specs.Laws.{StaysABook}
use Rattle.rb_script_types.specs.declared.config.ClientConfig.{ClientConfig}
use Rattle.rb_script_types.specs.declared.config.PathConfig.{PathConfig}
use Rattle.rb_plan_client.specs.Laws.{WaitsNot, NoneWaits as NoneWaitsInTasks}
use Rattle.rb_plan_client.specs.Task.{PathTask}
use Rattle.rb_core_model.specs.Config.{part_for}
use Rattle.rb_core_model.specs.Standing.{PathState, Standing, opening_standing, new_client, new_path, owed_at, path_task}
use Rattle.rb_super_turn.specs.Script.{IsTurn}
use Rattle.rb_super.specs.Fewest.{ClientTurn}
use Rattle.rb_super.specs.Prompt.{NoneWaits}
use Rattle.rb_super.proofs.Alive.{new_at, configs_are}
use Rattle.rb_super.proofs.Fewest.{new_found}
use Rattle.rb_super.proofs.Later.{empty_books}
use Rattle.rb_super.proofs.Members.{all_in, from_get}
use Rattle.rb_super.proofs.PlannedViews.{turning}
use Rattle.rb_super.proofs.Steady.{one_of_turns}

abbrev Prompt : PathState → Type 0
Prompt p = WaitsNot p.config.waits

-- the paths are as many as are configured, each configured so
configured : (cs : List PathConfig) (ps : List PathState) → length ps ≡ length cs
    → ((n : ℕ) (c : PathConfig) → slice_get cs n ≡ Some c → (p : PathState) × (slice_get ps n ≡ Some p) × (p.config ≡ c))
    → AllByRecursion (λ (c : PathConfig). WaitsNot c.waits) cs → AllByRecursion Prompt ps
configured [] [] count each all = tt
configured [] (p ∷ ps) count each all = absurd (omega (arith, count))
configured (c ∷ cs) [] count each all = absurd (omega (arith, count))
configured (c ∷ cs) (p ∷ ps) count each all =
    let here = each zero c refl in
    let same : p.config ≡ c = ap (λ (x : PathState). x.config) (same_Some p here.0 here.1) ∙ here.2 in (
      subst (λ (x : PathConfig). WaitsNot x.waits) (sym same) all.0,
      configured cs ps (omega (arith, count)) (λ n x at. each (suc n) x at) all.1,
    )

-- so are those of a client's task
module _ (s : Standing) (client : ℕ) where
  one_prompt : (n : ℕ) (p : PathState) → Prompt p → (o : Option Part) (rest : List PathTask) → AllByRecursion (λ (x : PathTask). WaitsNot x.waits) rest
      → AllByRecursion (λ (x : PathTask). WaitsNot x.waits) (cons_option (option_map (λ part. record { path = n; order = p.config.order; gas = p.config.gas; waits = p.config.waits; owed = owed_at s n part }) o) rest)
  one_prompt n p prompt None rest all = all
  one_prompt n p prompt (Some part) rest all = (prompt, all)

  all_prompt : (n : ℕ) (ps : List PathState) → AllByRecursion Prompt ps → AllByRecursion (λ (x : PathTask). WaitsNot x.waits) (filter_map (path_task (owed_at s) client) (enumerate_from n ps))
  all_prompt n [] all = tt
  all_prompt n (p ∷ ps) all =
      one_prompt n p all.0 (part_for p.config client) (filter_map (path_task (owed_at s) client) (enumerate_from (n + 1) ps)) (all_prompt (n + 1) ps all.1)

-- ---- the law

pub none_waits : StaysABook → NoneWaitsInTasks → NoneWaits
none_waits stays law script report place turn config ks k is none by_age at =
    let opening = opening_standing script.config in
    let one = one_of_turns stays script.config place script.turns report ks opening (recursion_from_All (IsTurn script.config) script.turns is.is_script.turns) is.turns
    (new_found script.config.paths) (empty_books script.config.limit (length script.config.chains) is.is_script.config.rules.limit) turn k at in
    let paths = configured script.config.paths one.standing.paths (one.paths ∙ length-map script.config.paths new_path)
    (λ n c there.
    let p = one.later.paths n (new_path c) (slice_get-map new_path script.config.paths n ∙ ap (option_map new_path) there) in
    (p.0, p.1, p.2.config))
    (recursion_from_All (λ (c : PathConfig). WaitsNot c.waits) script.config.paths none) in
    let same : k.task.config ≡ config =
    all_in (λ (x : ClientTurn). x.task.config ≡ config) ks k
    (configs_are place config script.turns report ks opening is.turns (new_client config, new_at script.config.clients place config by_age.is_client, refl))
    (from_get ks turn k at) in
    law k.task k.reach (λ newer. by_age.by_age (ap (λ (c : ClientConfig). c.refresh_to) (sym same) ∙ newer))
    (turning place script.turns report ks opening is.turns turn k at).planned.is_reach
    (All-from_recursion (λ (p : PathTask). WaitsNot p.waits) k.task.paths
    (subst (AllByRecursion (λ (p : PathTask). WaitsNot p.waits)) (sym one.stands.tasks) (all_prompt one.standing place 0 one.standing.paths paths)))
