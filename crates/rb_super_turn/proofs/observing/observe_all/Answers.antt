use Rattle.std.proofs.Common.{◌≡◌, ℕ, ◌<◌, ◌+◌, ◌++◌, [], ◌∷◌, List, fold, map, take, get_or, length, sym, ap, ◌∙◌, subst, arith}
use Rattle.std.proofs.lemmas.Iterator.Adapters.{YieldsList-from_vec}
use Rattle.std.proofs.lemmas.Iterator.Consumers.{YieldsList-turn, YieldsList-end}
use Rattle.std.proofs.lemmas.List.{length-map, length-take-le, length-append, take_all}
use Rattle.std.proofs.lemmas.List.Elements.{All-get_or}
use Rattle.rb_core_model.specs.Seen.{observed}
use Rattle.rb_core_model.specs.Standing.{standing_after, judged}
use Rattle.rb_script_types.specs.Config.{Config}
use Rattle.rb_script_types.specs.Script.{IsReadObservation}
use Rattle.rb_super_turn.specs.Phases.{standing_in, IsLater}
use Rattle.rb_super_turn.specs.Turns.{refused_as, refusals}
use Rattle.rb_super_turn.proofs.Loops.{seen_more, fold_seen, refusals_push}
use Rattle.rb_super_turn.proofs.Steps.{later_trans}
use Rattle.rb_super_turn.proofs.observing.observe_all.Goals as goal

pub observe-requires-clause-seen : goal.observe-requires-clause-seen
observe-requires-clause-seen g c =
    let k0 = c.args.relayer.now.config in
    let items = c.args.observations.items in
    let x = c.in-Some.observation in
    let road = YieldsList-from_vec {s = c.into_iter-observation-iterator.result} items c.into_iter-observation-iterator.ensures.into_iter_gives.0 (c.into_iter-observation-iterator.ensures.into_iter_gives.1 ∙ c.args.observations.ok.0) in
    let turn = YieldsList-turn road c.loop-observation.yielded _ c.loop-observation.yielded_by _ c.next.new.self x c.in-Some.is c.next.ensures.steps in
    subst (λ (k : Config). IsReadObservation (length k.chains) (length k.clients) (length k.paths) x) (sym c.loop-observation.invariant.later.config)
    (subst (IsReadObservation (length k0.chains) (length k0.clients) (length k0.paths)) (sym turn.1)
    (All-get_or (IsReadObservation (length k0.chains) (length k0.clients) (length k0.paths)) items (length c.loop-observation.yielded) x turn.0 c.requires.seen))

pub loop-observation-preserved : goal.loop-observation-preserved
loop-observation-preserved g c =
    let s = standing_in c.args.relayer.now in
    let items = c.args.observations.items in
    let x = c.in-Some.observation in
    let n = c.loop-observation.event in
    let inv = c.loop-observation.invariant in
    let road = YieldsList-from_vec {s = c.into_iter-observation-iterator.result} items c.into_iter-observation-iterator.ensures.into_iter_gives.0 (c.into_iter-observation-iterator.ensures.into_iter_gives.1 ∙ c.args.observations.ok.0) in
    let turn = YieldsList-turn road c.loop-observation.yielded _ c.loop-observation.yielded_by _ c.next.new.self x c.in-Some.is c.next.ensures.steps in
    let lt : n < length items = subst (λ k. k < length items) (sym inv.event) turn.0 in
    let at : x ≡ get_or items n x = turn.1 ∙ ap (λ k. get_or items k x) (sym inv.event) in
    let seen = map observed (take n items) in
    let long : 0 + length seen ≡ n = omega (arith, length-map (take n items) observed, length-take-le n items (omega arith)) in
    record {
      event = omega (arith, inv.event, length-append c.loop-observation.yielded (x ∷ []));
      standing = c.in_ok-refusal.ensures.standing ∙ ap (λ t. standing_after t (observed x)) inv.standing ∙ sym (fold_seen standing_after observed s items n x lt at);
      refused = c.in_ok-push_refusal.ensures
          ∙ (λ j. inv.refused j ++ refused_as n ((c.in_ok-refusal.ensures.judged ∙ ap (λ t. judged t (observed x)) inv.standing) j))
          ∙ sym (ap (refusals 0 s) (seen_more observed items n x lt at) ∙ refusals_push seen (observed x) 0 n s long);
      later = later_trans n 1 c.args.relayer.now c.loop-observation.relayer c.observe.new.relayer inv.later c.in_ok-refusal.ensures.later;
    }

whole : {X : Type 0} (xs : List X) (n : ℕ) → n ≡ length xs → take n xs ≡ xs
whole xs n e = take_all n xs (omega arith)

pub returns-clause-refused : goal.returns-clause-refused
returns-clause-refused g c =
    let items = c.args.observations.items in
    let road = YieldsList-from_vec {s = c.into_iter-observation-iterator.result} items c.into_iter-observation-iterator.ensures.into_iter_gives.0 (c.into_iter-observation-iterator.ensures.into_iter_gives.1 ∙ c.args.observations.ok.0) in
    let end = YieldsList-end road c.loop-observation.yielded _ c.loop-observation.yielded_by _ c.next.new.self c.in-None.is c.next.ensures.steps in
    c.loop-observation.invariant.refused
    ∙ ap (λ xs. refusals 0 (standing_in c.args.relayer.now) (map observed xs)) (whole items c.loop-observation.event (c.loop-observation.invariant.event ∙ end.1))

pub returns-clause-standing : goal.returns-clause-standing
returns-clause-standing g c =
    let items = c.args.observations.items in
    let road = YieldsList-from_vec {s = c.into_iter-observation-iterator.result} items c.into_iter-observation-iterator.ensures.into_iter_gives.0 (c.into_iter-observation-iterator.ensures.into_iter_gives.1 ∙ c.args.observations.ok.0) in
    let end = YieldsList-end road c.loop-observation.yielded _ c.loop-observation.yielded_by _ c.next.new.self c.in-None.is c.next.ensures.steps in
    c.loop-observation.invariant.standing
    ∙ ap (λ xs. fold standing_after (standing_in c.args.relayer.now) (map observed xs)) (whole items c.loop-observation.event (c.loop-observation.invariant.event ∙ end.1))

pub returns-clause-later : goal.returns-clause-later
returns-clause-later g c =
    let items = c.args.observations.items in
    let road = YieldsList-from_vec {s = c.into_iter-observation-iterator.result} items c.into_iter-observation-iterator.ensures.into_iter_gives.0 (c.into_iter-observation-iterator.ensures.into_iter_gives.1 ∙ c.args.observations.ok.0) in
    let end = YieldsList-end road c.loop-observation.yielded _ c.loop-observation.yielded_by _ c.next.new.self c.in-None.is c.next.ensures.steps in
    subst (λ n. IsLater n c.args.relayer.now c.loop-observation.relayer) (c.loop-observation.invariant.event ∙ end.1) c.loop-observation.invariant.later
