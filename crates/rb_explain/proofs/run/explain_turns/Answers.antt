use Rattle.std.proofs.Common.{◌≡◌, ℕ, ◌≤◌, ◌+◌, ◌++◌, [], ◌∷◌, map, take, length, refl, sym, ap, ◌∙◌, subst, arith}
use Rattle.std.proofs.lemmas.Iterator.Adapters.{YieldsList-from_vec}
use Rattle.std.proofs.lemmas.Iterator.Consumers.{YieldsList-turn, YieldsList-end}
use Rattle.std.proofs.lemmas.List.{length-append, length-map}
use Rattle.std.proofs.lemmas.List.Elements.{All-get_or}
use Rattle.std.proofs.lemmas.List.Sums.{sum_by_more, sum_by_more_le}
use Rattle.std.specs.List.{sum_by}
use Rattle.rb_core.specs.Core.{state_in}
use Rattle.rb_script_types.specs.Config.{Config}
use Rattle.rb_super_turn.specs.AsEvents.{code_turn_as_events, IsTurnFor, most_events}
use Rattle.rb_super_turn.specs.Phases.{standing_in}
use Rattle.rb_explain.specs.Listening.{IsGivenOne}
use Rattle.rb_explain.specs.Wanted.{has_turn}
use Rattle.rb_explain.proofs.Listeners.{IsSoFar, so_far_first, so_far_whole, so_far_ended, so_far_more, so_far_stopped, viewed_at, viewed_more}
use Rattle.rb_explain.proofs.run.explain_turns.Goals as goal

pub explain_turn-requires-clause-turn : goal.explain_turn-requires-clause-turn
explain_turn-requires-clause-turn g c = λ ks _.
    let k0 = c.args.relayer.config in
    let items = c.args.turns.items in
    let x = c.in-Some.turn in
    let road = YieldsList-from_vec {s = c.into_iter-turn-iterator.result} items c.into_iter-turn-iterator.ensures.into_iter_gives.0 (c.into_iter-turn-iterator.ensures.into_iter_gives.1 ∙ c.args.turns.ok.0) in
    let turn = YieldsList-turn road c.loop-turn.yielded _ c.loop-turn.yielded_by _ c.next.new.self x c.in-Some.is c.next.ensures.steps in
    subst (λ (k : Config). IsTurnFor k x) (sym c.loop-turn.invariant.config)
    (subst (IsTurnFor k0) (sym turn.1) (All-get_or (IsTurnFor k0) items (length c.loop-turn.yielded) x turn.0 c.requires.turns))

pub explain_turn-requires-clause-room : goal.explain_turn-requires-clause-room
explain_turn-requires-clause-room g c = λ ks _.
    let k0 = c.args.relayer.config in
    let items = c.args.turns.items in
    let x = c.in-Some.turn in
    let n = length c.loop-turn.yielded in
    let road = YieldsList-from_vec {s = c.into_iter-turn-iterator.result} items c.into_iter-turn-iterator.ensures.into_iter_gives.0 (c.into_iter-turn-iterator.ensures.into_iter_gives.1 ∙ c.args.turns.ok.0) in
    let turn = YieldsList-turn road c.loop-turn.yielded _ c.loop-turn.yielded_by _ c.next.new.self x c.in-Some.is c.next.ensures.steps in
    let within = sum_by_more_le (most_events k0) items n x turn.0 in
    let same = ap (most_events k0) turn.1 in
    let front = c.loop-turn.invariant.front in
    let room = c.requires.room in
    subst (λ (k : Config). (state_in c.loop-turn.relayer).front + most_events k x ≤ 1000000) (sym c.loop-turn.invariant.config) (omega arith)

pub loop-turn-init : goal.loop-turn-init
loop-turn-init g c = record {
  config = refl;
  front = omega arith;
  number = refl;
  so_far = so_far_first c.args.wanted.now (standing_in c.args.relayer) (map code_turn_as_events c.args.turns.items) (g.L.Listener.explanations c.args.listener.now);
}

pub loop-turn-preserved : goal.loop-turn-preserved
loop-turn-preserved g c =
    let k0 = c.args.relayer.config in
    let items = c.args.turns.items in
    let x = c.in-Some.turn in
    let n = length c.loop-turn.yielded in
    let inv = c.loop-turn.invariant in
    let road = YieldsList-from_vec {s = c.into_iter-turn-iterator.result} items c.into_iter-turn-iterator.ensures.into_iter_gives.0 (c.into_iter-turn-iterator.ensures.into_iter_gives.1 ∙ c.args.turns.ok.0) in
    let turn = YieldsList-turn road c.loop-turn.yielded _ c.loop-turn.yielded_by _ c.next.new.self x c.in-Some.is c.next.ensures.steps in
    let count : length (c.loop-turn.yielded ++ x ∷ []) ≡ n + 1 = omega (arith, length-append c.loop-turn.yielded (x ∷ [])) in
    let sum = sum_by_more (most_events k0) items n x turn.0 in
    let same = ap (most_events k0) turn.1 in
    let moved : most_events c.loop-turn.relayer.config x ≡ most_events k0 x = ap (λ (k : Config). most_events k x) inv.config in
    let whole = ap (λ k. sum_by (most_events k0) (take k items)) count in
    let front = inv.front in
    let later = c.in_ok-one.ensures.later.front in
    let number = inv.number in
    let long = c.args.turns.ok in
    let small = c.args.turns.small in
    let added = c.saturating_add-number.ensures in
    let at : c.saturating_add-number.result ≡ n + 1 = omega (arith, long.0, long.1, turn.0) in
    let w = c.args.wanted.now in
    let start = standing_in c.args.relayer in
    let ts = map code_turn_as_events items in
    let one = c.in_ok-one.one in
    let given = g.L.Listener.explanations c.args.listener.now in
    let before = g.L.Listener.explanations c.loop-turn.listener in
    let after = g.L.Listener.explanations c.tell.new.listener in
    let so_far = so_far_more w start ts given n (standing_in c.loop-turn.relayer) before inv.so_far (code_turn_as_events x) one
    (viewed_at code_turn_as_events items n x turn.0 turn.1) (c.in_ok-one.ensures.number ∙ at) (let all = length-map items code_turn_as_events in omega (arith, turn.0, all)) c.in_ok-one.ensures.right
    (standing_in c.explain_turn.new.relayer) after (viewed_more code_turn_as_events items n x turn.0 turn.1) c.in_ok-one.ensures.standing
    (subst (IsGivenOne (has_turn w one.turn) one before after) c.if-not-branch.false c.in_ok-tell.ensures) in
    record {
      config = c.in_ok-one.ensures.later.config ∙ inv.config;
      front = omega arith;
      number = at ∙ sym count;
      so_far = subst (λ (k : ℕ). IsSoFar w start ts k (standing_in c.explain_turn.new.relayer) given after) (sym count) so_far;
    }

pub tell-requires : goal.tell-requires
tell-requires g c = λ is_wanted. record {
  wanted = c.args.wanted.now;
  start = standing_in c.loop-turn.relayer;
  turn = code_turn_as_events c.in-Some.turn;
  right = c.in_ok-one.ensures.right;
  is_wanted = is_wanted;
}

-- no later turn is wanted
pub returns-then-ends_before : goal.returns-then-ends_before
returns-then-ends_before g c =
    let items = c.args.turns.items in
    let x = c.in-Some.turn in
    let n = length c.loop-turn.yielded in
    let inv = c.loop-turn.invariant in
    let road = YieldsList-from_vec {s = c.into_iter-turn-iterator.result} items c.into_iter-turn-iterator.ensures.into_iter_gives.0 (c.into_iter-turn-iterator.ensures.into_iter_gives.1 ∙ c.args.turns.ok.0) in
    let turn = YieldsList-turn road c.loop-turn.yielded _ c.loop-turn.yielded_by _ c.next.new.self x c.in-Some.is c.next.ensures.steps in
    let number = inv.number in
    let long = c.args.turns.ok in
    let small = c.args.turns.small in
    let sum = c.saturating_add-number.ensures in
    let at : c.saturating_add-number.result ≡ n + 1 = omega (arith, long.0, long.1, turn.0) in
    so_far_whole c.args.wanted.now (standing_in c.args.relayer) (map code_turn_as_events items) (g.L.Listener.explanations c.args.listener.now) n (standing_in c.loop-turn.relayer)
    (g.L.Listener.explanations c.loop-turn.listener) inv.so_far (λ k lt. c.ends_before.ensures.0 c.if-ends_before.true k (omega (arith, at)))

-- the listener asks for no more
pub returns-then-not-branch : goal.returns-then-not-branch
returns-then-not-branch g c =
    let items = c.args.turns.items in
    let x = c.in-Some.turn in
    let n = length c.loop-turn.yielded in
    let inv = c.loop-turn.invariant in
    let road = YieldsList-from_vec {s = c.into_iter-turn-iterator.result} items c.into_iter-turn-iterator.ensures.into_iter_gives.0 (c.into_iter-turn-iterator.ensures.into_iter_gives.1 ∙ c.args.turns.ok.0) in
    let turn = YieldsList-turn road c.loop-turn.yielded _ c.loop-turn.yielded_by _ c.next.new.self x c.in-Some.is c.next.ensures.steps in
    let number = inv.number in
    let long = c.args.turns.ok in
    let small = c.args.turns.small in
    let sum = c.saturating_add-number.ensures in
    let at : c.saturating_add-number.result ≡ n + 1 = omega (arith, long.0, long.1, turn.0) in
    let w = c.args.wanted.now in
    let one = c.in_ok-one.one in
    let before = g.L.Listener.explanations c.loop-turn.listener in
    let after = g.L.Listener.explanations c.tell.new.listener in
    so_far_stopped w (standing_in c.args.relayer) (map code_turn_as_events items) (g.L.Listener.explanations c.args.listener.now) n (standing_in c.loop-turn.relayer)
    before inv.so_far (code_turn_as_events x) one (viewed_at code_turn_as_events items n x turn.0 turn.1) (c.in_ok-one.ensures.number ∙ at)
    (let map_long = length-map items code_turn_as_events in omega (arith, turn.0, map_long)) c.in_ok-one.ensures.right
    after (subst (IsGivenOne (has_turn w one.turn) one before after) c.if-not-branch.true c.in_ok-tell.ensures)

pub returns : goal.returns
returns g c =
    let items = c.args.turns.items in
    let road = YieldsList-from_vec {s = c.into_iter-turn-iterator.result} items c.into_iter-turn-iterator.ensures.into_iter_gives.0 (c.into_iter-turn-iterator.ensures.into_iter_gives.1 ∙ c.args.turns.ok.0) in
    let end = YieldsList-end road c.loop-turn.yielded _ c.loop-turn.yielded_by _ c.next.new.self c.in-None.is c.next.ensures.steps in
    so_far_ended c.args.wanted.now (standing_in c.args.relayer) (map code_turn_as_events items) (g.L.Listener.explanations c.args.listener.now) (length c.loop-turn.yielded) (standing_in c.loop-turn.relayer)
    (g.L.Listener.explanations c.loop-turn.listener) c.loop-turn.invariant.so_far (let long = length-map items code_turn_as_events in omega (arith, end.1, long))
