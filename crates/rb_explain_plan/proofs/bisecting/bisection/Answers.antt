use Rattle.std.proofs.Common.{◌≡◌, ◌<◌, rules}
use Rattle.rb_step.specs.View.{client_of}
use Rattle.rb_explain_plan.proofs.Bisected.{so_far_arrived, so_far_beyond, bisection_is_acceptable, bisection_arrives}
use Rattle.rb_explain_plan.proofs.bisecting.bisection.Goals as goal

pub returns-then-eq-clause-bisected : goal.returns-then-eq-clause-bisected
returns-then-eq-clause-bisected g c =
    let v = c.args.view.now in
    let s = c.halves.search in
    let here : s.trusted ≡ c.args.wanted = search rules in
    so_far_arrived (client_of v) v.book c.args.wanted c.args.trusted s.updates.items s.trusted s.tried here c.halves.invariant.so_far

pub returns-then-eq-clause-acceptable : goal.returns-then-eq-clause-acceptable
returns-then-eq-clause-acceptable g c = λ stored.
    let v = c.args.view.now in
    let s = c.halves.search in
    let here : s.trusted ≡ c.args.wanted = search rules in
    bisection_is_acceptable (client_of v) v.book c.args.wanted c.args.trusted s.updates.items stored
    (so_far_arrived (client_of v) v.book c.args.wanted c.args.trusted s.updates.items s.trusted s.tried here c.halves.invariant.so_far)

pub returns-then-eq-clause-arrives : goal.returns-then-eq-clause-arrives
returns-then-eq-clause-arrives g c = λ stored.
    let v = c.args.view.now in
    let s = c.halves.search in
    let here : s.trusted ≡ c.args.wanted = search rules in
    bisection_arrives (client_of v) v.book c.args.wanted c.args.trusted s.updates.items stored
    (so_far_arrived (client_of v) v.book c.args.wanted c.args.trusted s.updates.items s.trusted s.tried here c.halves.invariant.so_far)

pub returns-else-eq-clause-bisected : goal.returns-else-eq-clause-bisected
returns-else-eq-clause-bisected g c =
    let v = c.args.view.now in
    let s = c.halves.search in
    let above : c.args.wanted < s.trusted = search rules in
    so_far_beyond (client_of v) v.book c.args.wanted c.args.trusted s.updates.items s.trusted s.tried above c.halves.invariant.so_far
