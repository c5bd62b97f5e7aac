use Rattle.std.proofs.Common.{◌≡◌, ◌<◌, ◌+◌, Some, length, refl, sym, ap, ◌∙◌, subst, arith}
use Rattle.rb_core.specs.Core.{Core, state_in}
use Rattle.rb_core_model.specs.Machine.{client_view}
use Rattle.rb_script_types.specs.Config.{Config}
use Rattle.rb_super_turn.specs.Phases.{standing_in, IsPlannable}
use Rattle.rb_super_turn.proofs.Drafts.{AreFirst, draft_is, first_none, first_more, first_all}
use Rattle.rb_super_turn.proofs.Steps.{sizes_in}
use Rattle.rb_super_turn.proofs.planning.drafts_of.Goals as goal

pub loop-client-init : goal.loop-client-init
loop-client-init g c = record {
  drafts = subst (AreFirst (standing_in c.args.relayer.now) 0) (sym c.in_ok-drafts.ensures.items) (first_none (standing_in c.args.relayer.now));
  same = refl;
}

pub planned_for-requires-clause-client : goal.planned_for-requires-clause-client
planned_for-requires-clause-client g c = λ ks _.
    subst (λ (k : Core). c.loop-client.client < length k.config.clients) (sym c.loop-client.invariant.same)
    (omega (arith, ap (λ (k : Config). length k.clients) c.config.ensures.value))

pub planned_for-requires-clause-ready : goal.planned_for-requires-clause-ready
planned_for-requires-clause-ready g c = λ ks _. subst IsPlannable (sym c.loop-client.invariant.same) c.requires.ready

pub loop-client-preserved : goal.loop-client-preserved
loop-client-preserved g c =
    let core = c.args.relayer.now in
    let s = standing_in core in
    let n = c.loop-client.client in
    let inv = c.loop-client.invariant in
    let d = c.in_ok-draft.draft in
    let view : client_view (state_in core) n ≡ Some d.job = subst (λ (k : Core). client_view (state_in k) n ≡ Some d.job) inv.same c.in_ok-draft.ensures.view in
    record {
      drafts = subst (AreFirst s (n + 1)) (sym c.in_ok-push.ensures.items)
          (first_more s n c.loop-client.drafts.items d inv.drafts (λ known at. draft_is core n d c.requires.ready view c.in_ok-draft.ensures.right known at));
      same = c.planned_for.ensures.same ∙ inv.same;
    }

pub returns-clause-drafts : goal.returns-clause-drafts
returns-clause-drafts g c =
    let core = c.args.relayer.now in
    let all : c.loop-client.client ≡ length core.config.clients = omega (arith, ap (λ (k : Config). length k.clients) c.config.ensures.value) in
    first_all (standing_in core) c.loop-client.client c.loop-client.drafts.items (all ∙ sym (sizes_in core).clients) c.loop-client.invariant.drafts

pub returns-clause-same : goal.returns-clause-same
returns-clause-same g c = c.loop-client.invariant.same
