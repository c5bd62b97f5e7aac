use Rattle.std.proofs.Common.{◌≡◌, ◌<◌, ◌+◌, true, Some, IfSome, is_some, length, refl, sym, ap, ◌∙◌, subst, arith}
use Rattle.rb_core.specs.Core.{Core, state_in}
use Rattle.rb_core_model.specs.Machine.{client_view}
use Rattle.rb_script_types.specs.Config.{Config}
use Rattle.rb_super_turn.specs.Phases.{standing_in}
use Rattle.rb_super_turn.proofs.Steps.{sizes_in}
use Rattle.rb_explain.specs.Wanted.{has_client}
use Rattle.rb_explain.proofs.Jobs.{AreFirstJobs, jobs_none, jobs_more, jobs_all}
use Rattle.rb_explain.proofs.seeing.see_all.Goals as goal

pub loop-client-init : goal.loop-client-init
loop-client-init g c = record {
  jobs = subst (AreFirstJobs (state_in c.args.relayer.now) (has_client c.args.wanted.now c.args.number) 0) (sym c.in_ok-seen.ensures.items)
      (jobs_none (state_in c.args.relayer.now) (has_client c.args.wanted.now c.args.number));
  same = refl;
}

pub see_wanted-requires-clause-client : goal.see_wanted-requires-clause-client
see_wanted-requires-clause-client g c = λ ks _.
    subst (λ (k : Core). c.loop-client.client < length k.config.clients) (sym c.loop-client.invariant.same)
    (omega (arith, ap (λ (k : Config). length k.clients) c.config.ensures.value))

pub see_wanted-requires-clause-window : goal.see_wanted-requires-clause-window
see_wanted-requires-clause-window g c = λ ks _.
    subst (λ (k : Core). is_some (standing_in k).window ≡ true) (sym c.loop-client.invariant.same) c.requires.window

pub loop-client-preserved : goal.loop-client-preserved
loop-client-preserved g c =
    let core = c.args.relayer.now in
    let n = c.loop-client.client in
    let inv = c.loop-client.invariant in
    let asked = has_client c.args.wanted.now c.args.number in
    let one = subst (λ (k : Core). IfSome c.in_ok-one.one (λ job. client_view (state_in k) n ≡ Some job)) inv.same c.in_ok-one.ensures.seen in
    record {
      jobs = subst (AreFirstJobs (state_in core) asked (n + 1)) (sym c.in_ok-push.ensures.items)
          (jobs_more (state_in core) asked n c.loop-client.seen.items c.in_ok-one.one inv.jobs one (c.in_ok-one.ensures.wanted ∙ c.has_client-is_wanted.ensures));
      same = c.see_wanted.ensures.same ∙ inv.same;
    }

pub returns-clause-seen : goal.returns-clause-seen
returns-clause-seen g c =
    let core = c.args.relayer.now in
    let all : c.loop-client.client ≡ length core.config.clients = omega (arith, ap (λ (k : Config). length k.clients) c.config.ensures.value) in
    jobs_all (state_in core) (has_client c.args.wanted.now c.args.number) c.loop-client.client c.loop-client.seen.items (all ∙ sym (sizes_in core).clients) c.loop-client.invariant.jobs

pub returns-clause-same : goal.returns-clause-same
returns-clause-same g c = c.loop-client.invariant.same
