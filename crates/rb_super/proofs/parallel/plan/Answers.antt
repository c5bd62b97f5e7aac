use Rattle.std.proofs.Common.{◌≡◌, IfOk, length, map, sym, ◌∙◌, subst}
use Rattle.std.proofs.Crossing.{frees}
use Rattle.rb_core.specs.Core.{Core}
use Rattle.rb_super_turn.specs.Phases.{standing_in, HasLogRoom, IsLater, IsPlannable, AreReported}
use Rattle.rb_super_turn.specs.Views.{client_report_view}
use Rattle.rb_super.proofs.Ended.{ended}
use Rattle.rb_super.proofs.parallel.plan.Goals as goal

pub plan_all-clients-requires-clause-ready : goal.plan_all-clients-requires-clause-ready
plan_all-clients-requires-clause-ready g c = λ ks _. subst IsPlannable (sym (c.in_ok-relayer.ensures.same)) c.requires.ready

pub plan_all-clients-requires-clause-room : goal.plan_all-clients-requires-clause-room
plan_all-clients-requires-clause-room g c = λ ks _.
    subst (λ (k : Core). HasLogRoom k (length k.config.clients)) (sym (c.in_ok-relayer.ensures.same)) c.requires.room

-- the heap frees what any thread took of it
pub plan_all-clients-requires-clause-alloc : goal.plan_all-clients-requires-clause-alloc
plan_all-clients-requires-clause-alloc g c κs within = frees

pub returns-clause-count : goal.returns-clause-count
returns-clause-count g c =
    let mid = c.in_ok-relayer.ensures.same in
    let clients = length c.args.relayer.config.clients in
    ended c.finish.result c.plan_all-clients.result c.plan_all-clients.new.relayer (λ x. x.0) (λ x. x.2) (λ k reports. length reports.items ≡ clients)
    c.finish.ensures.same c.finish.ensures.given
    (subst (λ (k : Core). IfOk c.plan_all-clients.result (λ reports. length reports.items ≡ length k.config.clients)) mid c.plan_all-clients.ensures.count)

pub returns-clause-reports : goal.returns-clause-reports
returns-clause-reports g c =
    let mid = c.in_ok-relayer.ensures.same in
    let core = c.args.relayer in
    let new = c.plan_all-clients.new.relayer in
    ended c.finish.result c.plan_all-clients.result new (λ x. x.0) (λ x. x.2)
    (λ k clients. AreReported (standing_in core) (standing_in k) 0 (map client_report_view clients.items))
    c.finish.ensures.same c.finish.ensures.given
    (subst (λ (k : Core). IfOk c.plan_all-clients.result (λ clients. AreReported (standing_in k) (standing_in new) 0 (map client_report_view clients.items))) mid
    c.plan_all-clients.ensures.reports)

pub returns-clause-later : goal.returns-clause-later
returns-clause-later g c =
    let mid = c.in_ok-relayer.ensures.same in
    let new = c.plan_all-clients.new.relayer in
    ended c.finish.result c.plan_all-clients.result new (λ x. x.0) (λ x. x.2) (λ k clients. IsLater (length c.args.relayer.config.clients) c.args.relayer k)
    c.finish.ensures.same c.finish.ensures.given
    (subst (λ (k : Core). IfOk c.plan_all-clients.result (λ _. IsLater (length k.config.clients) k new)) mid c.plan_all-clients.ensures.later)
