use Rattle.std.proofs.Common.{◌≡◌, ◌+◌, ◌*◌, true, is_some, length, map, sym, ap, ◌∙◌, subst, arith, IfOk}
use Rattle.std.specs.Result.{OnOk}
use Rattle.rb_core.specs.Core.{Core}
use Rattle.rb_core_model.specs.Standing.{Standing, goes_back}
use Rattle.rb_script_types.specs.Config.{Config}
use Rattle.rb_super_turn.specs.Phases.{standing_in, HasLogRoom, IsLater, turn_heard, IsAllScanned, IsPlannable}
use Rattle.rb_super_turn.specs.Turns.{hosts_back, before_plans, refusals_in}
use Rattle.rb_super_turn.specs.Views.{refused_view}
use Rattle.rb_super.proofs.parallel.prepare.Goals as goal

pub scan_all-scanned-requires-clause-room : goal.scan_all-scanned-requires-clause-room
scan_all-scanned-requires-clause-room g c = λ ks _.
    let core = c.args.relayer in
    let heard = c.hear_all-heard.new.relayer in
    let mid = c.in_ok-relayer-2.ensures ∙ c.in_ok-relayer.ensures.same in
    let a = subst (λ r. OnOk r (IsLater (1 + length c.args.windows.now + length c.args.goals.now + length c.args.events.items) core heard)) c.in_ok-relayer.ensures.given c.hear_all-heard.ensures.later in
    let paths = ap (λ (k : Config). length k.paths) a.config in
    let one = a.front in
    let room = c.requires.room in
    subst (λ (k : Core). HasLogRoom k (2 * length k.config.paths)) (sym mid) (omega arith)

pub returns-clause-back : goal.returns-clause-back
returns-clause-back g c = subst (λ r. IfOk r (λ x. x.window_back ≡ goes_back (standing_in c.args.relayer).window c.args.window)) c.in_ok-relayer.ensures.given c.hear_all-heard.ensures.back

pub returns-clause-hosts : goal.returns-clause-hosts
returns-clause-hosts g c =
    subst (λ r. IfOk r (λ x. x.hosts_back.items ≡ hosts_back (standing_in c.args.relayer) c.args.windows.now)) c.in_ok-relayer.ensures.given c.hear_all-heard.ensures.hosts

pub returns-clause-refused : goal.returns-clause-refused
returns-clause-refused g c =
    subst (λ r. IfOk r (λ x. map refused_view x.refused.items ≡ refusals_in (standing_in c.args.relayer) (turn_heard c.args.window c.args.windows.now c.args.goals.now c.args.events.items)))
    c.in_ok-relayer.ensures.given c.hear_all-heard.ensures.refused

pub returns-clause-standing : goal.returns-clause-standing
returns-clause-standing g c =
    let mid = c.in_ok-relayer-2.ensures ∙ c.in_ok-relayer.ensures.same in
    ap standing_in c.in_ok-relayer-3.ensures.same
    ∙ subst (λ r. OnOk r (standing_in c.scan_all-scanned.new.relayer ≡ standing_in c.in_ok-relayer-2.relayer)) c.in_ok-relayer-3.ensures.given c.scan_all-scanned.ensures.standing
    ∙ ap standing_in mid
    ∙ subst (λ r. OnOk r (standing_in c.hear_all-heard.new.relayer ≡ before_plans (standing_in c.args.relayer) (turn_heard c.args.window c.args.windows.now c.args.goals.now c.args.events.items)))
    c.in_ok-relayer.ensures.given c.hear_all-heard.ensures.standing

pub returns-clause-ready : goal.returns-clause-ready
returns-clause-ready g c =
    let mid = c.in_ok-relayer-2.ensures ∙ c.in_ok-relayer.ensures.same in
    let scanned = c.scan_all-scanned.new.relayer in
    let standing = subst (λ r. OnOk r (standing_in scanned ≡ standing_in c.in_ok-relayer-2.relayer)) c.in_ok-relayer-3.ensures.given c.scan_all-scanned.ensures.standing in
    let entered = subst (λ r. OnOk r (is_some (standing_in c.hear_all-heard.new.relayer).window ≡ true)) c.in_ok-relayer.ensures.given c.hear_all-heard.ensures.entered in
    let all = subst (λ r. OnOk r (IsAllScanned scanned)) c.in_ok-relayer-3.ensures.given c.scan_all-scanned.ensures.scanned in
    subst IsPlannable (sym c.in_ok-relayer-3.ensures.same)
    (record { window = ap (λ (s : Standing). is_some s.window) (standing ∙ ap standing_in mid) ∙ entered; scanned = all })

pub returns-clause-later : goal.returns-clause-later
returns-clause-later g c =
    let core = c.args.relayer in
    let heard = c.hear_all-heard.new.relayer in
    let scanned = c.scan_all-scanned.new.relayer in
    let mid = c.in_ok-relayer-2.ensures ∙ c.in_ok-relayer.ensures.same in
    let a = subst (λ r. OnOk r (IsLater (1 + length c.args.windows.now + length c.args.goals.now + length c.args.events.items) core heard)) c.in_ok-relayer.ensures.given c.hear_all-heard.ensures.later in
    let e2 = subst (λ r. OnOk r (IsLater (2 * length c.in_ok-relayer-2.relayer.config.paths) c.in_ok-relayer-2.relayer scanned)) c.in_ok-relayer-3.ensures.given c.scan_all-scanned.ensures.later in
    let e = subst (λ (k : Core). IsLater (2 * length k.config.paths) k scanned) mid e2 in
    let paths = ap (λ (k : Config). length k.paths) a.config in
    let one = a.front in
    let four = e.front in
    subst (IsLater (1 + length c.args.windows.now + length c.args.goals.now + length c.args.events.items + 2 * length core.config.paths) core) (sym c.in_ok-relayer-3.ensures.same)
    (record { config = e.config ∙ a.config; front = omega arith })
