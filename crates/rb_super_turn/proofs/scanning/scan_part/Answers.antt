use Rattle.std.proofs.Common.{◌≡◌, ◌<◌, ◌≤◌, ◌+◌, Bool, true, false, length, sym, ap, ◌∙◌, subst}
use Rattle.std.specs.Prelude.{Ok}
use Rattle.std.proofs.lemmas.Result.{on_ok_weaker}
use Rattle.rb_core.specs.Core.{state_in}
use Rattle.rb_script_types.specs.Config.{Config}
use Rattle.rb_core_model.specs.Machine.{State, is_scanned}
use Rattle.rb_core_model.specs.Limits.{max_events}
use Rattle.rb_super_turn.proofs.Steps.{later_from}
use Rattle.rb_super_turn.proofs.scanning.scan_part.Goals as goal

pub scan_here-requires-clause-path : goal.scan_here-requires-clause-path
scan_here-requires-clause-path g c = λ ks _. subst (λ (k : Config). c.args.path < length k.paths) (sym c.in_ok-take_found.ensures.later.config) c.requires.path

pub scan_here-requires-clause-room : goal.scan_here-requires-clause-room
scan_here-requires-clause-room g c = λ ks _.
    subst (λ (s : State). s.front + 1 ≤ max_events) (sym (c.in_ok-take_found.ensures.nothing (ap (λ (b : Bool). Ok b) c.if-branch.false))) c.requires.room

pub scan_here-requires-clause-unscanned : goal.scan_here-requires-clause-unscanned
scan_here-requires-clause-unscanned g c = λ ks _.
    ap (λ (s : State). is_scanned s c.args.path c.args.part) (c.in_ok-take_found.ensures.nothing (ap (λ (b : Bool). Ok b) c.if-branch.false)) ∙ sym c.if-is_scanned.ensures

pub returns-clause-standing : goal.returns-clause-standing
returns-clause-standing g c = on_ok_weaker c.scan_here.result (λ same. same ∙ c.in_ok-take_found.ensures.standing) c.scan_here.ensures.standing

pub returns-clause-others : goal.returns-clause-others
returns-clause-others g c = on_ok_weaker c.scan_here.result (λ keeps p part is. keeps p part (c.in_ok-take_found.ensures.others p part is)) c.scan_here.ensures.others

pub returns-clause-later : goal.returns-clause-later
returns-clause-later g c =
    on_ok_weaker c.scan_here.result
    (later_from 1 c.args.relayer.now c.take_found.new.relayer c.scan_here.new.relayer c.in_ok-take_found.ensures.later.config (c.in_ok-take_found.ensures.nothing (ap (λ (b : Bool). Ok b) c.if-branch.false)))
    c.scan_here.ensures.later

pub returns-then-branch-clause-scanned : goal.returns-then-branch-clause-scanned
returns-then-branch-clause-scanned g c = c.in_ok-take_found.ensures.scanned (ap (λ (b : Bool). Ok b) c.if-branch.true)
