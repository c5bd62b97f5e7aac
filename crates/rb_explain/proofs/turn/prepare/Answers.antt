use Rattle.std.proofs.Common.{◌≡◌, is_some, length, ap, ◌∙◌, arith}
use Rattle.rb_core_model.specs.Standing.{Standing}
use Rattle.rb_script_types.specs.Config.{Config}
use Rattle.rb_explain.proofs.turn.prepare.Goals as goal

pub scan_all-requires-clause-room : goal.scan_all-requires-clause-room
scan_all-requires-clause-room g c = λ ks _.
    let a = c.in_ok-heard.ensures.later in
    let paths : length c.hear_all.new.relayer.config.paths ≡ length c.args.relayer.now.config.paths = ap (λ (k : Config). length k.paths) a.config in
    let one = a.front in
    let room = c.requires.room in
    omega arith

pub returns-clause-ready : goal.returns-clause-ready
returns-clause-ready g c =
    record {
      window = ap (λ (s : Standing). is_some s.window) c.in_ok-scan_all.ensures.standing ∙ c.in_ok-heard.ensures.entered;
      scanned = c.in_ok-scan_all.ensures.scanned;
    }

pub returns-clause-later : goal.returns-clause-later
returns-clause-later g c =
    let a = c.in_ok-heard.ensures.later in
    let e = c.in_ok-scan_all.ensures.later in
    let paths : length c.hear_all.new.relayer.config.paths ≡ length c.args.relayer.now.config.paths = ap (λ (k : Config). length k.paths) a.config in
    let one = a.front in
    let four = e.front in
    record { config = e.config ∙ a.config; front = omega arith }
