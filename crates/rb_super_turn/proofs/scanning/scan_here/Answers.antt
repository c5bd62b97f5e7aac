use Rattle.std.proofs.Common.{◌≡◌, true, sym, subst}
use Rattle.rb_core.specs.Core.{state_in}
use Rattle.rb_core_model.specs.Machine.{is_scanned}
use Rattle.rb_core_model.specs.Scan.{Scan}
use Rattle.rb_super_turn.proofs.Steps.{scan_fits, after_scan}
use Rattle.rb_super_turn.proofs.scanning.scan_here.Goals as goal

pub note-requires-clause-accepted : goal.note-requires-clause-accepted
note-requires-clause-accepted g c =
    scan_fits c.args.relayer.now c.args.path c.args.part c.in_ok-view.view c.requires.path c.requires.room c.in_ok-view.ensures c.requires.unscanned
    c.in_ok-scan.scan c.in_ok-scan.ensures

pub returns-clause-scanned : goal.returns-clause-scanned
returns-clause-scanned g c =
    let ok = scan_fits c.args.relayer.now c.args.path c.args.part c.in_ok-view.view c.requires.path c.requires.room c.in_ok-view.ensures c.requires.unscanned
    c.in_ok-scan.scan c.in_ok-scan.ensures in
    subst (λ (x : Scan). is_scanned (state_in c.note.new.relayer) c.args.path x.part ≡ true) c.in_ok-scan.ensures
    (after_scan c.args.relayer.now c.note.new.relayer c.args.path c.in_ok-scan.scan c.requires.path ok c.in_ok-note.ensures.state).scanned

pub returns-clause-others : goal.returns-clause-others
returns-clause-others g c =
    let ok = scan_fits c.args.relayer.now c.args.path c.args.part c.in_ok-view.view c.requires.path c.requires.room c.in_ok-view.ensures c.requires.unscanned
    c.in_ok-scan.scan c.in_ok-scan.ensures in
    (after_scan c.args.relayer.now c.note.new.relayer c.args.path c.in_ok-scan.scan c.requires.path ok c.in_ok-note.ensures.state).others
