use Rattle.std.proofs.Common.{◌≡◌, List, Option, Some, None, slice_get, get_or, sym, ap, ◌∙◌}
use Rattle.std.specs.Option.{option_map}
use Rattle.rb_scan.specs.Path.{Path}
use Rattle.rb_core_model.specs.Machine.{Scans, no_scans, scan_of}
use Rattle.rb_core_model.specs.Scan.{Scan}
use Rattle.rb_core_state.proofs.Found.{index_or-found, index_or-none, looked_up}
use Rattle.rb_core.proofs.Shown.{no_scan, scan_found}
use Rattle.rb_core.proofs.path_views.last_scan.Goals as goal

pub returns-in-Some : goal.returns-in-Some
returns-in-Some g c =
    let xs = c.args.state.now.scans.items in
    let part = c.args.part in
    let at : slice_get xs c.args.path ≡ Some c.in-Some.scans.now =
    ap (λ (l : List Scans). slice_get l c.args.path) (sym c.as_slice.ensures.value) ∙ looked_up c.as_slice.result.now c.args.path (Some c.in-Some.scans) c.in-Some.ensures.lookup in
    scan_found part (scan_of (get_or xs c.args.path no_scans) part) c.of.result
    (c.of.ensures ∙ ap (λ (s : Scans). option_map (λ (v : Path). let scan : Scan = record { view = v; part = part } in scan) (scan_of s part)) (sym (index_or-found xs c.args.path c.in-Some.scans.now no_scans at)))

pub returns-in-None : goal.returns-in-None
returns-in-None g c =
    let xs = c.args.state.now.scans.items in
    let at : slice_get xs c.args.path ≡ None =
    ap (λ (l : List Scans). slice_get l c.args.path) (sym c.as_slice.ensures.value) ∙ looked_up c.as_slice.result.now c.args.path None c.in-None.ensures.lookup in
    ap (λ (s : Scans). scan_of s c.args.part) (index_or-none xs c.args.path no_scans at) ∙ no_scan c.args.part
