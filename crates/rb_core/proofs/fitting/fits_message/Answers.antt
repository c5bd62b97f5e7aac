use Rattle.std.proofs.Common.{◌≡◌, ◌↔◌, Some, IsTrue, sym, ap, ◌∙◌, subst}
use Rattle.std.specs.List.{slice_get}
use Rattle.rb_scan.specs.declared.message.PacketMsg.{PacketMsg}
use Rattle.rb_core.specs.State.{standing_view}
use Rattle.rb_core_model.specs.Config.{part_for}
use Rattle.rb_core_model.specs.Fits.{IsOpenOn, part_of}
use Rattle.rb_core_model.specs.Standing.{PathState}
use Rattle.rb_core.proofs.Restoring.{seen_none, seen_some}
use Rattle.rb_core.proofs.fitting.fits_message.Goals as goal

pub returns-in-Some : goal.returns-in-Some
returns-in-Some g c =
    let paths = (standing_view c.args.state.now).paths in
    let p = c.in-Some.path.now.path in
    let Has : PacketMsg → PathState → Type 0 = λ m q. (part_for q.config c.args.client ≡ Some (part_of m.kind)) × IsOpenOn q m in
    seen_some (slice_get paths c.args.message.now.path) (Has c.args.message.now.packet) p c.fits_path.result (ap (slice_get paths) (sym c.path.ensures) ∙ c.in-Some.ensures)
    (subst (λ m. IsTrue c.fits_path.result ↔ Has m p) c.packet.ensures c.fits_path.ensures)

pub returns-in-None : goal.returns-in-None
returns-in-None g c =
    let paths = (standing_view c.args.state.now).paths in
    seen_none (slice_get paths c.args.message.now.path) _ (ap (slice_get paths) (sym c.path.ensures) ∙ c.in-None.ensures)
