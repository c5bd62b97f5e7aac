use Rattle.std.proofs.Common.{◌≡◌, Option, sym, subst}
use Rattle.std.specs.Option.{ForSome}
use Rattle.rb_base.specs.declared.gate.Part.TheVariants.{Packets, Channel}
use Rattle.rb_core_model.specs.Scan.{Scan}
use Rattle.rb_core_model.proofs.scans.Scans.copy.Goals as goal

pub invariant_of-result : goal.invariant_of-result
invariant_of-result g c = (
  subst (λ (o : Option Scan). ForSome o (λ (x : Scan). x.part ≡ Packets)) (sym c.in_ok-share_last.ensures) c.self.invariant.0,
  subst (λ (o : Option Scan). ForSome o (λ (x : Scan). x.part ≡ Channel)) (sym c.in_ok-share_last-2.ensures) c.self.invariant.1,
)
