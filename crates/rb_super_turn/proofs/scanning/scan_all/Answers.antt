use Rattle.std.proofs.Common.{◌≡◌, ◌*◌, true, sym, ◌∙◌, subst, arith, inl, inr}
use Rattle.std.proofs.lemmas.Bool.{cases_eq}
use Rattle.rb_core.specs.Core.{state_in}
use Rattle.rb_core_model.specs.Machine.{is_scanned}
use Rattle.rb_super_turn.proofs.Steps.{later_trans}
use Rattle.rb_super_turn.proofs.scanning.scan_all.Goals as goal

pub loop-path-preserved : goal.loop-path-preserved
loop-path-preserved g c =
    let n = c.loop-path.path in
    let inv = c.loop-path.invariant in
    let two = later_trans (2 * n) 2 c.args.relayer.now c.loop-path.relayer c.scan_path.new.relayer inv.later c.in_ok-scan_path.ensures.later in
    record {
      standing = c.in_ok-scan_path.ensures.standing ∙ inv.standing;
      scanned = λ path part lt.
          elim (cases_eq path n) [
            | inl here ↦ subst (λ p. is_scanned (state_in c.scan_path.new.relayer) p part ≡ true) (sym here) (c.in_ok-scan_path.ensures.scanned part)
            | inr other ↦ c.in_ok-scan_path.ensures.others path part (inv.scanned path part (omega arith))
          ];
      later = record { config = two.config; front = omega arith };
    }
