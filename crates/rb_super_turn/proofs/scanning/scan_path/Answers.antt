use Rattle.std.proofs.Common.{◌<◌, length, sym, subst}
use Rattle.rb_core.specs.Core.{state_in}
use Rattle.rb_core_model.specs.Machine.{is_scanned}
use Rattle.std.proofs.Common.{◌≡◌, true}
use Rattle.rb_script_types.specs.Config.{Config}
use Rattle.rb_base.specs.declared.gate.Part.TheVariants.{Packets}
use Rattle.rb_super_turn.proofs.Steps.{for_both}
use Rattle.rb_super_turn.proofs.scanning.scan_path.Goals as goal

pub scan_part-requires-2-clause-path : goal.scan_part-requires-2-clause-path
scan_part-requires-2-clause-path g c = λ ks _. subst (λ (k : Config). c.args.path < length k.paths) (sym c.in_ok-scan_part.ensures.later.config) c.requires.path

pub returns-clause-scanned : goal.returns-clause-scanned
returns-clause-scanned g c =
    for_both (λ part. is_scanned (state_in c.scan_part-2.new.relayer) c.args.path part ≡ true)
    (c.in_ok-scan_part-2.ensures.others c.args.path Packets c.in_ok-scan_part.ensures.scanned) c.in_ok-scan_part-2.ensures.scanned
