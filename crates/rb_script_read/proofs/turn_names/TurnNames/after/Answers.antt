use Rattle.std.proofs.Common.{sym, ap, ◌∙◌}
use Rattle.rb_script_read.specs.Names.{Names, no_names, with_namings}
use Rattle.rb_script_read.proofs.turn_names.TurnNames.after.Goals as goal

pub invariant_of-result : goal.invariant_of-result
invariant_of-result c = record {
  named = λ chain name. ap (λ (f : Names). f chain name) c.new.ensures ∙ sym (ap (λ ns. with_namings no_names ns chain name) c.new-2.ensures.items);
}
