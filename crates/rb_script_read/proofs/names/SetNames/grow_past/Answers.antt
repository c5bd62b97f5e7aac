use Rattle.std.proofs.Common.{ap, ◌∙◌}
use Rattle.rb_script_read.specs.Names.{names_in}
use Rattle.rb_script_read.proofs.NamesLemmas.{names_in-push}
use Rattle.rb_script_read.proofs.names.SetNames.grow_past.Goals as goal

pub loop-self-preserved : goal.loop-self-preserved
loop-self-preserved c =
    ap names_in c.in_ok-push.ensures.items ∙ names_in-push c.loop-self.self.chains.items c.new.result c.new.ensures.empty ∙ c.loop-self.invariant
