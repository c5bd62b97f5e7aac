use lib.Ieee
use Rattle.rb_import_setup.proofs.hermes_chain.float_millionths.Goals as goal

pub returns : goal.returns
unfolding Ieee.of_bits Ieee.of_fields Ieee.odd Ieee.climb Ieee.size Ieee.span Ieee.round Ieee.units
returns c = c.saturating_f64_to_u64.ensures
