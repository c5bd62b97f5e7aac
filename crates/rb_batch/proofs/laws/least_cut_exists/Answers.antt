use Rattle.rb_batch.proofs.Existence.{least_exists, none_from_division}
use Rattle.rb_batch.proofs.laws.least_cut_exists.Goals as goal

pub returns : goal.returns
returns c = λ limits messages ok.
    (λ cut. none_from_division limits messages cut.0 cut.1.division, λ none. least_exists limits messages ok none)
