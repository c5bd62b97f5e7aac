use Rattle.rb_plan.proofs.RightAnswers.{reach_from_top}
use Rattle.rb_step.specs.View.{client_of}
use Rattle.rb_explain.proofs.reach.reach_of.Goals as goal

pub returns : goal.returns
returns g c =
    reach_from_top (client_of c.args.view.now) c.in_ok-labelling.labelling c.top_reachable.result c.in_ok-labelling.ensures.exact c.top_reachable.ensures.labelled
    c.top_reachable.ensures.greatest
