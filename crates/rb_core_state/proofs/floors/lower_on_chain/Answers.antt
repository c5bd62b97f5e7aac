use Rattle.std.proofs.Common.{◌==◌, [], ◌∙◌, if◌then◌else◌}
use Rattle.rb_core_model.specs.Forgetting.{needs_of_client}
use Rattle.rb_core_state.specs.Floors.{lowered}
use Rattle.rb_core_state.proofs.floors.lower_on_chain.Goals as goal

pub returns : goal.returns
returns g c =
    c.lower_by_tracking.ensures
    ∙ (λ i. lowered c.args.lowest (if (c.config.ensures i).tracks == c.args.chain then needs_of_client c.args.window.now (c.book_in.ensures i) c.args.client.now.client else []))
