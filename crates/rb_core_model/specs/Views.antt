-- Laws of views, over every log.
use Rattle.std.specs.Prelude.{◌≡◌, ℕ, All, Some}
use Rattle.rb_step.specs.View.{IsView}
use Rattle.rb_script_types.specs.Config.{Config}
use Rattle.rb_core_model.specs.Begun.{IsBegun}
use Rattle.rb_core_model.specs.Config.{IsSetUp}
use Rattle.rb_plan_client.specs.Draft.{Job}
use Rattle.rb_core_model.specs.Event.{Event, IsEvent}
use Rattle.rb_core_model.specs.Machine.{client_view, state_of}
use Rattle.rb_core_model.specs.Snapshot.{Log}
use Rattle.rb_plan_client.specs.Task.{view_of}

-- what is seen of a client keeps what every client's view keeps
abbrev pub ClientViewsAreViews : Type 0
ClientViewsAreViews =
    (config : Config) (log : Log) → IsSetUp config → IsBegun config log.start → All IsEvent log.events
    → (client : ℕ) (job : Job) → client_view (state_of config log) client ≡ Some job → IsView (view_of job.task)
