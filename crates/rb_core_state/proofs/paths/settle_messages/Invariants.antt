use Rattle.std.proofs.Common.{◌≡◌, take}
use Rattle.rb_core_state.specs.Room.{paths_of}
use Rattle.rb_core_model.specs.Standing.{after_messages}
use Rattle.rb_core_state.proofs.paths.settle_messages.Given as goal

abbrev pub invariant-loop-message : goal.invariant-loop-message
invariant-loop-message g l = paths_of l.paths.items ≡ after_messages (paths_of l.fn.paths.items) (take l.message-index l.messages)
