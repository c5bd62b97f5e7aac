use Rattle.std.proofs.Common.{◌<◌, All, length}
use Rattle.rb_script_read.proofs.ready.places_of_sets.Given as goal

-- each place that was taken is one of the events'
abbrev pub invariant-loop-place : goal.invariant-loop-place
invariant-loop-place l = All (λ place. place < length l.events) l.places.items
