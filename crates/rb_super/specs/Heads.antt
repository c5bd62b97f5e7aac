-- (internal) A board's pen, as what it has taken in.
use Rattle.std.specs.Prelude.{[]}
use Rattle.rb_board.specs.Ends.{Pen}
use Rattle.rb_core.specs.Core.{Core}

-- the configuration and the log of its core; no room is known of it
abbrev pub head_of : Pen → Core
head_of pen = record { config = pen.config; log = pen.log; room = record { log = 0; apart = []; stored = []; packets = [] } }
