-- (internal) Who leads a relayer through turns, as what was taken in.
use Rattle.rb_core.specs.Core.{Core}
use Rattle.rb_follow.specs.declared.driver.Driver.{Driver}
use Rattle.rb_follow.specs.declared.driver.Driver.TheVariants.{Alone, WithWorkers}

abbrev pub core_of : {G : Type 0} → Driver G → Core
core_of (Alone supervisor) = supervisor
core_of (WithWorkers supervisor) = supervisor
