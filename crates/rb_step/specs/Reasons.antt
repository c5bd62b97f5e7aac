-- the numbers and names of the reasons
use Rattle.std.specs.Prelude.{ℕ, List, codes}
use Rattle.rb_step.specs.declared.verdict.Reason.{Reason}
use Rattle.rb_step.specs.declared.verdict.Reason.TheVariants.{HeightOrder, Expired, TimeNotLater, FromFuture, TrustedSetUnknown, WrongNextSet, NotTwoThirds}

abbrev pub number_of : Reason → ℕ
number_of HeightOrder = 501
number_of Expired = 502
number_of TimeNotLater = 503
number_of FromFuture = 504
number_of TrustedSetUnknown = 505
number_of WrongNextSet = 506
number_of NotTwoThirds = 507

abbrev pub name_of : Reason → List ℕ
name_of HeightOrder = codes "HeightOrder"
name_of Expired = codes "Expired"
name_of TimeNotLater = codes "TimeNotLater"
name_of FromFuture = codes "FromFuture"
name_of TrustedSetUnknown = codes "TrustedSetUnknown"
name_of WrongNextSet = codes "WrongNextSet"
name_of NotTwoThirds = codes "NotTwoThirds"
