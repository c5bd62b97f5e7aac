-- Orders of channels (ICS 4) compared.
use Rattle.std.specs.Prelude.{Bool, true, false}
use Rattle.rb_scan.specs.declared.path.Order.{Order}
use Rattle.rb_scan.specs.declared.path.Order.TheVariants.{Ordered, Unordered}

abbrev pub same_order : Order → Order → Bool
same_order Ordered Ordered = true
same_order Ordered Unordered = false
same_order Unordered Ordered = false
same_order Unordered Unordered = true
