use Rattle.std.proofs.Common.{◌≡◌, drop}
use Rattle.std.specs.List.{list_all}
use Rattle.rb_import_answers.specs.Durations.{is_decimal}
use Rattle.rb_import_answers.proofs.duration.are_decimal.Given as goal

-- the digits are decimal if those that are left are
abbrev pub invariant-loop-digit : goal.invariant-loop-digit
invariant-loop-digit l = list_all is_decimal (drop l.digit-index l.digits) ≡ list_all is_decimal l.digits
