use Rattle.std.proofs.Common.{◌≡◌, ℕ, ◌-◌, ◌<◌, ◌/◌, ◌^◌}
use Rattle.rb_import_setup.specs.HermesFees.{max_fee, unit_from, unit_of}
use Rattle.rb_import_setup.proofs.hermes_fees.unit_of.Given as goal

-- the unit is a power of ten, from which on the least is looked for
abbrev pub invariant-loop-exponent : goal.invariant-loop-exponent
invariant-loop-exponent l = record {
  power : l.unit ≡ 10 ^ l._exponent;
  left : unit_from (24 - l._exponent) l.unit l.amount ≡ unit_of l.amount;
  greater : (k : ℕ) → k < l._exponent → max_fee < l.amount / 10 ^ k;
}
