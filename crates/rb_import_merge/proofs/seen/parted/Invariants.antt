use Rattle.std.proofs.Common.{◌≡◌, map}
use Rattle.rb_import_merge.specs.Judged.{Fitting}
use Rattle.rb_import_merge.proofs.seen.parted.Given as goal

abbrev pub invariant-loop-chain : goal.invariant-loop-chain
invariant-loop-chain l = record {
  chains : l.chains.items ≡ map (λ (f : Fitting). f.0) l.yielded;
  surplus : l.surplus.items ≡ map (λ (f : Fitting). f.1) l.yielded;
}
