use Rattle.std.proofs.Common.{take}
use Rattle.rb_import_check.proofs.Indexing.{ArePlaces, HasEach}
use Rattle.rb_import_check.proofs.verdicts.places_of.Given as goal

-- the map gives places of verdicts alone, and has the digest of each so far
abbrev pub invariant-loop-place : goal.invariant-loop-place
invariant-loop-place l = record {
  places : ArePlaces l.verdicts l.places;
  each : HasEach l.places (take l.place l.verdicts);
}
