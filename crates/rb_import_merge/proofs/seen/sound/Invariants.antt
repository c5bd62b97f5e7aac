use Rattle.std.proofs.Common.{◌≡◌, ◌++◌, [], map}
use Rattle.std.specs.Prelude.{Ok}
use Rattle.std.specs.List.{flat_map}
use Rattle.rb_import_merge.specs.Judged.{problems_in}
use Rattle.rb_import_merge.proofs.seen.sound.Given as goal

-- the problems of the results so far are added, and where there are none, each of them is sound
abbrev pub invariant-loop-result : goal.invariant-loop-result
invariant-loop-result g l = record {
  problems : l.problems.items ≡ l.fn.problems.items ++ flat_map problems_in l.yielded;
  all : flat_map problems_in l.yielded ≡ [] → l.yielded ≡ map Ok l.sound.items;
}
