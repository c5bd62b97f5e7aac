use Rattle.std.proofs.Common.{All, map, take}
use Rattle.std.specs.Prelude.{Contains, MatchOption}
use Rattle.std.specs.List.Sorted.{IsStrictlyIncreasing}
use Rattle.rb_import_check.specs.declared.client.Stored.{Stored}
use Rattle.rb_import_check.proofs.Repeats.{IsHighest, height_of, state_of}
use Rattle.rb_import_check.proofs.client.each_once.Given as goal

-- the records that are taken rise, each is one of those so far, of which each stands among them; and the last one is the highest
abbrev pub invariant-loop-next : goal.invariant-loop-next
invariant-loop-next l = record {
  rising : IsStrictlyIncreasing (map height_of l.stored.items);
  among : All (Contains (take l.next-index l.told)) l.stored.items;
  all : All (λ (s : Stored). Contains (map state_of l.stored.items) s.state.now) (take l.next-index l.told);
  last : IsHighest l.stored.items l.last;
}
