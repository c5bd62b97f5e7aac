use Rattle.std.proofs.Common.{◌≡◌, map, drop}
use Rattle.std.specs.Cmp.Lexicographic.{pointwise}
use Rattle.rb_book.specs.Book.{RecordAt, height_of, time_of}
use Rattle.rb_scan.specs.Same.{same_record}
use Rattle.rb_core_state.proofs.views.are_times_of.Given as goal

abbrev pub invariant-loop-place : goal.invariant-loop-place
invariant-loop-place l =
    pointwise same_record (drop l.place l.times) (map (λ (k : RecordAt). (height_of k, time_of k)) (drop l.place l.records))
    ≡ pointwise same_record l.times (map (λ (k : RecordAt). (height_of k, time_of k)) l.records)
