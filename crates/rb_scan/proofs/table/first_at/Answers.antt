use Rattle.std.proofs.Common.{ℕ, ◌≡◌, ltb, ap, ◌∙◌, sym, rules, arith}
use Rattle.std.specs.List.{slice_get}
use Rattle.std.specs.Option.{option_map}
use Rattle.std.proofs.lemmas.Grind.{common_steps}
use Rattle.std.proofs.lemmas.Option.{gets}
use Rattle.std.proofs.lemmas.List.Sorted.{IsPartitionPoint-from_clause, IsPartitionedBy-ltb}
use Rattle.rb_scan.proofs.Rising.{non_decreasing_from_rising, find-at_partition_point}
use Rattle.rb_scan.proofs.table.first_at.Goals as goal

pub returns : goal.returns
returns c =
    let records = c.args.records.now in
    let time = λ (r : ℕ × ℕ). r.1 in
    let split = IsPartitionPoint-from_clause (λ (r : ℕ × ℕ). ltb r.1 c.args.time) records _ c.partition_point-place.ensures.partitioned
    (IsPartitionedBy-ltb time records c.args.time (non_decreasing_from_rising time records c.requires)) (λ a r q k. search rules) in
    let found = find-at_partition_point time records (0, 0) c.args.time _ c.partition_point-place.ensures.bound split in
    let read : c.map.result ≡ option_map (λ (r : ℕ × ℕ). r.0) (slice_get records c.partition_point-place.result) = grind (arith, common_steps, gets) in
    read ∙ sym (ap (option_map (λ (r : ℕ × ℕ). r.0)) found)
