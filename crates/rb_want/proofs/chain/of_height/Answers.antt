use Rattle.std.proofs.Common.{ltb, leb, take, rules, sym, subst, ◌∙◌, ap}
use Rattle.std.specs.List.Sorted.{IsNonDecreasingBy}
use Rattle.std.proofs.lemmas.List.Sorted.{IsNonDecreasingBy-drop, IsPartitionPoint-from_clause, IsPartitionedBy-ltb, IsPartitionedBy-leb}
use Rattle.rb_import_check.proofs.Heights.{IsStart, IsEnd, between}
use Rattle.rb_want.proofs.Sets.{height_of}
use Rattle.rb_want.proofs.chain.of_height.Goals as goal

-- those of the height stand between the first that isn't below it and the first above it
pub returns : goal.returns
returns c =
    let start : IsStart height_of c.args.height c.args.pages.now c.partition_point-start.result =
    IsPartitionPoint-from_clause (λ p. ltb (height_of p) c.args.height) c.args.pages.now c.partition_point-start.result
    c.partition_point-start.ensures.partitioned (IsPartitionedBy-ltb height_of _ c.args.height c.requires) (λ a r q k. search rules) in
    let rises : IsNonDecreasingBy height_of c.split_at.result.1.now =
    subst (IsNonDecreasingBy height_of) (sym c.split_at.ensures.back) (IsNonDecreasingBy-drop height_of _ _ c.requires) in
    let end : IsEnd height_of c.args.height c.split_at.result.1.now c.partition_point-count.result =
    IsPartitionPoint-from_clause (λ p. leb (height_of p) c.args.height) c.split_at.result.1.now c.partition_point-count.result
    c.partition_point-count.ensures.partitioned (IsPartitionedBy-leb height_of _ c.args.height rises) (λ a r q k. search rules) in
    c.split_at-2.ensures.front ∙ ap (take c.partition_point-count.result) c.split_at.ensures.back
    ∙ between height_of c.args.height c.args.pages.now c.partition_point-start.result c.partition_point-count.result start
    (subst (λ l. IsEnd height_of c.args.height l c.partition_point-count.result) c.split_at.ensures.back end)
