use Rattle.std.proofs.Common.{◌∙◌, length, subst}
use Rattle.std.specs.List.Sorted.{IsBinarySearchResult, IsSearchInRange}
use Rattle.std.specs.Ordering.{nat_cmp}
use Rattle.rb_import_merge.proofs.Rising.{found_by}
use Rattle.rb_import_merge.proofs.sequences.Sequences.has.Goals as goal

pub returns : goal.returns
returns c =
    let among : IsBinarySearchResult (λ y. nat_cmp y c.args.sequence) c.args.self.now.sorted.items c.binary_search.result =
    subst (λ l. IsBinarySearchResult (λ y. nat_cmp y c.args.sequence) l c.binary_search.result) c.deref.ensures.value c.binary_search.ensures.position in
    let small : IsSearchInRange c.binary_search.result (length c.args.self.now.sorted.items) =
    subst (λ l. IsSearchInRange c.binary_search.result (length l)) c.deref.ensures.value c.binary_search.ensures.bound in
    c.is_ok.ensures.value ∙ found_by (λ n. n) c.args.self.now.sorted.items c.args.sequence c.binary_search.result c.args.self.now.order small among
