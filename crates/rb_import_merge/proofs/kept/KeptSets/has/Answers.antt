use Rattle.std.proofs.Common.{◌≡◌, ◌↔◌, true, Contains, sym, subst}
use Rattle.std.specs.List.Sorted.{IsBinarySearchResult}
use Rattle.std.specs.Ordering.{nat_cmp}
use Rattle.rb_import_merge.proofs.Found.{is_found}
use Rattle.rb_import_merge.proofs.kept.KeptSets.has.Goals as goal

pub returns : goal.returns
returns c =
    let among : IsBinarySearchResult (λ y. nat_cmp y c.args.place) c.args.self.now.places.items c.binary_search.result =
    subst (λ l. IsBinarySearchResult (λ y. nat_cmp y c.args.place) l c.binary_search.result) c.deref.ensures.value c.binary_search.ensures.position in
    subst (λ b. (b ≡ true) ↔ Contains c.args.self.now.places.items c.args.place) (sym c.is_ok.ensures.value)
    (is_found c.args.self.now.places.items c.args.place c.binary_search.result c.args.self.now.rising among)
