use Rattle.std.proofs.Common.{◌≡◌, ◌<◌, ℕ, List, Some, length, map, get_or, rules, refl, sym, ap, subst, ◌∙◌}
use Rattle.std.specs.Prelude.{Any}
use Rattle.std.specs.List.Sorted.{IsBinarySearchResult}
use Rattle.std.specs.Ordering.{nat_cmp}
use Rattle.std.proofs.lemmas.Bool.{true≢false}
use Rattle.std.proofs.lemmas.List.{length-map}
use Rattle.rb_import_check.specs.declared.error.CheckErrorName.{CheckErrorName}
use Rattle.rb_import_check.specs.declared.chain.Commit.{Commit}
use Rattle.rb_import_check.specs.declared.error.ImportError.{ImportError}
use Rattle.rb_import_check.specs.Accord.{AgreesWith, DiffersFrom, IsAsHeader}
use Rattle.rb_import_check.specs.Errors.{IsTold}
use Rattle.rb_import_check.proofs.Accords.{agrees_where_absent, agrees_where_found, disagrees, found_height, height_of}
use Rattle.rb_import_check.proofs.accord.judge_record.Goals as goal

pub returns-in_default-clause-accord : goal.returns-in_default-clause-accord
returns-in_default-clause-accord c =
    let height : ℕ = c.args.stored.now.state.now.height in
    let among : IsBinarySearchResult (λ y. nat_cmp y height) (map height_of c.args.chain.now.commits.items) c.binary_search.result =
    subst (λ l. IsBinarySearchResult (λ y. nat_cmp y height) l c.binary_search.result) c.requires c.binary_search.ensures.position in
    agrees_where_absent c.args.chain.now.commits.items c.args.stored.now c.in_default.field-0 c.args.chain.now.rising
    (subst (λ r. IsBinarySearchResult (λ y. nat_cmp y height) (map height_of c.args.chain.now.commits.items) r) c.in_default.is among)

pub returns-then-is_as_header-clause-accord : goal.returns-then-is_as_header-clause-accord
returns-then-is_as_header-clause-accord c =
    let height : ℕ = c.args.stored.now.state.now.height in
    let among : IsBinarySearchResult (λ y. nat_cmp y height) (map height_of c.args.chain.now.commits.items) c.binary_search.result =
    subst (λ l. IsBinarySearchResult (λ y. nat_cmp y height) l c.binary_search.result) c.requires c.binary_search.ensures.position in
    let found = subst (λ r. IsBinarySearchResult (λ y. nat_cmp y height) (map height_of c.args.chain.now.commits.items) r) c.in-Ok.is among in
    let long : length c.args.heights.now ≡ length c.args.chain.now.commits.items = ap length c.requires ∙ length-map c.args.chain.now.commits.items height_of in
    let small : c.in-Ok.place < length c.args.chain.now.commits.items = subst (λ n. c.in-Ok.place < n) long c.in-Ok.ensures.bound in
    let is : c.index-commit.result.now ≡ get_or c.args.chain.now.commits.items c.in-Ok.place c.index-commit.result.now = c.index-commit.ensures in
    let at = found_height c.args.chain.now.commits.items c.args.stored.now c.in-Ok.place c.index-commit.result.now c.args.chain.now.rising found small is in
    agrees_where_found c.args.chain.now.commits.items c.args.stored.now c.in-Ok.place c.index-commit.result.now c.args.chain.now.rising small is at (c.is_as_header.ensures.0 c.if-is_as_header.true)

pub returns-clause-other : goal.returns-clause-other
returns-clause-other c =
    let height : ℕ = c.args.stored.now.state.now.height in
    let among : IsBinarySearchResult (λ y. nat_cmp y height) (map height_of c.args.chain.now.commits.items) c.binary_search.result =
    subst (λ l. IsBinarySearchResult (λ y. nat_cmp y height) l c.binary_search.result) c.requires c.binary_search.ensures.position in
    let found = subst (λ r. IsBinarySearchResult (λ y. nat_cmp y height) (map height_of c.args.chain.now.commits.items) r) c.in-Ok.is among in
    let long : length c.args.heights.now ≡ length c.args.chain.now.commits.items = ap length c.requires ∙ length-map c.args.chain.now.commits.items height_of in
    let small : c.in-Ok.place < length c.args.chain.now.commits.items = subst (λ n. c.in-Ok.place < n) long c.in-Ok.ensures.bound in
    let is : c.index-commit.result.now ≡ get_or c.args.chain.now.commits.items c.in-Ok.place c.index-commit.result.now = c.index-commit.ensures in
    let at = found_height c.args.chain.now.commits.items c.args.stored.now c.in-Ok.place c.index-commit.result.now c.args.chain.now.rising found small is in
    let other = disagrees c.args.chain.now.commits.items c.args.stored.now c.in-Ok.place c.index-commit.result.now small is at (λ w. true≢false (sym (c.is_as_header.ensures.1 w) ∙ c.if-is_as_header.false)) in
    subst (IsTold CheckErrorName.OtherRecord (AgreesWith c.args.chain.now.commits.items c.args.stored.now → ⊥)) (sym c.between.ensures) (refl, other)

pub returns-clause-named : goal.returns-clause-named
returns-clause-named c =
    let height : ℕ = c.args.stored.now.state.now.height in
    let among : IsBinarySearchResult (λ y. nat_cmp y height) (map height_of c.args.chain.now.commits.items) c.binary_search.result =
    subst (λ l. IsBinarySearchResult (λ y. nat_cmp y height) l c.binary_search.result) c.requires c.binary_search.ensures.position in
    let found = subst (λ r. IsBinarySearchResult (λ y. nat_cmp y height) (map height_of c.args.chain.now.commits.items) r) c.in-Ok.is among in
    let long : length c.args.heights.now ≡ length c.args.chain.now.commits.items = ap length c.requires ∙ length-map c.args.chain.now.commits.items height_of in
    let small : c.in-Ok.place < length c.args.chain.now.commits.items = subst (λ n. c.in-Ok.place < n) long c.in-Ok.ensures.bound in
    let is : c.index-commit.result.now ≡ get_or c.args.chain.now.commits.items c.in-Ok.place c.index-commit.result.now = c.index-commit.ensures in
    let at = found_height c.args.chain.now.commits.items c.args.stored.now c.in-Ok.place c.index-commit.result.now c.args.chain.now.rising found small is in
    let unlike : IsAsHeader c.args.stored.now c.index-commit.result.now → ⊥ = λ w. true≢false (sym (c.is_as_header.ensures.1 w) ∙ c.if-is_as_header.false) in
    let commits : List Commit = c.args.chain.now.commits.items in
    subst (λ (e : ImportError). Any (λ (x : Commit). DiffersFrom x c.args.stored.now e) commits) (sym c.between.ensures)
    (c.in-Ok.place, c.index-commit.result.now, small, sym is, (at, unlike, ap Some (search rules), (refl, refl)))
