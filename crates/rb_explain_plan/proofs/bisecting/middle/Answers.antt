use Rattle.std.proofs.Common.{◌≡◌, ◌+◌, ◌-◌, ◌/◌, ◌<◌, ◌≤◌, ℕ, leb, None, Some, sym, ap, subst, ◌∙◌, rules, arith}
use Rattle.std.specs.List.Sorted.{IsNonDecreasingBy}
use Rattle.std.proofs.lemmas.List.Sorted.{IsPartitionPoint-from_clause, IsPartitionedBy-leb}
use Rattle.rb_book.specs.Book.{header_height}
use Rattle.rb_book.specs.Header.{Header}
use Rattle.rb_explain_plan.proofs.Between.{headers_rise, none_up_to, highest_between, none_between, over, not_over, middle_is}
use Rattle.rb_explain_plan.proofs.bisecting.middle.Goals as goal

pub returns-then-count-eq0 : goal.returns-then-count-eq0
returns-then-count-eq0 g c =
    let b = c.args.book.now in
    let headers = c.headers-headers.result.now in
    let count = c.partition_point-count.result in
    let half = (c.get.result + c.get-2.result) / 2 in
    let half_is : half ≡ (c.args.trusted + c.args.tried) / 2 = ap (λ k. (k + c.get-2.result) / 2) c.get.ensures.value ∙ ap (λ k. (c.args.trusted + k) / 2) c.get-2.ensures.value in
    let rising : IsNonDecreasingBy header_height headers = subst (IsNonDecreasingBy header_height) (sym c.headers-headers.ensures.value) (headers_rise b c.headers-headers.ensures.book) in
    let split = IsPartitionPoint-from_clause (λ (h : Header). leb (header_height h) half) headers count c.partition_point-count.ensures.partitioned (IsPartitionedBy-leb header_height headers half rising) (λ a r q k. search rules) in
    middle_is b c.args.trusted c.args.tried half headers None c.headers-headers.ensures.value half_is
    (none_up_to header_height c.args.trusted half headers count rising c.partition_point-count.ensures.bound split (omega arith))

pub returns-then-lt : goal.returns-then-lt
returns-then-lt g c =
    let b = c.args.book.now in
    let headers = c.headers-headers.result.now in
    let count = c.partition_point-count.result in
    let half = (c.get.result + c.get-2.result) / 2 in
    let half_is : half ≡ (c.args.trusted + c.args.tried) / 2 = ap (λ k. (k + c.get-2.result) / 2) c.get.ensures.value ∙ ap (λ k. (c.args.trusted + k) / 2) c.get-2.ensures.value in
    let rising : IsNonDecreasingBy header_height headers = subst (IsNonDecreasingBy header_height) (sym c.headers-headers.ensures.value) (headers_rise b c.headers-headers.ensures.book) in
    let split = IsPartitionPoint-from_clause (λ (h : Header). leb (header_height h) half) headers count c.partition_point-count.ensures.partitioned (IsPartitionedBy-leb header_height headers half rising) (λ a r q k. search rules) in
    let x = c.index-headers-count.result in
    ap (λ (k : ℕ). Some k) c.height-highest.ensures
    ∙ middle_is b c.args.trusted c.args.tried half headers (Some x.height) c.headers-headers.ensures.value half_is
    (highest_between header_height c.args.trusted half headers count rising c.partition_point-count.ensures.bound split (count - 1) x (omega arith) c.index-headers-count.is
    (subst (λ (k : ℕ). c.args.trusted < k) c.height-highest.ensures (over c.args.trusted c.height-highest.result c.lt.result c.lt.ensures c.if-lt.true)))

pub returns-else-lt : goal.returns-else-lt
returns-else-lt g c =
    let b = c.args.book.now in
    let headers = c.headers-headers.result.now in
    let count = c.partition_point-count.result in
    let half = (c.get.result + c.get-2.result) / 2 in
    let half_is : half ≡ (c.args.trusted + c.args.tried) / 2 = ap (λ k. (k + c.get-2.result) / 2) c.get.ensures.value ∙ ap (λ k. (c.args.trusted + k) / 2) c.get-2.ensures.value in
    let rising : IsNonDecreasingBy header_height headers = subst (IsNonDecreasingBy header_height) (sym c.headers-headers.ensures.value) (headers_rise b c.headers-headers.ensures.book) in
    let split = IsPartitionPoint-from_clause (λ (h : Header). leb (header_height h) half) headers count c.partition_point-count.ensures.partitioned (IsPartitionedBy-leb header_height headers half rising) (λ a r q k. search rules) in
    let x = c.index-headers-count.result in
    middle_is b c.args.trusted c.args.tried half headers None c.headers-headers.ensures.value half_is
    (none_between header_height c.args.trusted half headers count rising c.partition_point-count.ensures.bound split (count - 1) x (omega arith) c.index-headers-count.is
    (subst (λ (k : ℕ). k ≤ c.args.trusted) c.height-highest.ensures (not_over c.args.trusted c.height-highest.result c.lt.result c.lt.ensures c.if-lt.false)))
