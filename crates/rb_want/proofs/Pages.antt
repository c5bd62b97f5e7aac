-- The pages of the validators of a height.
use Rattle.std.proofs.Common.{◌≡◌, ℕ, ◌+◌, ◌<◌, List, [], ◌∷◌, ◌++◌, append-nil, length, get_or, take, ap, sym, ◌∙◌}
use Rattle.std.specs.Prelude.{Some, None}
use Rattle.std.specs.List.{cons_option, sum_by}
use Rattle.std.proofs.lemmas.List.{take_more}
use Rattle.std.proofs.lemmas.List.Elements.{filter_map-append}
use Rattle.std.proofs.lemmas.List.Sums.{sum_by_push}
use Rattle.rb_import_answers.specs.declared.validators.ValidatorsPage.{ValidatorsPage}
use Rattle.rb_want_requests.specs.declared.content.Content.{Content}
use Rattle.rb_want.specs.Clients.{members_at, page_at, pages_at}

-- one more content brings the page that it is
more : (height : ℕ) (there : List Content) (i : ℕ) (c : Content)
    → i < length there → c ≡ get_or there i c → pages_at height (take (i + 1) there) ≡ pages_at height (take i there) ++ cons_option (page_at height c) []
more height there i c small is =
    ap (pages_at height) (take_more there i c small ∙ ap (λ y. take i there ++ y ∷ []) (sym is)) ∙ filter_map-append (page_at height) (take i there) (c ∷ [])

-- a content that isn't such a page brings none
none_more : (height : ℕ) (there : List Content) (i : ℕ) (c : Content)
    → i < length there → c ≡ get_or there i c → page_at height c ≡ None → pages_at height (take (i + 1) there) ≡ pages_at height (take i there)
none_more height there i c small is none =
    more height there i c small is ∙ ap (λ o. pages_at height (take i there) ++ cons_option o []) none ∙ append-nil (pages_at height (take i there))

-- the validators on one page more
pub members_more : (height : ℕ) (there : List Content) (i : ℕ) (c : Content) (p : ValidatorsPage)
    → i < length there → c ≡ get_or there i c → page_at height c ≡ Some p
    → members_at height (take (i + 1) there) ≡ members_at height (take i there) + length p.validators.items
members_more height there i c p small is here =
    ap (sum_by (λ q. length q.validators.items)) (more height there i c small is ∙ ap (λ o. pages_at height (take i there) ++ cons_option o []) here)
    ∙ sum_by_push (λ q. length q.validators.items) (pages_at height (take i there)) p

pub members_same : (height : ℕ) (there : List Content) (i : ℕ) (c : Content)
    → i < length there → c ≡ get_or there i c → page_at height c ≡ None → members_at height (take (i + 1) there) ≡ members_at height (take i there)
members_same height there i c small is none = ap (sum_by (λ q. length q.validators.items)) (none_more height there i c small is none)

pub ruleset paging = (members_more, members_same)
