-- Requests to which others are added in turn.
use Rattle.std.proofs.Common.{◌≡◌, ℕ, ◌+◌, ◌<◌, List, [], ◌∷◌, ◌++◌, append-nil, append_assoc, length, map, map-id, get_or, take, refl, ap, sym, ◌∙◌, arith}
use Rattle.std.specs.Prelude.{if◌then◌else◌}
use Rattle.std.specs.List.{flat_map, range_with_len}
use Rattle.std.proofs.lemmas.List.{map_more, take_more}
use Rattle.std.proofs.lemmas.List.Concat.{flat_map-append}
use Rattle.std.proofs.lemmas.List.FromFn.{map-range_with_len_more}
use Rattle.std.proofs.lemmas.List.Sums.{fold-append}
use Rattle.rb_want_requests.specs.Requests.{may_be_added}
use Rattle.rb_want_requests.specs.declared.content.Folders.{Folders}
use Rattle.rb_want_requests.specs.declared.request.Request.{Request}
use Rattle.rb_want_requests.specs.Ends.{with_end}
use Rattle.rb_want_requests.specs.declared.reason.End.{End}
use Rattle.rb_want_requests.specs.declared.reason.PathEnd.{PathEnd}
use Rattle.rb_want.specs.Adding.{with_ends, with_needed, with_path_ends, with_request}

-- nothing more is needed
pub added_none : (f : Folders) (rs : List Request) → with_needed f rs [] ≡ rs
unfolding with_needed
added_none f rs = refl

-- one request is needed
pub added_one : (f : Folders) (rs : List Request) (r : Request) → with_needed f rs (r ∷ []) ≡ (if may_be_added f rs r then rs ++ r ∷ [] else rs)
unfolding with_needed
added_one f rs r = refl

-- some requests, and then others
pub added_both : (f : Folders) (rs more others : List Request) → with_needed f (with_needed f rs more) others ≡ with_needed f rs (more ++ others)
unfolding with_needed
added_both f rs more others = sym (fold-append (with_request f) rs more others)

-- one request, and then others
pub added_first : (f : Folders) (rs : List Request) (r : Request) (others : List Request)
    → with_needed f (with_needed f rs (r ∷ [])) others ≡ with_needed f rs (r ∷ others)
unfolding with_needed
added_first f rs r others = refl

pub ruleset adding = (added_none, added_one, added_both, added_first)

-- ---- why no more is asked

pub ended_none : (es : List End) → with_ends es [] ≡ es
unfolding with_ends
ended_none es = append-nil es

pub ended_both : (es more others : List End) → with_ends (with_ends es more) others ≡ with_ends es (more ++ others)
unfolding with_ends
ended_both es more others = append_assoc es more others

pub ruleset ending = (ended_none, ended_both)

pub path_ended_none : (es : List PathEnd) → with_path_ends es [] ≡ es
unfolding with_path_ends
path_ended_none es = refl

pub path_ended_one : (es : List PathEnd) (e : PathEnd) → with_path_ends es (e ∷ []) ≡ with_end es e
unfolding with_path_ends
path_ended_one es e = refl

pub path_ended_both : (es more others : List PathEnd) → with_path_ends (with_path_ends es more) others ≡ with_path_ends es (more ++ others)
unfolding with_path_ends
path_ended_both es more others = sym (fold-append with_end es more others)

pub ruleset path_ending = (path_ended_none, path_ended_one, path_ended_both)

-- one more of what ends
pub path_end_step : {X : Type 0} (es0 es after : List PathEnd) (why : X → List PathEnd) (xs : List X) (i : ℕ) (x : X)
    → i < length xs → x ≡ get_or xs i x → es ≡ with_path_ends es0 (flat_map why (take i xs)) → after ≡ with_path_ends es (why x)
    → after ≡ with_path_ends es0 (flat_map why (take (i + 1) xs))
path_end_step es0 es after why xs i x lt is was now =
    let more : take (i + 1) xs ≡ take i xs ++ x ∷ [] = take_more xs i x lt ∙ ap (λ z. take i xs ++ z ∷ []) (sym is) in
    let flat : flat_map why (take (i + 1) xs) ≡ flat_map why (take i xs) ++ why x =
    ap (flat_map why) more ∙ flat_map-append why (take i xs) (x ∷ []) ∙ ap (λ l. flat_map why (take i xs) ++ l) (append-nil (why x)) in
    now ∙ ap (λ l. with_path_ends l (why x)) was ∙ path_ended_both es0 (flat_map why (take i xs)) (why x) ∙ ap (with_path_ends es0) (sym flat)

-- ---- what is asked

-- what one more of these needs
pub one_more : {X : Type 0} (f : Folders) (rs : List Request) (needs : X → List Request) (xs : List X) (i : ℕ) (x : X)
    → i < length xs → x ≡ get_or xs i x
    → with_needed f (with_needed f rs (flat_map needs (take i xs))) (needs x) ≡ with_needed f rs (flat_map needs (take (i + 1) xs))
one_more f rs needs xs i x lt is =
    let more : take (i + 1) xs ≡ take i xs ++ x ∷ [] = take_more xs i x lt ∙ ap (λ z. take i xs ++ z ∷ []) (sym is) in
    let flat : flat_map needs (take (i + 1) xs) ≡ flat_map needs (take i xs) ++ needs x =
    ap (flat_map needs) more ∙ flat_map-append needs (take i xs) (x ∷ []) ∙ ap (λ l. flat_map needs (take i xs) ++ l) (append-nil (needs x)) in
    added_both f rs (flat_map needs (take i xs)) (needs x) ∙ ap (with_needed f rs) (sym flat)

range_more : (a n : ℕ) → range_with_len a (n + 1) ≡ range_with_len a n ++ (a + n) ∷ []
range_more a n =
    sym (map-id (range_with_len a (n + 1))) ∙ map-range_with_len_more (λ k. k) a n (a + n) refl ∙ ap (λ l. l ++ (a + n) ∷ []) (map-id (range_with_len a n))

-- what one more part needs
pub one_part_more : (f : Folders) (rs : List Request) (needs : ℕ → List Request) (n part : ℕ) → part ≡ n + 1
    → with_needed f (with_needed f rs (flat_map needs (range_with_len 1 n))) (needs part) ≡ with_needed f rs (flat_map needs (range_with_len 1 (n + 1)))
one_part_more f rs needs n part is =
    let here : 1 + n ≡ part = omega (arith, is) in
    let more : range_with_len 1 (n + 1) ≡ range_with_len 1 n ++ part ∷ [] = range_more 1 n ∙ ap (λ k. range_with_len 1 n ++ k ∷ []) here in
    let flat : flat_map needs (range_with_len 1 (n + 1)) ≡ flat_map needs (range_with_len 1 n) ++ needs part =
    ap (flat_map needs) more ∙ flat_map-append needs (range_with_len 1 n) (part ∷ []) ∙ ap (λ l. flat_map needs (range_with_len 1 n) ++ l) (append-nil (needs part)) in
    added_both f rs (flat_map needs (range_with_len 1 n)) (needs part) ∙ ap (with_needed f rs) (sym flat)

-- one more query
pub one_query_more : {X : Type 0} (f : Folders) (rs : List Request) (ask : X → Request) (xs : List X) (i : ℕ) (x : X)
    → i < length xs → x ≡ get_or xs i x
    → with_needed f (with_needed f rs (map ask (take i xs))) (ask x ∷ []) ≡ with_needed f rs (map ask (take (i + 1) xs))
one_query_more f rs ask xs i x lt is =
    added_both f rs (map ask (take i xs)) (ask x ∷ []) ∙ ap (with_needed f rs) (sym (map_more ask xs i x lt ∙ ap (λ z. map ask (take i xs) ++ ask z ∷ []) (sym is)))

-- what one more of these needs is added to what the ones before need
pub more_step : {X : Type 0} (f0 f : Folders) (rs0 rs after : List Request) (needs : X → List Request) (xs : List X) (i : ℕ) (x : X)
    → i < length xs → x ≡ get_or xs i x → f ≡ f0 → rs ≡ with_needed f0 rs0 (flat_map needs (take i xs)) → after ≡ with_needed f rs (needs x)
    → after ≡ with_needed f0 rs0 (flat_map needs (take (i + 1) xs))
more_step f0 f rs0 rs after needs xs i x lt is same was now =
    now ∙ ap (λ g. with_needed g rs (needs x)) same ∙ ap (λ l. with_needed f0 l (needs x)) was ∙ one_more f0 rs0 needs xs i x lt is

-- the same of a part
pub part_step : (f0 f : Folders) (rs0 rs after : List Request) (needs : ℕ → List Request) (n : ℕ)
    → f ≡ f0 → rs ≡ with_needed f0 rs0 (flat_map needs (range_with_len 1 n)) → after ≡ with_needed f rs (needs (n + 1))
    → after ≡ with_needed f0 rs0 (flat_map needs (range_with_len 1 (n + 1)))
part_step f0 f rs0 rs after needs n same was now =
    now ∙ ap (λ g. with_needed g rs (needs (n + 1))) same ∙ ap (λ l. with_needed f0 l (needs (n + 1))) was ∙ one_part_more f0 rs0 needs n (n + 1) refl

-- and of what ends at a part
pub part_end_step : (es0 es after : List PathEnd) (why : ℕ → List PathEnd) (n : ℕ)
    → es ≡ with_path_ends es0 (flat_map why (range_with_len 1 n)) → after ≡ with_path_ends es (why (n + 1))
    → after ≡ with_path_ends es0 (flat_map why (range_with_len 1 (n + 1)))
part_end_step es0 es after why n was now =
    let here : 1 + n ≡ n + 1 = omega arith in
    let more : range_with_len 1 (n + 1) ≡ range_with_len 1 n ++ (n + 1) ∷ [] = range_more 1 n ∙ ap (λ k. range_with_len 1 n ++ k ∷ []) here in
    let flat : flat_map why (range_with_len 1 (n + 1)) ≡ flat_map why (range_with_len 1 n) ++ why (n + 1) =
    ap (flat_map why) more ∙ flat_map-append why (range_with_len 1 n) ((n + 1) ∷ []) ∙ ap (λ l. flat_map why (range_with_len 1 n) ++ l) (append-nil (why (n + 1))) in
    now ∙ ap (λ l. with_path_ends l (why (n + 1))) was ∙ path_ended_both es0 (flat_map why (range_with_len 1 n)) (why (n + 1)) ∙ ap (with_path_ends es0) (sym flat)

-- the same of a query
pub query_step : {X : Type 0} (f0 f : Folders) (rs0 rs after : List Request) (ask : X → Request) (xs : List X) (i : ℕ) (x : X)
    → i < length xs → x ≡ get_or xs i x → f ≡ f0 → rs ≡ with_needed f0 rs0 (map ask (take i xs)) → after ≡ with_needed f rs (ask x ∷ [])
    → after ≡ with_needed f0 rs0 (map ask (take (i + 1) xs))
query_step f0 f rs0 rs after ask xs i x lt is same was now =
    now ∙ ap (λ g. with_needed g rs (ask x ∷ [])) same ∙ ap (λ l. with_needed f0 l (ask x ∷ [])) was ∙ one_query_more f0 rs0 ask xs i x lt is
