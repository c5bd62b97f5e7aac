-- A member's place in a header's own set tells whether it is a commit voter, and what a set lends to the header.
use Rattle.std.proofs.Common.{◌≡◌, ◌≢◌, ℕ, zero, suc, ◌+◌, ◌<◌, ◌≤◌, Bool, true, false, cond, ◌||◌, List, [], ◌∷◌, Some, None, length, get_or, map, filter, sum_by, position, refl, sym, ap, ◌∙◌, inl, inr, arith, zero-add, take}
use Rattle.std.specs.List.{list_any, zip}
use Rattle.std.proofs.lemmas.Bool.{cases_Bool, cases_lt}
use Rattle.std.proofs.lemmas.List.{get_or_default, take_all}
use Rattle.std.proofs.lemmas.List.Quantifiers.{position-Some}
use Rattle.std.proofs.lemmas.List.Sums.{sum_by-cons, sum_by-le-sum_by, sum_by_more, sum_by_more_le_part}
use Rattle.std.proofs.lemmas.Slice.Eq.{bytes_eq-Decides}
use Rattle.rb_valset.specs.Validator.{Member, address_of, has_address, max_power}
use Rattle.rb_valset.specs.ValidatorSet.{total_of, DistinctAddresses, IsValidatorSet}
use Rattle.rb_book.specs.Header.{Header, is_commit}
use Rattle.rb_book.proofs.Lists.{none_at}
use Rattle.rb_book.specs.declared.vote.Vote.{Vote}
use Rattle.rb_step.specs.SignedPower.{commit_voters, is_among, signed_power}

-- the elements whose vote is a commit
abbrev voters : {X : Type 0} → List X → List Vote → List X
voters {X} xs vs = map (λ (p : X × Vote). p.0) (filter (λ (p : X × Vote). is_commit p.1) (zip xs vs))

any_voter-cons : {X : Type 0} (p : X → Bool) (x : X) (v : Vote) (xs : List X) (vs : List Vote) → list_any p (voters (x ∷ xs) (v ∷ vs)) ≡ cond (is_commit v) (p x || list_any p (voters xs vs)) (list_any p (voters xs vs))
any_voter-cons {X} p x v xs vs =
    elim (is_commit v) as (λ (b : Bool). list_any p (map (λ (q : X × Vote). q.0) (cond b ((x, v) ∷ filter (λ (q : X × Vote). is_commit q.1) (zip xs vs)) (filter (λ (q : X × Vote). is_commit q.1) (zip xs vs)))) ≡ cond b (p x || list_any p (voters xs vs)) (list_any p (voters xs vs))) [
      | true ↦ refl
      | false ↦ refl
    ]

passed_over : (b c r : Bool) → c ≡ false → r ≡ false → cond b (c || r) r ≡ false
passed_over true c r is none = cc
passed_over false c r is none = none

-- no element passes
pub no_voter : {X : Type 0} (p : X → Bool) (xs : List X) (vs : List Vote) → ((k : ℕ) (d : X) → k < length xs → p (get_or xs k d) ≡ false) → list_any p (voters xs vs) ≡ false
no_voter p [] vs none = refl
no_voter p (x ∷ xs) [] none = refl
no_voter p (x ∷ xs) (v ∷ vs) none =
    any_voter-cons p x v xs vs ∙ passed_over (is_commit v) (p x) _ (none 0 x (omega arith)) (no_voter p xs vs (λ k d lt. none (suc k) d (omega arith)))

first_voter : (b c r : Bool) → c ≡ true → r ≡ false → cond b (c || r) r ≡ b
first_voter true c r is none = ap (λ (t : Bool). t || r) is
first_voter false c r is none = none

later_voter : (b c r : Bool) → c ≡ false → cond b (c || r) r ≡ r
later_voter true c r is = ap (λ (t : Bool). t || r) is
later_voter false c r is = refl

-- one element alone passes
pub one_voter : {X : Type 0} (p : X → Bool) (xs : List X) (vs : List Vote) (k : ℕ) (d : X) (v : Vote) → length vs ≡ length xs → k < length xs → p (get_or xs k d) ≡ true → ((j : ℕ) (e : X) → j < length xs → j ≢ k → p (get_or xs j e) ≡ false) → list_any p (voters xs vs) ≡ is_commit (get_or vs k v)
one_voter p [] vs k d v same lt here others = absurd (omega arith)
one_voter p (x ∷ xs) [] k d v same lt here others = absurd (omega arith)
one_voter p (x ∷ xs) (w ∷ vs) zero d v same lt here others =
    any_voter-cons p x w xs vs ∙ first_voter (is_commit w) (p x) _ here (no_voter p xs vs (λ j e below. others (suc j) e (omega arith) (omega arith)))
one_voter p (x ∷ xs) (w ∷ vs) (suc k) d v same lt here others =
    any_voter-cons p x w xs vs ∙ later_voter (is_commit w) (p x) _ (others 0 x (omega arith) (omega arith)) ∙ one_voter p xs vs k d v (omega arith) (omega arith) here (λ j e below apart. others (suc j) e (omega arith) (let n : j ≢ k = apart in omega arith))

-- members at two places have different addresses
apart : (ms : List Member) (j k : ℕ) (d : Member) → DistinctAddresses ms → j < length ms → k < length ms → j ≢ k → address_of (get_or ms j d).key ≢ address_of (get_or ms k d).key
apart ms j k d distinct below lt ne = elim (cases_lt j k) [
  | inl less ↦ distinct j k d less lt
  | inr more ↦ λ e. distinct k j d (omega arith) below (sym e)
]

-- no other member has the address of the one at a place
others_differ : (a : List ℕ) (ms : List Member) (k : ℕ) (d : Member) → DistinctAddresses ms → k < length ms → address_of (get_or ms k d).key ≡ a → (j : ℕ) (e : Member) → j < length ms → j ≢ k → has_address a (get_or ms j e) ≡ false
others_differ a ms k d distinct lt is j e below ne = elim (cases_Bool (has_address a (get_or ms j e))) [
  | inl same ↦ absurd (apart ms j k d distinct below lt ne (ap (λ (m : Member). address_of m.key) (get_or_default ms j d e below) ∙ (bytes_eq-Decides _ _).0 same ∙ sym is))
  | inr differ ↦ differ
]

-- the vote at the place of the member with the address
pub voter_at : (a : List ℕ) (own : List Member) (h : Header) (k : ℕ) (d : Member) (v : Vote) → DistinctAddresses own → length h.votes ≡ length own → k < length own → has_address a (get_or own k d) ≡ true → list_any (has_address a) (commit_voters own h) ≡ is_commit (get_or h.votes k v)
voter_at a own h k d v distinct same lt here =
    one_voter (has_address a) own h.votes k d v same lt here (others_differ a own k d distinct lt ((bytes_eq-Decides _ _).0 here))

-- the power that a member lends to a header
abbrev pub lent : List Member → Member → ℕ
lent commits m = cond (is_among commits m) m.power 0

pub lent-le : (commits : List Member) (m : Member) → lent commits m ≤ m.power
lent-le commits m = elim (is_among commits m) as (λ (b : Bool). cond b m.power 0 ≤ m.power) [ true ↦ omega arith | false ↦ omega arith ]

pick_or_skip : (m : Member) (ms : List Member) (b : Bool) → total_of (cond b (m ∷ ms) ms) ≡ cond b m.power 0 + total_of ms
pick_or_skip m ms true = sum_by-cons (λ (x : Member). x.power) m ms
pick_or_skip m ms false = sym (zero-add (total_of ms))

total-filter : (p : Member → Bool) (ms : List Member) → total_of (filter p ms) ≡ sum_by (λ m. cond (p m) m.power 0) ms
total-filter p [] = refl
total-filter p (m ∷ ms) =
    pick_or_skip m (filter p ms) (p m) ∙ ap (λ (n : ℕ). cond (p m) m.power 0 + n) (total-filter p ms) ∙ sym (sum_by-cons (λ (x : Member). cond (p x) x.power 0) m ms)

pub signed_power-lent : (trusted own : List Member) (h : Header) → signed_power trusted own h ≡ sum_by (lent (commit_voters own h)) trusted
unfolding signed_power
signed_power-lent trusted own h = total-filter (is_among (commit_voters own h)) trusted

pub signed_power-le : (trusted own : List Member) (h : Header) → signed_power trusted own h ≤ total_of trusted
signed_power-le trusted own h = omega (arith, signed_power-lent trusted own h, sum_by-le-sum_by (lent (commit_voters own h)) (λ (m : Member). m.power) trusted (lent-le (commit_voters own h)))

-- what was lent so far and one power more are within the total
pub lent_fits : (commits ms items : List Member) (i : ℕ) (m : Member) → items ≡ ms → IsValidatorSet ms → i < length items → m ≡ get_or items i m → sum_by (lent commits) (take i items) + m.power ≤ max_power
lent_fits commits ms items i m same valid lt is =
    let part = sum_by_more_le_part (lent commits) (λ (x : Member). x.power) items i m lt (lent-le commits) in
    let here : m.power ≡ (get_or items i m).power = ap (λ (x : Member). x.power) is in
    let whole : total_of items ≡ total_of ms = ap (λ (xs : List Member). total_of xs) same in
    omega (arith, part, here, whole, valid.total)

-- in its own set, a member lends its power where the vote at its place is a commit
pub lent_more : (own : List Member) (h : Header) (items : List Member) (votes : List Vote) (i : ℕ) (m : Member) (v : Vote) (commits : Bool) → items ≡ own → votes ≡ h.votes → DistinctAddresses own → length h.votes ≡ length own → i < length items → m ≡ get_or items i m → commits ≡ is_commit (get_or votes i v) → sum_by (lent (commit_voters own h)) (take (i + 1) items) ≡ sum_by (lent (commit_voters own h)) (take i items) + cond commits m.power 0
lent_more own h items votes i m v commits same same_votes distinct lengths lt is vote =
    let place : m ≡ get_or own i m = is ∙ ap (λ (xs : List Member). get_or xs i m) same in
    let within : i < length own = (let e = ap (λ (xs : List Member). length xs) same in omega arith) in
    let itself : has_address (address_of m.key) (get_or own i m) ≡ true = (bytes_eq-Decides _ _).1 (ap (λ (x : Member). address_of x.key) (sym place)) in
    let voter : is_among (commit_voters own h) m ≡ commits = voter_at (address_of m.key) own h i m v distinct lengths within itself ∙ ap (λ (vs : List Vote). is_commit (get_or vs i v)) (sym same_votes) ∙ sym vote in
    sum_by_more (lent (commit_voters own h)) items i m lt
    ∙ ap (λ (x : Member). sum_by (lent (commit_voters own h)) (take i items) + lent (commit_voters own h) x) (sym is)
    ∙ ap (λ (b : Bool). sum_by (lent (commit_voters own h)) (take i items) + cond b m.power 0) voter

-- what all members lend
pub lent_all : (trusted own : List Member) (h : Header) (items : List Member) (n : ℕ) → items ≡ trusted → length items ≤ n → sum_by (lent (commit_voters own h)) (take n items) ≡ signed_power trusted own h
lent_all trusted own h items n same whole =
    ap (sum_by (lent (commit_voters own h))) (take_all n items whole ∙ same) ∙ sym (signed_power-lent trusted own h)

-- whether a member is among the commit voters, by the place in the header's own set of its address
pub voter_found : (own : List Member) (h : Header) (m : Member) (place : ℕ) (v : Vote) → IsValidatorSet own → length h.votes ≡ length own → position (has_address (address_of m.key)) own ≡ Some place → is_commit (get_or h.votes place v) ≡ is_among (commit_voters own h) m
voter_found own h m place v valid same found =
    let at = position-Some (has_address (address_of m.key)) own place m found in
    sym (voter_at (address_of m.key) own h place m v valid.distinct same at.0 at.1)

pub voter_missing : (own : List Member) (h : Header) (m : Member) → position (has_address (address_of m.key)) own ≡ None → is_among (commit_voters own h) m ≡ false
voter_missing own h m missing = no_voter (has_address (address_of m.key)) own h.votes (none_at (has_address (address_of m.key)) own missing)
