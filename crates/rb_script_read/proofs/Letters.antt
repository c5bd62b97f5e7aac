-- The votes that letters write.
use Rattle.std.proofs.Common.{◌≡◌, ℕ, zero, suc, ◌+◌, ◌<◌, Bool, true, false, not, ◌||◌, List, [], ◌∷◌, ◌++◌, Option, Some, None, is_some, Ok, length, get_or, set, take, refl, sym, ap, ◌∙◌, inl, inr, arith}
use Rattle.std.specs.List.{list_any}
use Rattle.std.proofs.lemmas.Bool.{cases_lt, false≢true}
use Rattle.std.proofs.lemmas.List.{get_or-set_same, get_or-set_other}
use Rattle.rb_book.specs.declared.vote.Vote.{Vote}
use Rattle.rb_book.specs.declared.vote.Vote.TheVariants.{Commit}
use Rattle.rb_script_toml.specs.Faults.{◌>>=◌, fault}
use Rattle.rb_script_toml.specs.declared.fault.FaultName.TheVariants.{BadVotes}
use Rattle.rb_script_read.specs.Events.{vote_of, known_vote, votes_after}

abbrev pub is_other : ℕ → Bool
is_other letter = not (is_some (vote_of letter))

append-nil : {X : Type 0} (xs : List X) → xs ++ [] ≡ xs
append-nil [] = refl
append-nil (x ∷ xs) = ap (λ ys. x ∷ ys) (append-nil xs)

append-one : {X : Type 0} (xs ys : List X) (x : X) → (xs ++ x ∷ []) ++ ys ≡ xs ++ x ∷ ys
append-one [] ys x = refl
append-one (z ∷ xs) ys x = ap (λ zs. z ∷ zs) (append-one xs ys x)

-- letters that are votes' are read as these
pub votes_read : (path : List ℕ) (before : List Vote) (ls : List ℕ) (vs : List Vote) → length vs ≡ length ls → ((k : ℕ) → k < length ls → vote_of (get_or ls k 0) ≡ Some (get_or vs k Commit)) → votes_after path before ls ≡ Ok (before ++ vs)
votes_read path before [] [] e is = ap (λ (vs : List Vote). Ok vs) (sym (append-nil before))
votes_read path before [] (v ∷ vs) e is = absurd (omega (arith, e))
votes_read path before (l ∷ ls) [] e is = absurd (omega (arith, e))
votes_read path before (l ∷ ls) (v ∷ vs) e is =
    ap (λ (o : Option Vote). known_vote path o >>= λ w. votes_after path (before ++ w ∷ []) ls) (is 0 (omega arith))
    ∙ votes_read path (before ++ v ∷ []) ls vs (omega (arith, e)) (λ k lt. is (suc k) (omega arith))
    ∙ ap (λ (ws : List Vote). Ok ws) (append-one before vs v)

-- where there is another, none is read
pub votes_refused : (path : List ℕ) (before : List Vote) (ls : List ℕ) → list_any is_other ls ≡ true → votes_after path before ls ≡ fault BadVotes path
votes_refused path before [] some = absurd (false≢true some)
votes_refused path before (l ∷ ls) some = by (vote_of l) refl (λ v rest. votes_refused path (before ++ v ∷ []) ls rest)
  where
    by : (o : Option Vote) → vote_of l ≡ o → ((v : Vote) → list_any is_other ls ≡ true → votes_after path (before ++ v ∷ []) ls ≡ fault BadVotes path) → votes_after path before (l ∷ ls) ≡ fault BadVotes path
    by (Some v) e later =
        ap (λ (o : Option Vote). known_vote path o >>= λ w. votes_after path (before ++ w ∷ []) ls) e
        ∙ later v (sym (ap (λ (o : Option Vote). not (is_some o) || list_any is_other ls) e) ∙ some)
    by None e later = ap (λ (o : Option Vote). known_vote path o >>= λ w. votes_after path (before ++ w ∷ []) ls) e

-- where there is none, each is a vote's
pub no_other : (ls : List ℕ) (k : ℕ) → list_any is_other ls ≡ false → k < length ls → is_some (vote_of (get_or ls k 0)) ≡ true
no_other [] k none lt = absurd (omega arith)
no_other (l ∷ ls) zero none lt = by (is_some (vote_of l)) none
  where
    by : (b : Bool) → (not b || list_any is_other ls) ≡ false → b ≡ true
    by true e = refl
    by false e = absurd (false≢true (sym e))
no_other (l ∷ ls) (suc k) none lt = no_other ls k (rest (is_other l) none) (omega arith)
  where
    rest : (b : Bool) → (b || list_any is_other ls) ≡ false → list_any is_other ls ≡ false
    rest true e = absurd (false≢true (sym e))
    rest false e = e

-- one letter more
pub other_more : (ls : List ℕ) (i : ℕ) → i < length ls → list_any is_other (take (i + 1) ls) ≡ (list_any is_other (take i ls) || is_other (get_or ls i 0))
other_more [] i lt = absurd (omega arith)
other_more (l ∷ ls) zero lt = or_right (is_other l)
  where
    or_right : (a : Bool) → (a || false) ≡ a
    or_right true = refl
    or_right false = refl
other_more (l ∷ ls) (suc i) lt =
    let n : suc i + 1 ≡ suc (i + 1) = omega arith in
    rw n (ap (λ (b : Bool). is_other l || b) (other_more ls i (omega arith)) ∙ later (is_other l) (list_any is_other (take i ls)) (is_other (get_or ls i 0)))
  where
    later : (a b c : Bool) → (a || (b || c)) ≡ ((a || b) || c)
    later true b c = refl
    later false b c = refl

-- one vote more
pub vote_set : (ls : List ℕ) (vs new : List Vote) (n : ℕ) (v : Vote) → n < length vs → new ≡ set vs n v → vote_of (get_or ls n 0) ≡ Some v → ((k : ℕ) → k < n → vote_of (get_or ls k 0) ≡ Some (get_or vs k Commit))
    → (k : ℕ) → k < n + 1 → vote_of (get_or ls k 0) ≡ Some (get_or new k Commit)
vote_set ls vs new n v within e here so_far k lt = elim (cases_lt k n) [
  | inl less ↦ so_far k less ∙ ap (λ (w : Vote). Some w) (sym (ap (λ (ws : List Vote). get_or ws k Commit) e ∙ get_or-set_other vs n k v Commit (omega arith)))
  | inr more ↦
      let at : k ≡ n = omega (arith, more, lt) in
      ap (λ (j : ℕ). vote_of (get_or ls j 0)) at ∙ here
      ∙ ap (λ (w : Vote). Some w) (sym (ap (λ (ws : List Vote). get_or ws k Commit) e ∙ ap (λ (j : ℕ). get_or (set vs n v) j Commit) at ∙ get_or-set_same vs n v Commit within))
]
