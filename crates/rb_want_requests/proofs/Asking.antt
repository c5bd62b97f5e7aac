-- Rounds of requests.
use Rattle.std.proofs.Common.{◌≡◌, List, [], ◌∷◌, Bool, true, false, All, get_or, refl, sym, ◌∙◌, arith}
use Rattle.std.proofs.lemmas.Bool.{true≢false}
use Rattle.std.proofs.lemmas.List.Elements.{All-cons, All-nil}
use Rattle.std.proofs.lemmas.List.Kept.{AllPairs-cons}
use Rattle.rb_want_requests.specs.Requests.{is_new, is_same}
use Rattle.rb_want_requests.specs.declared.content.Folders.{Folders}
use Rattle.rb_want_requests.specs.declared.request.Request.{Request}
use Rattle.rb_want_requests.specs.Asking.{AreOthers, AreRounds, NoneTwice, Round}
use Rattle.rb_want_requests.proofs.Same.{alike}
use Rattle.rb_want_requests.proofs.Staying.{stays}

-- a request that isn't new in a round is new in no later one
later : (r : Round) (rs : List Round) (q : Request) → is_new r.folders q ≡ false → AreRounds (r ∷ rs) → All (λ s. is_new s.folders q ≡ false) rs
later r [] q is rounds = All-nil (λ s. is_new s.folders q ≡ false)
later r (s ∷ rs) q is rounds =
    let now : is_new s.folders q ≡ false = stays r.folders s.folders q rounds.1.0.0 is in
    All-cons (λ t. is_new t.folders q ≡ false) s rs now (later s rs q now rounds.1.1)

-- each request is new in its round
all_new : (rounds : List Round) → AreRounds rounds → All (λ s. All (λ q. is_new s.folders q ≡ true) s.requests) rounds
all_new [] rounds = All-nil (λ s. All (λ q. is_new s.folders q ≡ true) s.requests)
all_new (r ∷ []) rounds =
    All-cons (λ s. All (λ q. is_new s.folders q ≡ true) s.requests) r [] rounds (All-nil (λ s. All (λ q. is_new s.folders q ≡ true) s.requests))
all_new (r ∷ (s ∷ rs)) rounds = All-cons (λ t. All (λ q. is_new t.folders q ≡ true) t.requests) r (s ∷ rs) rounds.0 (all_new (s ∷ rs) rounds.1.1)

-- one that is new isn't the same as one that isn't
apart : (f : Folders) (p q : Request) → is_new f p ≡ true → is_new f q ≡ false → is_same p q ≡ false
apart f p q new old = go (is_same p q) refl
  where
    go : (b : Bool) → is_same p q ≡ b → is_same p q ≡ false
    go true e = absurd (true≢false (sym new ∙ alike f p q e ∙ old))
    go false e = e

-- no request of a round is wanted in a later one
others : (r s : Round) (rs : List Round) → AreRounds (r ∷ (s ∷ rs)) → All (AreOthers r) (s ∷ rs)
others r s rs rounds = λ k d small m q within n p inside.
    let at = get_or (s ∷ rs) k d in
    let old : is_new s.folders (get_or r.requests m q) ≡ false = rounds.1.0.1 m q within in
    let none : All (λ t. is_new t.folders (get_or r.requests m q) ≡ false) (s ∷ rs) =
    All-cons (λ t. is_new t.folders (get_or r.requests m q) ≡ false) s rs old (later s rs (get_or r.requests m q) old rounds.1.1) in
    apart at.folders (get_or at.requests n p) (get_or r.requests m q) (all_new (s ∷ rs) rounds.1.1 k d small n p inside) (none k d small)

pub none_twice : NoneTwice
none_twice [] rounds = λ i j d less small. absurd (omega (arith, small))
none_twice (r ∷ []) rounds = AllPairs-cons AreOthers r [] (All-nil (AreOthers r)) (none_twice [] tt)
none_twice (r ∷ (s ∷ rs)) rounds = AllPairs-cons AreOthers r (s ∷ rs) (others r s rs rounds) (none_twice (s ∷ rs) rounds.1.1)
