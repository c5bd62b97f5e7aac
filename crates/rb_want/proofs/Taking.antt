-- What an element more brings.
use Rattle.std.proofs.Common.{◌≡◌, ℕ, ◌+◌, ◌<◌, List, [], ◌∷◌, ◌++◌, append-nil, length, get_or, take, refl, ap, sym, ◌∙◌}
use Rattle.std.specs.Prelude.{None, fold}
use Rattle.std.specs.List.{flat_map}
use Rattle.std.proofs.lemmas.List.{take_more}
use Rattle.std.proofs.lemmas.List.Concat.{flat_map-append}
use Rattle.std.proofs.lemmas.List.Sums.{fold-append}
use Rattle.rb_want_requests.specs.declared.content.Content.{Content}
use Rattle.rb_want.specs.Clients.{later_state, later_status, state_in, states_of, status_in, stored_in}

next : {X : Type 0} (xs : List X) (i : ℕ) (x : X) → i < length xs → x ≡ get_or xs i x → take (i + 1) xs ≡ take i xs ++ x ∷ []
next xs i x small is = take_more xs i x small ∙ ap (λ y. take i xs ++ y ∷ []) (sym is)

-- an element more brings what is in it
pub taken : {X A : Type 0} (f : X → List A) (xs : List X) (i : ℕ) (x : X)
    → i < length xs → x ≡ get_or xs i x → flat_map f (take (i + 1) xs) ≡ flat_map f (take i xs) ++ f x
taken f xs i x small is =
    ap (flat_map f) (next xs i x small is) ∙ flat_map-append f (take i xs) (x ∷ []) ∙ ap (λ l. flat_map f (take i xs) ++ l) (append-nil (f x))

-- an element more is a step more
folded : {X B : Type 0} (f : B → X → B) (b : B) (xs : List X) (i : ℕ) (x : X)
    → i < length xs → x ≡ get_or xs i x → fold f b (take (i + 1) xs) ≡ f (fold f b (take i xs)) x
folded f b xs i x small is = ap (fold f b) (next xs i x small is) ∙ fold-append f b (take i xs) (x ∷ [])

pub state_more : (there : List Content) (i : ℕ) (c : Content)
    → i < length there → c ≡ get_or there i c → state_in (take (i + 1) there) ≡ later_state (state_in (take i there)) c
unfolding state_in
state_more there i c small is = folded later_state None there i c small is

pub state_none : state_in [] ≡ None
unfolding state_in
state_none = refl

pub status_more : (there : List Content) (i : ℕ) (c : Content)
    → i < length there → c ≡ get_or there i c → status_in (take (i + 1) there) ≡ later_status (status_in (take i there)) c
unfolding status_in
status_more there i c small is = folded later_status None there i c small is

pub status_none : status_in [] ≡ None
unfolding status_in
status_none = refl

pub stored_more : (revision : ℕ) (there : List Content) (i : ℕ) (c : Content)
    → i < length there → c ≡ get_or there i c → stored_in revision (take (i + 1) there) ≡ stored_in revision (take i there) ++ states_of revision c
unfolding stored_in
stored_more revision there i c small is = taken (states_of revision) there i c small is

pub stored_none : (revision : ℕ) → stored_in revision [] ≡ []
unfolding stored_in
stored_none revision = refl

pub ruleset taking = (taken, state_more, state_none, status_more, status_none, stored_more, stored_none)
