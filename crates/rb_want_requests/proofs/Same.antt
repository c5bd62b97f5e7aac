-- Requests that are the same are answered alike.
use Rattle.std.proofs.Common.{◌≡◌, ◌==◌, ◌&&◌, ℕ, Bool, true, false, Option, Some, None, refl, sym, ap, ◌∙◌}
use Rattle.std.specs.Prelude.{if◌then◌else◌, slice_get}
use Rattle.std.proofs.lemmas.Bool.{eqb-true, true≢false}
use Rattle.rb_want_requests.specs.Requests.{folder_of, is_new, is_new_at, is_new_in, is_of_same, is_of_same_place, is_same, key_of, place_key}
use Rattle.rb_want_requests.specs.declared.content.Folder.{Folder}
use Rattle.rb_want_requests.specs.declared.content.Folders.{Folders}
use Rattle.rb_want_requests.specs.declared.request.Owner.{Owner}
use Rattle.rb_want_requests.specs.declared.request.Owner.TheVariants as owners
use Rattle.rb_want_requests.specs.declared.request.Query.{Query}
use Rattle.rb_want_requests.specs.declared.request.Query.TheVariants as queries
use Rattle.rb_want_requests.specs.declared.request.Request.{Request}

-- the folder of what a key tells
abbrev folder_at : Folders → ℕ → ℕ → Option Folder
folder_at f kind place =
    if kind == 0 then slice_get f.chains.items place
    else if kind == 1 then slice_get f.clients.items place
    else slice_get f.paths.items place

folder_by : (f : Folders) (o : Owner) → folder_of f o ≡ folder_at f (place_key o).0 (place_key o).1
folder_by f (owners.Chain place) = refl
folder_by f (owners.Client place id) = refl
folder_by f (owners.Path place id end) = refl

-- a query with a key
abbrev query_at : ℕ → ℕ → ℕ → Query
query_at kind number page =
    if kind == 0 then queries.ClientState
    else if kind == 1 then queries.ConsensusStates number
    else if kind == 2 then queries.Status
    else if kind == 3 then queries.Commit number
    else if kind == 4 then queries.Validators number page 0
    else if kind == 5 then queries.Commitments number
    else if kind == 6 then queries.Unreceived number
    else if kind == 7 then queries.Acknowledgements number
    else if kind == 8 then queries.Sent number
    else if kind == 9 then queries.Received number
    else queries.AckWritten number

new_by : (f : Folder) (q : Query) → is_new_in f q ≡ is_new_in f (query_at (key_of q).0 (key_of q).1 (key_of q).2)
new_by f queries.ClientState = refl
new_by f (queries.ConsensusStates page) = refl
new_by f queries.Status = refl
new_by f (queries.Commit height) = refl
new_by f (queries.Validators height page size) = refl
new_by f (queries.Commitments page) = refl
new_by f (queries.Unreceived part) = refl
new_by f (queries.Acknowledgements part) = refl
new_by f (queries.Sent sequence) = refl
new_by f (queries.Received sequence) = refl
new_by f (queries.AckWritten sequence) = refl

two : (a b : Bool) → a && b ≡ true → (a ≡ true) × (b ≡ true)
two true true is = (refl, refl)
two true false is = absurd (true≢false (sym is))
two false b is = absurd (true≢false (sym is))

three : (a b c : Bool) → a && b && c ≡ true → (a ≡ true) × ((b ≡ true) × (c ≡ true))
three true true true is = (refl, (refl, refl))
three true true false is = absurd (true≢false (sym is))
three true false c is = absurd (true≢false (sym is))
three false b c is = absurd (true≢false (sym is))

new_alike : (o : Option Folder) (p q : Query) → is_of_same p q ≡ true → is_new_at o p ≡ is_new_at o q
new_alike None p q is = refl
new_alike (Some f) p q is =
    let key = three ((key_of p).0 == (key_of q).0) ((key_of p).1 == (key_of q).1) ((key_of p).2 == (key_of q).2) is in
    let kind : (key_of p).0 ≡ (key_of q).0 = eqb-true _ _ key.0 in
    let number : (key_of p).1 ≡ (key_of q).1 = eqb-true _ _ key.1.0 in
    let page : (key_of p).2 ≡ (key_of q).2 = eqb-true _ _ key.1.1 in
    new_by f p
    ∙ (λ k. is_new_in f (query_at (kind k) (number k) (page k)))
    ∙ sym (new_by f q)

folder_alike : (f : Folders) (o p : Owner) → is_of_same_place o p ≡ true → folder_of f o ≡ folder_of f p
folder_alike f o p is =
    let key = two ((place_key o).0 == (place_key p).0) ((place_key o).1 == (place_key p).1) is in
    folder_by f o
    ∙ (λ k. folder_at f (eqb-true (place_key o).0 (place_key p).0 key.0 k) (eqb-true (place_key o).1 (place_key p).1 key.1 k))
    ∙ sym (folder_by f p)

-- of two requests that are the same both are new, or neither is
pub alike : (f : Folders) (p q : Request) → is_same p q ≡ true → is_new f p ≡ is_new f q
alike f p q is =
    let both = two (is_of_same_place p.owner q.owner) (is_of_same p.query q.query) is in
    ap (λ o. is_new_at o p.query) (folder_alike f p.owner q.owner both.0) ∙ new_alike (folder_of f q.owner) p.query q.query both.1
