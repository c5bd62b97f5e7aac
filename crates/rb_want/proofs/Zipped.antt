-- Lists that are made beside others.
use Rattle.std.proofs.Common.{◌≡◌, ℕ, ◌+◌, ◌<◌, ◌≤◌, List, [], ◌∷◌, ◌++◌, Some, None, refl, length, get_or, take, ap, sym, subst, zero-add, ◌∙◌}
use Rattle.std.specs.Prelude.{fold}
use Rattle.std.specs.List.{AllZip, enumerate_from, flat_map}
use Rattle.std.proofs.lemmas.List.FromFn.{get_or-enumerate_from, length-enumerate_from}
use Rattle.std.proofs.lemmas.List.{take_more, take_all}
use Rattle.std.proofs.lemmas.List.Sums.{fold-append}
use Rattle.rb_want_requests.specs.declared.content.Folders.{Folders}
use Rattle.rb_want_requests.specs.declared.reason.End.{End}
use Rattle.rb_want_requests.specs.declared.reason.PathEnd.{PathEnd}
use Rattle.rb_want_requests.specs.declared.request.Request.{Request}
use Rattle.rb_import_answers.specs.declared.client.ConsensusState.{ConsensusState}
use Rattle.rb_import_setup.specs.declared.setup.ClientSetup.{ClientSetup}
use Rattle.rb_import_setup.specs.declared.setup.PathSetup.{PathSetup}
use Rattle.rb_import_setup.specs.declared.setup.ImportSetup.{ImportSetup}
use Rattle.rb_want.specs.Adding.{Outcome, Told, no_outcome, nothing_told, with_ends, with_needed, with_outcome, with_path_ends}
use Rattle.rb_want.specs.Needs.{AreStoredBy, IsOutcome, IsOutcomeAt, IsOutcomeIn, Tracking, tracking_at}
use Rattle.rb_want.specs.Paths.{needs_at}
use Rattle.rb_want.specs.Wanted.{AreAsked, path_needs_of}
use Rattle.rb_want.proofs.Adding.{added_both, added_none, ended_both, ended_none, more_step, path_end_step}

zipped_push : {A B : Type 0} (R : A → B → Type 0) (xs : List A) (ys : List B) (x : A) (y : B) → AllZip R xs ys → R x y → AllZip R (xs ++ x ∷ []) (ys ++ y ∷ [])
zipped_push R [] [] x y all r = (r, tt)
zipped_push R [] (b ∷ ys) x y all r = absurd all
zipped_push R (a ∷ xs) [] x y all r = absurd all
zipped_push R (a ∷ xs) (b ∷ ys) x y all r = (all.0, zipped_push R xs ys x y all.1 r)

zipped_more : {A B : Type 0} (R : A → B → Type 0) (xs : List A) (i : ℕ) (x : A) (ys : List B) (y : B) → i < length xs → x ≡ get_or xs i x
    → R x y → AllZip R (take i xs) ys → AllZip R (take (i + 1) xs) (ys ++ y ∷ [])
zipped_more R xs i x ys y lt is r all =
    let more : take (i + 1) xs ≡ take i xs ++ x ∷ [] = take_more xs i x lt ∙ ap (λ z. take i xs ++ z ∷ []) (sym is) in
    subst (λ zs. AllZip R zs (ys ++ y ∷ [])) (sym more) (zipped_push R (take i xs) ys x y all r)

-- the element at a place, with the place
at_place : {A : Type 0} (xs : List A) (i : ℕ) (x : A) → i < length xs → x ≡ get_or xs i x → (i, x) ≡ get_or (enumerate_from 0 xs) i (i, x)
at_place xs i x lt is = sym (get_or-enumerate_from 0 xs i (i, x) lt ∙ (λ k. (zero-add i k, sym is k)))

within : {A : Type 0} (xs : List A) (i : ℕ) → i < length xs → i < length (enumerate_from 0 xs)
within xs i lt = rw (length-enumerate_from 0 xs) lt

-- the outcome for one more client is added to those of the ones before
pub client_step : {A : Type 0} (R : ℕ × A → Outcome → Type 0) (f0 f : Folders) (w0 w after : Told) (xs : List A) (i : ℕ) (x : A)
    → i < length xs → x ≡ get_or xs i x → f ≡ f0
    → ((outcomes : List Outcome) × AllZip R (take i (enumerate_from 0 xs)) outcomes × (w ≡ fold (with_outcome f0) w0 outcomes))
    → ((o : Outcome) × R (i, x) o × (after ≡ with_outcome f w o))
    → (outcomes : List Outcome) × AllZip R (take (i + 1) (enumerate_from 0 xs)) outcomes × (after ≡ fold (with_outcome f0) w0 outcomes)
client_step R f0 f w0 w after xs i x lt is same (outcomes, all, was) (o, r, now) = (
  outcomes ++ o ∷ [],
  zipped_more R (enumerate_from 0 xs) i (i, x) outcomes o (within xs i lt) (at_place xs i x lt is) r all,
  now ∙ ap (λ g. with_outcome g w o) same ∙ ap (λ v. with_outcome f0 v o) was ∙ sym (fold-append (with_outcome f0) w0 outcomes (o ∷ [])),
)

-- the outcomes for all clients
pub clients_all : {A : Type 0} (R : ℕ × A → Outcome → Type 0) (f : Folders) (w0 w : Told) (xs : List A) (i : ℕ) → length xs ≤ i
    → ((outcomes : List Outcome) × AllZip R (take i (enumerate_from 0 xs)) outcomes × (w ≡ fold (with_outcome f) w0 outcomes))
    → (outcomes : List Outcome) × AllZip R (enumerate_from 0 xs) outcomes × (w ≡ fold (with_outcome f) w0 outcomes)
clients_all R f w0 w xs i le (outcomes, all, is) =
    (outcomes, subst (λ zs. AllZip R zs outcomes) (take_all i (enumerate_from 0 xs) (rw (length-enumerate_from 0 xs) le)) all, is)

-- the requests of outcomes in turn are what they need together
folded_requests : (f : Folders) (w : Told) (os : List Outcome) → (fold (with_outcome f) w os).requests ≡ with_needed f w.requests (flat_map (λ o. o.needed) os)
unfolding with_outcome
folded_requests f w [] = sym (added_none f w.requests)
folded_requests f w (o ∷ os) = folded_requests f (with_outcome f w o) os ∙ added_both f w.requests o.needed (flat_map (λ p. p.needed) os)

folded_ends : (f : Folders) (w : Told) (os : List Outcome) → (fold (with_outcome f) w os).ends ≡ with_ends w.ends (flat_map (λ o. o.ends) os)
unfolding with_outcome
folded_ends f w [] = sym (ended_none w.ends)
folded_ends f w (o ∷ os) = folded_ends f (with_outcome f w o) os ∙ ended_both w.ends o.ends (flat_map (λ p. p.ends) os)

all_ends : (es : List End) → with_ends [] es ≡ es
unfolding with_ends
all_ends es = refl

-- what one more path needs is added to what the ones before need
pub path_step : {A : Type 0} (f0 f : Folders) (rs0 rs after : List Request) (needs : ℕ × A → List Request) (xs : List A) (i : ℕ) (x : A)
    → i < length xs → x ≡ get_or xs i x → f ≡ f0
    → rs ≡ with_needed f0 rs0 (flat_map needs (take i (enumerate_from 0 xs))) → after ≡ with_needed f rs (needs (i, x))
    → after ≡ with_needed f0 rs0 (flat_map needs (take (i + 1) (enumerate_from 0 xs)))
path_step f0 f rs0 rs after needs xs i x lt is same was now =
    more_step f0 f rs0 rs after needs (enumerate_from 0 xs) i (i, x) (within xs i lt) (at_place xs i x lt is) same was now

-- what all paths need
pub paths_all : {A : Type 0} (f0 : Folders) (rs0 rs : List Request) (needs : ℕ × A → List Request) (xs : List A) (i : ℕ) → length xs ≤ i
    → rs ≡ with_needed f0 rs0 (flat_map needs (take i (enumerate_from 0 xs))) → rs ≡ with_needed f0 rs0 (flat_map needs (enumerate_from 0 xs))
paths_all f0 rs0 rs needs xs i le is =
    subst (λ zs. rs ≡ with_needed f0 rs0 (flat_map needs zs)) (take_all i (enumerate_from 0 xs) (rw (length-enumerate_from 0 xs) le)) is

-- why no more is asked for one more path
pub path_end_more : {A : Type 0} (es0 es after : List PathEnd) (why : ℕ × A → List PathEnd) (xs : List A) (i : ℕ) (x : A)
    → i < length xs → x ≡ get_or xs i x
    → es ≡ with_path_ends es0 (flat_map why (take i (enumerate_from 0 xs))) → after ≡ with_path_ends es (why (i, x))
    → after ≡ with_path_ends es0 (flat_map why (take (i + 1) (enumerate_from 0 xs)))
path_end_more es0 es after why xs i x lt is was now =
    path_end_step es0 es after why (enumerate_from 0 xs) i (i, x) (within xs i lt) (at_place xs i x lt is) was now

-- why no more is asked for all paths
pub path_ends_all : {A : Type 0} (es0 es : List PathEnd) (why : ℕ × A → List PathEnd) (xs : List A) (i : ℕ) → length xs ≤ i
    → es ≡ with_path_ends es0 (flat_map why (take i (enumerate_from 0 xs))) → es ≡ with_path_ends es0 (flat_map why (enumerate_from 0 xs))
path_ends_all es0 es why xs i le is =
    subst (λ zs. es ≡ with_path_ends es0 (flat_map why zs)) (take_all i (enumerate_from 0 xs) (rw (length-enumerate_from 0 xs) le)) is

-- where a client's folders aren't there, nothing comes of it
pub none_needed : (setup : ImportSetup) (folders : Folders) (c : ℕ × ClientSetup) → tracking_at setup folders.clients.items folders.chains.items c ≡ None
    → IsOutcomeAt setup folders c no_outcome
none_needed setup folders c none = subst (λ t. IsOutcomeIn t no_outcome) (sym none) refl

-- what comes of its case comes of it
pub case_needed : (setup : ImportSetup) (folders : Folders) (c : ℕ × ClientSetup) (t : Tracking) (stored : List ConsensusState) (o : Outcome)
    → tracking_at setup folders.clients.items folders.chains.items c ≡ Some t → AreStoredBy t stored → IsOutcome t stored o → IsOutcomeAt setup folders c o
case_needed setup folders c t stored o is holds comes = subst (λ u. IsOutcomeIn u o) (sym is) (stored, holds, comes)

-- nothing is told yet
pub told_nothing : (w : Told) → w.requests ≡ [] → w.reasons ≡ [] → w.ends ≡ [] → w ≡ nothing_told
told_nothing w requests reasons ends = λ k. record { requests = requests k; reasons = reasons k; ends = ends k }

-- what the clients need and behind it what the paths need is asked for
pub all_asked : (setup : ImportSetup) (f f0 f1 : Folders) (clients : List ClientSetup) (paths : List PathSetup) (w0 w1 w2 : Told)
    → clients ≡ setup.clients.items → paths ≡ setup.paths.items → f0 ≡ f → f1 ≡ f0 → w0 ≡ nothing_told
    → ((outcomes : List Outcome) × AllZip (IsOutcomeAt setup f) (enumerate_from 0 clients) outcomes × (w1 ≡ fold (with_outcome f0) w0 outcomes))
    → w2.requests ≡ with_needed f1 w1.requests (flat_map (needs_at setup.chains.items f.paths.items) (enumerate_from 0 paths))
    → w2.reasons ≡ w1.reasons → w2.ends ≡ w1.ends → AreAsked setup f w2
all_asked setup f f0 f1 clients paths w0 w1 w2 whole all_paths same0 same1 empty (outcomes, all, first) requests reasons ends =
    let own = path_needs_of setup f in
    let before = flat_map (λ (o : Outcome). o.needed) outcomes in
    let told : w1 ≡ fold (with_outcome f) nothing_told outcomes =
    first ∙ ap (λ g. fold (with_outcome g) w0 outcomes) same0 ∙ ap (λ v. fold (with_outcome f) v outcomes) empty in
    let started : w1.requests ≡ with_needed f [] before = ap (λ (v : Told). v.requests) told ∙ folded_requests f nothing_told outcomes in
    let behind : w2.requests ≡ with_needed f w1.requests own =
    requests ∙ ap (λ g. with_needed g w1.requests (flat_map (needs_at setup.chains.items f.paths.items) (enumerate_from 0 paths))) (same1 ∙ same0)
    ∙ ap (λ (l : List PathSetup). with_needed f w1.requests (flat_map (needs_at setup.chains.items f.paths.items) (enumerate_from 0 l))) all_paths in (
      outcomes,
      subst (λ (l : List ClientSetup). AllZip (IsOutcomeAt setup f) (enumerate_from 0 l) outcomes) whole all,
      behind ∙ ap (λ l. with_needed f l own) started ∙ added_both f [] before own,
      reasons ∙ ap (λ (v : Told). v.reasons) told,
      ends ∙ ap (λ (v : Told). v.ends) told ∙ folded_ends f nothing_told outcomes ∙ all_ends (flat_map (λ (o : Outcome). o.ends) outcomes),
    )
