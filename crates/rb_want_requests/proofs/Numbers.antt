-- The numbers behind the fronts of names.
use Rattle.std.proofs.Common.{◌≡◌, ◌≢◌, ℕ, List, ◌++◌, length, drop, true, nat_eq, None, refl, sym, ap, ◌∙◌}
use Rattle.std.specs.List.{starts_with}
use Rattle.std.proofs.lemmas.Bool.{false_from_ne_true}
use Rattle.std.proofs.lemmas.List.{drop_at}
use Rattle.rb_import_json.specs.Values.{number_of}
use Rattle.rb_want_requests.specs.Contents.{number_after}
use Rattle.rb_want_requests.proofs.HostNames.{begins, parts}

-- a name with this front
pub numbered : (front name rest : List ℕ) → name ≡ front ++ rest → number_of rest ≡ number_after front name
unfolding number_after
numbered front name rest whole =
    let starts : starts_with nat_eq name front ≡ true = rw whole (begins front rest) in
    rw starts (sym (ap number_of (ap (drop (length front)) whole ∙ drop_at front rest (length front) refl)))

-- a name without it
pub unnumbered : (front name : List ℕ) → ((rest : List ℕ) → name ≢ front ++ rest) → None ≡ number_after front name
unfolding number_after
unnumbered front name none = rw (false_from_ne_true (starts_with nat_eq name front) (λ e. none (drop (length front) name) (parts name front e))) refl
