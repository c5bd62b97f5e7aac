-- Identifiers of clients that begin with the name of their host and a dot.
use Rattle.std.proofs.Common.{◌≡◌, ◌≢◌, ℕ, ◌+◌, ◌<◌, List, ◌∷◌, ◌++◌, length, take, drop, true, ◌&&◌, nat_eq, nat_lt, codes, arith, refl, sym, ap, ◌∙◌, append_assoc, length-append}
use Rattle.std.specs.List.{starts_with}
use Rattle.std.specs.Cmp.Lexicographic.{bytes_decides}
use Rattle.std.proofs.lemmas.Bool.{and_from, and_parts, false_from_ne_true, lt-ltb, ltb-true}
use Rattle.std.proofs.lemmas.List.{append_cancel_left, drop_at, take-append-drop, take_at}
use Rattle.rb_want_requests.specs.Lines.{own_id}

pub begins : (needle rest : List ℕ) → starts_with nat_eq (needle ++ rest) needle ≡ true
begins needle rest = (bytes_decides needle (take (length needle) (needle ++ rest))).1 (sym (take_at needle rest (length needle) refl))

pub parts : (text needle : List ℕ) → starts_with nat_eq text needle ≡ true → text ≡ needle ++ drop (length needle) text
parts text needle e =
    sym (take-append-drop (length needle) text)
    ∙ ap (λ (xs : List ℕ). xs ++ drop (length needle) text) (sym ((bytes_decides needle (take (length needle) text)).0 e))

shorter : (host id : List ℕ) → (starts_with nat_eq id (host ++ codes ".") && nat_lt (length host + 1) (length id)) ≡ true → own_id host id ≡ drop (length host + 1) id
unfolding own_id
shorter host id e = rw e refl

same : (host id : List ℕ) → (starts_with nat_eq id (host ++ codes ".") && nat_lt (length host + 1) (length id)) ≢ true → id ≡ own_id host id
unfolding own_id
same host id ne = rw (false_from_ne_true _ ne) refl

dotted : (host id rest own : List ℕ) → id ≡ host ++ rest → rest ≡ 46 ∷ own → id ≡ (host ++ codes ".") ++ own
dotted host id rest own whole dot = whole ∙ ap (λ (xs : List ℕ). host ++ xs) dot ∙ sym (append_assoc host (codes ".") own)

-- the host, a dot and more
pub under : (host id rest own : List ℕ) → id ≡ host ++ rest → rest ≡ 46 ∷ own → 0 < length own → own ≡ own_id host id
under host id rest own whole dot more =
    let e = dotted host id rest own whole dot in
    let starts : starts_with nat_eq id (host ++ codes ".") ≡ true = rw e (begins (host ++ codes ".") own) in
    let long : length host + 1 < length id = omega (arith, more, ap length e, length-append (host ++ codes ".") own, length-append host (codes ".")) in
    let place : length (host ++ codes ".") ≡ length host + 1 = length-append host (codes ".") in
    sym (shorter host id (and_from _ _ starts (lt-ltb (length host + 1) (length id) long)) ∙ ap (drop (length host + 1)) e ∙ drop_at (host ++ codes ".") own (length host + 1) place)

-- the host and a dot, and nothing more
pub alone : (host id rest own : List ℕ) → id ≡ host ++ rest → rest ≡ 46 ∷ own → length own ≡ 0 → id ≡ own_id host id
alone host id rest own whole dot none =
    let e = dotted host id rest own whole dot in
    same host id (λ both.
    let long : length host + 1 < length id = ltb-true (length host + 1) (length id) (and_parts (starts_with nat_eq id (host ++ codes ".")) (nat_lt (length host + 1) (length id)) both).1 in
    omega (arith, long, none, ap length e, length-append (host ++ codes ".") own, length-append host (codes ".")))

-- the host, and no dot
pub no_dot : (host id rest : List ℕ) → id ≡ host ++ rest → ((own : List ℕ) → rest ≢ 46 ∷ own) → id ≡ own_id host id
no_dot host id rest whole none =
    same host id (λ both.
    let split = parts id (host ++ codes ".") (and_parts _ _ both).0 in
    let after = drop (length (host ++ codes ".")) id in
    none after (append_cancel_left host rest (codes "." ++ after) (sym whole ∙ split ∙ append_assoc host (codes ".") after)))

-- not the host
pub apart : (host id : List ℕ) → ((rest : List ℕ) → id ≢ host ++ rest) → id ≡ own_id host id
apart host id none =
    same host id (λ both.
    let after = drop (length (host ++ codes ".")) id in
    none (codes "." ++ after) (parts id (host ++ codes ".") (and_parts _ _ both).0 ∙ append_assoc host (codes ".") after))
