-- Names of a turn over those of the turns before.
use Rattle.std.proofs.Common.{◌≡◌, ℕ, ◌==◌, ◌&&◌, Bool, true, false, if◌then◌else◌, List, [], ◌∷◌, ◌++◌, Option, Some, None, string_bytes, refl}
use Rattle.std.specs.Str.{bytes_eq}
use Rattle.rb_script_read.specs.declared.names.Naming.{Naming}
use Rattle.rb_script_read.specs.Names.{Names, no_names, with_naming, with_namings}

abbrev or_else : Option (List ℕ) → Option (List ℕ) → Option (List ℕ)
or_else (Some hash) other = Some hash
or_else None other = other

abbrev IsOver : Names → Names → Names → Type 0
IsOver names own earlier = (chain : ℕ) (name : List ℕ) → names chain name ≡ or_else (own chain name) (earlier chain name)

over-one : (b : Bool) (hash : List ℕ) (n o e : Option (List ℕ)) → n ≡ or_else o e
    → (if b then Some hash else n) ≡ or_else (if b then Some hash else o) e
over-one true hash n o e h = refl
over-one false hash n o e h = h

over-all : (ns : List Naming) (names own earlier : Names) → IsOver names own earlier → IsOver (with_namings names ns) (with_namings own ns) earlier
over-all [] names own earlier h = h
over-all (n ∷ ns) names own earlier h =
    over-all ns (with_naming names n) (with_naming own n) earlier
    (λ chain name. over-one (chain == n.chain && bytes_eq (string_bytes n.name) name) n.hash (names chain name) (own chain name) (earlier chain name) (h chain name))

-- a name that the turn gave, or one of the turns before
pub own_first : (ns : List Naming) (earlier : Names) (chain : ℕ) (name : List ℕ)
    → with_namings earlier ns chain name ≡ or_else (with_namings no_names ns chain name) (earlier chain name)
own_first ns earlier = over-all ns earlier no_names earlier (λ chain name. refl)

pub own_found : (ns : List Naming) (earlier : Names) (chain : ℕ) (name : List ℕ) (hash : List ℕ) → with_namings no_names ns chain name ≡ Some hash
    → with_namings earlier ns chain name ≡ Some hash
own_found ns earlier chain name hash h = rw (own_first ns earlier chain name, h) refl

pub own_missing : (ns : List Naming) (earlier : Names) (chain : ℕ) (name : List ℕ) → with_namings no_names ns chain name ≡ None
    → with_namings earlier ns chain name ≡ earlier chain name
own_missing ns earlier chain name h = rw (own_first ns earlier chain name, h) refl

-- one more naming
pub naming-more : (names : Names) (ns : List Naming) (n : Naming) → with_namings names (ns ++ n ∷ []) ≡ with_naming (with_namings names ns) n
naming-more names [] n = refl
naming-more names (m ∷ ns) n = naming-more (with_naming names m) ns n

pub ruleset turn_names = (own_found, own_missing, naming-more)
