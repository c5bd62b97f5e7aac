-- The parts of a word round a colon, which no identifier has.
use Rattle.std.proofs.Common.{◌≡◌, ◌≢◌, ℕ, ◌<◌, List, ◌∷◌, ◌++◌, length, get_or, All, Bor, Option, Some, None, IfSome, IsSomeAnd, MatchOption, IfNone, subst, sym, ◌∙◌, append_assoc}
use Rattle.std.proofs.lemmas.List.Elements.{All-get_or}
use Rattle.rb_base.specs.Identifier.{IsIdentifier, IsIdentifierByte}
use Rattle.rb_import_setup.specs.declared.hermes_client.NamedClient.{NamedClient}
use Rattle.rb_import_setup.specs.HermesClients.{Names}

colon_is_none : IsIdentifierByte 58 → ⊥
colon_is_none h = cc

-- no character of an identifier is a colon
pub no_colon : (front : List ℕ) → All IsIdentifierByte front → (i : ℕ) → i < length front → get_or front i 0 ≢ 58
no_colon front all i lt e =
    let byte : IsIdentifierByte (get_or front i 0) = All-get_or IsIdentifierByte front i 0 lt all in
    colon_is_none (subst IsIdentifierByte e byte)

pub parted : (word : List ℕ) (r : Option (Bor (List ℕ) × Bor (List ℕ)))
    → MatchOption r ((i : ℕ) → i < length word → get_or word i 0 ≢ 58) (λ x. (word ≡ x.0.now ++ (58 ∷ x.1.now)) × ((i : ℕ) → i < length x.0.now → get_or x.0.now i 0 ≢ 58))
    → IfSome r (λ x. word ≡ x.0.now ++ (58 ∷ x.1.now))
parted word None h = tt
parted word (Some x) h = h.0

pub some_parts : (front rest : List ℕ) (r : Option (Bor (List ℕ) × Bor (List ℕ)))
    → MatchOption r ⊥ (λ x. (x.0.now ≡ front) × (x.1.now ≡ rest)) → IsSomeAnd r (λ x. (x.0.now ≡ front) × (x.1.now ≡ rest))
some_parts front rest None h = h
some_parts front rest (Some x) h = h

pub if_none : {T : Type 0} (r : Option T) (P : Type 0) → P → IfNone r P
if_none None P p = p
if_none (Some x) P p = tt

-- ---- the parts of a word that names a client

-- a word that has a colon behind such characters has these parts
abbrev pub HasParts : List ℕ → List ℕ → List ℕ → Type 0
HasParts word host rest = (front tail : List ℕ) → word ≡ front ++ 58 ∷ tail → All IsIdentifierByte front → (host ≡ front) × (rest ≡ tail)

module _ (word host rest id chain : List ℕ) (first : HasParts word host rest) (second : HasParts rest id chain) (client : NamedClient) (names : Names word client) where
  first_parts : (host ≡ client.host) × (rest ≡ client.id ++ 58 ∷ client.chain)
  first_parts = first client.host (client.id ++ 58 ∷ client.chain) (names.is ∙ simp append_assoc) names.host.2

  pub is_host : host ≡ client.host
  is_host = first_parts.0

  second_parts : (id ≡ client.id) × (chain ≡ client.chain)
  second_parts = second client.id client.chain first_parts.1 names.id.2

  pub is_id : id ≡ client.id
  is_id = second_parts.0

  pub is_chain : chain ≡ client.chain
  is_chain = second_parts.1

  pub one_chain : host ≡ chain → ⊥
  one_chain same = names.differ (sym is_host ∙ same ∙ is_chain)

  pub bad_host : (IsIdentifier host → ⊥) → ⊥
  bad_host bad = bad (subst IsIdentifier (sym is_host) names.host)

  pub bad_id : (IsIdentifier id → ⊥) → ⊥
  bad_id bad = bad (subst IsIdentifier (sym is_id) names.id)

  pub bad_chain : (IsIdentifier chain → ⊥) → ⊥
  bad_chain bad = bad (subst IsIdentifier (sym is_chain) names.chain)
