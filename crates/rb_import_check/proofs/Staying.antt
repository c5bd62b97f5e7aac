-- No further answer cures a contradiction between answers on a chain.
use Rattle.std.proofs.Common.{◌≡◌, ◌≢◌, ◌⊎◌, ℕ, suc, ◌+◌, ◌<◌, ◌==◌, List, [], ◌∷◌, ◌++◌, length, filter, map, cond, false, All, inl, inr, refl, sym, subst, ap, ◌∙◌, arith}
use Rattle.std.specs.Prelude.{Any, IsSome, count_by, string_bytes}
use Rattle.std.proofs.lemmas.Bool.{cases_eq}
use Rattle.std.proofs.lemmas.Grind.{flat_map-append}
use Rattle.std.proofs.lemmas.List.{append-nil, length-append}
use Rattle.std.proofs.lemmas.List.Elements.{All-append, All-cons, All-head, All-nil, filter-append}
use Rattle.std.proofs.lemmas.List.Sums.{sum_by-append}
use Rattle.rb_valset.specs.Refusal.{set_refusal}
use Rattle.rb_valset.specs.Validator.{Member}
use Rattle.rb_valset.specs.ValidatorSet.{set_hash, in_set_order}
use Rattle.rb_import_answers.specs.declared.commit.SignedHeader.{SignedHeader}
use Rattle.rb_import_answers.specs.declared.validators.ValidatorsPage.{ValidatorsPage}
use Rattle.rb_import_answers.specs.declared.verdicts.CommitVerdict.{CommitVerdict}
use Rattle.rb_import_answers.specs.declared.verdicts.Verdicts.{Verdicts}
use Rattle.rb_import_check.specs.declared.error.CheckErrorName.{CheckErrorName}
use Rattle.rb_import_check.specs.declared.saved.Saved.{Saved}
use Rattle.rb_import_check.specs.Chains.{AreAllPages, AreWhole, Differ, Filed, filed_of, headers_in, headers_of, pages_at, pages_in, pages_of, validators_at, validators_of}
use Rattle.rb_import_check.specs.Refusals.{Contradict, ContradictionsStay, HasDiscord, HaveTooMany, HaveTwoTotals, Refuses, is_of_chain}
use Rattle.rb_import_check.specs.Verdicts.{TellsOtherVotes, verdict_list, verdicts_in, verdicts_of}
use Rattle.rb_import_check.proofs.ReasonsLemmas.{any_left, any_there}

any_right : {A : Type 0} (P : A → Type 0) (xs ys : List A) → Any P ys → Any P (xs ++ ys)
any_right P [] ys w = w
any_right P (x ∷ xs) ys w = any_there P x (xs ++ ys) (any_right P xs ys w)

-- ---- pages of a height, and more of them

abbrev Members : ValidatorsPage → List Member
Members p = p.validators.items

-- pages tell this total and have no validators, or some tells another, or they have validators
more_pages : (t : ℕ) (more : List ValidatorsPage) → (All (λ (q : ValidatorsPage). q.total ≡ t) more × (validators_of more ≡ [])) ⊎ Any (λ (q : ValidatorsPage). t ≢ q.total) more ⊎ (0 < length (validators_of more))
more_pages t [] = inl (All-nil _, refl)
more_pages t (q ∷ more) = at (cases_eq q.total t) (Members q) refl (more_pages t more)
  where
    at : (q.total ≡ t) ⊎ (q.total ≡ t → ⊥) → (own : List Member) → Members q ≡ own
        → (All (λ (p : ValidatorsPage). p.total ≡ t) more × (validators_of more ≡ [])) ⊎ Any (λ (p : ValidatorsPage). t ≢ p.total) more ⊎ (0 < length (validators_of more))
        → (All (λ (p : ValidatorsPage). p.total ≡ t) (q ∷ more) × (validators_of (q ∷ more) ≡ [])) ⊎ Any (λ (p : ValidatorsPage). t ≢ p.total) (q ∷ more) ⊎ (0 < length (validators_of (q ∷ more)))
    at (inr other) own is rest = inr (inl (0, q, omega arith, refl, λ same. other (sym same)))
    at (inl same) (m ∷ own) is rest = inr (inr (subst (λ l. 0 < length (l ++ validators_of more)) (sym is) (omega arith)))
    at (inl same) [] is (inl (each, none)) = inl (All-cons (λ (p : ValidatorsPage). p.total ≡ t) q more same each, ap (λ l. l ++ validators_of more) is ∙ none)
    at (inl same) [] is (inr (inl (k, p, small, there, other))) = inr (inl (suc k, p, omega (arith, small), there, other))
    at (inl same) [] is (inr (inr some)) = inr (inr (subst (λ l. 0 < length (l ++ validators_of more)) (sym is) some))

-- all pages of a height stay all of them, with the same validators, or contradict those that come
all_or_not : (these more : List ValidatorsPage) → AreAllPages these
    → (AreAllPages (these ++ more) × (validators_of (these ++ more) ≡ validators_of these)) ⊎ HaveTwoTotals (these ++ more) ⊎ HaveTooMany (these ++ more)
all_or_not [] more (some, each) = absurd (omega (arith, some))
all_or_not (p ∷ ps) more (some, each) = at (more_pages p.total more)
  where
    these : List ValidatorsPage
    these = p ∷ ps

    total : p.total ≡ length (validators_of (p ∷ ps))
    total = All-head (λ (q : ValidatorsPage). q.total ≡ length (validators_of (p ∷ ps))) p ps each

    both : validators_of ((p ∷ ps) ++ more) ≡ validators_of (p ∷ ps) ++ validators_of more
    both = flat_map-append Members (p ∷ ps) more

    at : (All (λ (q : ValidatorsPage). q.total ≡ p.total) more × (validators_of more ≡ [])) ⊎ Any (λ (q : ValidatorsPage). p.total ≢ q.total) more ⊎ (0 < length (validators_of more))
        → (AreAllPages ((p ∷ ps) ++ more) × (validators_of ((p ∷ ps) ++ more) ≡ validators_of (p ∷ ps))) ⊎ HaveTwoTotals ((p ∷ ps) ++ more) ⊎ HaveTooMany ((p ∷ ps) ++ more)
    at (inl (same, none)) =
        let are : validators_of ((p ∷ ps) ++ more) ≡ validators_of (p ∷ ps) = both ∙ ap (λ l. validators_of (p ∷ ps) ++ l) none ∙ append-nil (validators_of (p ∷ ps)) in
        let others : All (λ (q : ValidatorsPage). q.total ≡ length (validators_of (p ∷ ps))) more = λ k d small. same k d small ∙ total in
        inl (
          (omega arith, subst (λ l. All (λ (q : ValidatorsPage). q.total ≡ length l) ((p ∷ ps) ++ more)) (sym are) (All-append (λ (q : ValidatorsPage). q.total ≡ length (validators_of (p ∷ ps))) (p ∷ ps) more each others)),
          are,
        )
    at (inr (inl other)) = inr (inl (0, p, omega arith, refl, any_right (λ (q : ValidatorsPage). p.total ≢ q.total) (p ∷ ps) more other))
    at (inr (inr new)) =
        let long : length (validators_of ((p ∷ ps) ++ more)) ≡ length (validators_of (p ∷ ps)) + length (validators_of more) = ap length both ∙ length-append (validators_of (p ∷ ps)) (validators_of more) in
        inr (inr (0, p, omega arith, refl, omega (arith, long, new, total)))

two_stay : (these more : List ValidatorsPage) → HaveTwoTotals these → HaveTwoTotals (these ++ more)
two_stay these more (k, p, small, is, other) =
    any_left (λ (x : ValidatorsPage). Any (λ (y : ValidatorsPage). x.total ≢ y.total) (these ++ more)) these more
    (k, p, small, is, any_left (λ (y : ValidatorsPage). p.total ≢ y.total) these more other)

many_stay : (these more : List ValidatorsPage) → HaveTooMany these → HaveTooMany (these ++ more)
many_stay these more (k, p, small, is, many) =
    let both : validators_of (these ++ more) ≡ validators_of these ++ validators_of more = flat_map-append Members these more in
    let long : length (validators_of (these ++ more)) ≡ length (validators_of these) + length (validators_of more) = ap length both ∙ length-append (validators_of these) (validators_of more) in
    any_left (λ (x : ValidatorsPage). x.total < length (validators_of (these ++ more))) these more (k, p, small, is, omega (arith, long, many))

module _ (id : List ℕ) (saved more : List Saved) where
  pages_both : (height : ℕ) → pages_at (saved ++ more) height ≡ pages_at saved height ++ pages_at more height
  pages_both height =
      ap (filter (λ (p : ValidatorsPage). p.height == height)) (flat_map-append (λ (s : Saved). pages_in s.answer) saved more)
      ∙ filter-append (λ (p : ValidatorsPage). p.height == height) (pages_of saved) (pages_of more)

  -- all pages of a height stay so, or there is a contradiction at it
  whole_or_not : (height : ℕ) → AreWhole saved height → (AreWhole (saved ++ more) height × (validators_at (saved ++ more) height ≡ validators_at saved height)) ⊎ Contradict id (saved ++ more)
  whole_or_not height whole =
      at (pages_at (saved ++ more) height) refl
      (subst (λ l. (AreAllPages l × (validators_of l ≡ validators_at saved height)) ⊎ HaveTwoTotals l ⊎ HaveTooMany l) (sym (pages_both height)) (all_or_not (pages_at saved height) (pages_at more height) whole))
    where
      at : (l : List ValidatorsPage) → pages_at (saved ++ more) height ≡ l
          → (AreAllPages (pages_at (saved ++ more) height) × (validators_of (pages_at (saved ++ more) height) ≡ validators_at saved height)) ⊎ HaveTwoTotals (pages_at (saved ++ more) height) ⊎ HaveTooMany (pages_at (saved ++ more) height)
          → (AreWhole (saved ++ more) height × (validators_at (saved ++ more) height ≡ validators_at saved height)) ⊎ Contradict id (saved ++ more)
      at l is (inl stay) = inl stay
      at l is (inr (inl two)) = inr (CheckErrorName.OtherTotal, (height, two))
      at l is (inr (inr many)) = inr (CheckErrorName.TooManyValidators, (height, many))

  headers_both : headers_of (saved ++ more) ≡ headers_of saved ++ headers_of more
  headers_both = flat_map-append (λ (s : Saved). headers_in s.answer) saved more

  any_header : (P : SignedHeader → Type 0) → Any P (headers_of saved) → Any P (headers_of (saved ++ more))
  any_header P w = subst (Any P) (sym headers_both) (any_left P (headers_of saved) (headers_of more) w)

  verdicts_both : verdicts_of (saved ++ more) ≡ verdicts_of saved ++ verdicts_of more
  verdicts_both = flat_map-append (λ (s : Saved). verdicts_in s.answer) saved more

  any_verdicts : (P : Verdicts → Type 0) → Any P (verdicts_of saved) → Any P (verdicts_of (saved ++ more))
  any_verdicts P w = subst (Any P) (sym verdicts_both) (any_left P (verdicts_of saved) (verdicts_of more) w)

  discord_stays : (name : CheckErrorName) → HasDiscord name saved → HasDiscord name (saved ++ more) ⊎ Contradict id (saved ++ more)
  discord_stays name (k, h, small, is, (height, whole, hash, differ)) =
      elim (whole_or_not height whole) [
        | inl (stay, same) ↦ inl (any_header
            (λ (x : SignedHeader). (n : ℕ) × AreWhole (saved ++ more) n × (set_hash (in_set_order (validators_at (saved ++ more) n)) ≡ x.set) × Differ name x.signatures.items (in_set_order (validators_at (saved ++ more) n)))
            (k, h, small, is, (height, stay, subst (λ v. set_hash (in_set_order v) ≡ h.set) (sym same) hash, subst (λ v. Differ name h.signatures.items (in_set_order v)) (sym same) differ)))
        | inr other ↦ inr other
      ]

  discord_name : (name : CheckErrorName) → (HasDiscord name (saved ++ more) → Contradict id (saved ++ more)) → HasDiscord name saved → Contradict id (saved ++ more)
  discord_name name so w = elim (discord_stays name w) [ inl stay ↦ so stay | inr other ↦ other ]

  count_stays : (height : ℕ) → 1 < count_by (λ (h : SignedHeader). h.height == height) (headers_of saved) → 1 < count_by (λ (h : SignedHeader). h.height == height) (headers_of (saved ++ more))
  count_stays height two =
      let f : SignedHeader → ℕ = λ h. cond (h.height == height) 1 0 in
      let whole = ap (count_by (λ (h : SignedHeader). h.height == height)) headers_both in
      let parts = sum_by-append f (headers_of saved) (headers_of more) in
      omega (arith, two, whole, parts)

  -- the verdicts of the first file that has some stay so
  first_stays : (v : Verdicts) (vs : List Verdicts) → verdicts_of saved ≡ v ∷ vs → verdict_list (verdicts_of saved) ≡ verdict_list (verdicts_of (saved ++ more))
  first_stays v vs is = ap verdict_list is ∙ sym (ap verdict_list (verdicts_both ∙ ap (λ l. l ++ verdicts_of more) is))

  none_told : (digest : List ℕ) (count : ℕ) → TellsOtherVotes [] digest count → ⊥
  none_told digest count (k, v, small, is, rest) = omega (arith, small)

  any_filed : (P : Filed → Type 0) → Any P (filed_of saved) → Any P (filed_of (saved ++ more))
  any_filed P w =
      subst (Any P) (sym (flat_map-append (λ (s : Saved). map (λ (h : SignedHeader). (h, s.digest, string_bytes s.file)) (headers_in s.answer)) saved more)) (any_left P (filed_of saved) (filed_of more) w)

  other_verdict : Any (λ (f : Filed). TellsOtherVotes (verdict_list (verdicts_of saved)) f.1 (length f.0.signatures.items)) (filed_of saved) → Contradict id (saved ++ more)
  other_verdict (k, f, small, is, tells) = at (verdicts_of saved) refl
    where
      at : (vs : List Verdicts) → verdicts_of saved ≡ vs → Contradict id (saved ++ more)
      at [] none = absurd (none_told f.1 (length f.0.signatures.items) (subst (λ l. TellsOtherVotes (verdict_list l) f.1 (length f.0.signatures.items)) none tells))
      at (v ∷ vs) some =
          let Tells : List CommitVerdict → Filed → Type 0 = λ l g. TellsOtherVotes l g.1 (length g.0.signatures.items) in
          (CheckErrorName.OtherVerdict, any_filed (Tells (verdict_list (verdicts_of (saved ++ more)))) (k, f, small, is, subst (λ l. Tells l f) (first_stays v vs some) tells))

  stays : (name : CheckErrorName) → Refuses name id saved → Contradict id (saved ++ more)
  stays CheckErrorName.WrongFolder w = (CheckErrorName.WrongFolder, any_left (λ (s : Saved). is_of_chain s.answer ≡ false) saved more w)
  stays CheckErrorName.OtherChain (inl w) = (CheckErrorName.OtherChain, inl (any_header (λ (h : SignedHeader). h.chain ≢ id) w))
  stays CheckErrorName.OtherChain (inr w) = (CheckErrorName.OtherChain, inr (any_verdicts (λ (v : Verdicts). v.chain ≢ id) w))
  stays CheckErrorName.TwoAnswers (inl two) =
      let long = ap length verdicts_both ∙ length-append (verdicts_of saved) (verdicts_of more) in
      (CheckErrorName.TwoAnswers, inl (omega (arith, two, long)))
  stays CheckErrorName.TwoAnswers (inr (height, two)) = (CheckErrorName.TwoAnswers, inr (height, count_stays height two))
  stays CheckErrorName.OtherHeader w = (CheckErrorName.OtherHeader, any_header (λ (h : SignedHeader). h.hash ≢ h.block) w)
  stays CheckErrorName.OtherTotal (height, two) = (CheckErrorName.OtherTotal, (height, subst HaveTwoTotals (sym (pages_both height)) (two_stay (pages_at saved height) (pages_at more height) two)))
  stays CheckErrorName.TooManyValidators (height, many) = (CheckErrorName.TooManyValidators, (height, subst HaveTooMany (sym (pages_both height)) (many_stay (pages_at saved height) (pages_at more height) many)))
  stays CheckErrorName.BadSet (height, (whole, bad)) =
      elim (whole_or_not height whole) [
        | inl (stay, same) ↦ (CheckErrorName.BadSet, (height, (stay, subst (λ v. IsSome (set_refusal v)) (sym same) bad)))
        | inr other ↦ other
      ]
  stays CheckErrorName.OtherSet (height, (whole, other)) =
      elim (whole_or_not height whole) [
        | inl (stay, same) ↦ (
          CheckErrorName.OtherSet,
          (
            height,
            (
              stay,
              any_header (λ (h : SignedHeader). (h.height ≡ height) × (h.set ≢ set_hash (in_set_order (validators_at (saved ++ more) height))))
                  (subst (λ v. Any (λ (h : SignedHeader). (h.height ≡ height) × (h.set ≢ set_hash (in_set_order v))) (headers_of saved)) (sym same) other),
            ),
          ),
        )
        | inr contradict ↦ contradict
      ]
  stays CheckErrorName.SignatureCount w = discord_name CheckErrorName.SignatureCount (λ stay. (CheckErrorName.SignatureCount, stay)) w
  stays CheckErrorName.OtherSigner w = discord_name CheckErrorName.OtherSigner (λ stay. (CheckErrorName.OtherSigner, stay)) w
  stays CheckErrorName.OtherVerdict w = other_verdict w
  stays CheckErrorName.OtherRevision w = absurd w.1
  stays CheckErrorName.MissingClientState w = absurd w.1
  stays CheckErrorName.MissingConsensusStates w = absurd w.1
  stays CheckErrorName.OtherRecord w = absurd w.1
  stays CheckErrorName.MissingCommitments w = absurd w.1
  stays CheckErrorName.MissingTransactions w = absurd w.1
  stays CheckErrorName.TwoChannels w = absurd w.1
  stays CheckErrorName.MissingSend w = absurd w.1
  stays CheckErrorName.MissingReceive w = absurd w.1
  stays CheckErrorName.ScriptTooBig w = absurd w.1

pub contradictions_stay : ContradictionsStay
contradictions_stay id saved more (name, why) = stays id saved more name why
