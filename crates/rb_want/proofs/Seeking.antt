-- What comes of a client, by what was added for it.
use Rattle.std.proofs.Common.{◌≡◌, ℕ, ◌<◌, ◌≤◌, ◌-◌, ◌^◌, ◌==◌, ◌∷◌, List, [], ◌++◌, append-nil, length, Bool, true, false, ◌||◌, ◌&&◌, Option, Some, None, Result, Ok, Err, inl, inr, refl, ap, sym, subst, ◌∙◌, arith}
use Rattle.std.specs.Prelude.{if◌then◌else◌, nat_le, nat_lt, not}
use Rattle.std.proofs.lemmas.Bool.{cases_lt, true≢false}
use Rattle.std.proofs.lemmas.Bool.Decides.{nat_tests}
use Rattle.std.proofs.lemmas.Option.{none-some, same_Some}
use Rattle.std.specs.Result.{OkIff, result_ok}
use Rattle.rb_base.specs.Fraction.{Ratio}
use Rattle.std.specs.List.{list_any}
use Rattle.rb_base.specs.Options.{ClientOptions}
use Rattle.rb_import_answers.specs.declared.client.ConsensusState.{ConsensusState}
use Rattle.rb_import_answers.specs.declared.client.TrustLevel.{TrustLevel}
use Rattle.rb_step.specs.declared.verdict.Verdict.{Verdict}
use Rattle.rb_want_requests.specs.declared.content.Folders.{Folders}
use Rattle.rb_import_answers.specs.declared.status.NodeStatus.{NodeStatus}
use Rattle.rb_want_requests.specs.declared.reason.End.{End}
use Rattle.rb_want_requests.specs.declared.reason.End.TheVariants as endings
use Rattle.rb_want_requests.specs.declared.reason.SearchReason.{SearchReason}
use Rattle.rb_want_requests.specs.Search.{IsFinding}
use Rattle.rb_want_requests.specs.declared.searching.Aim.{Aim}
use Rattle.rb_want_requests.specs.declared.searching.SearchOutcome.{SearchOutcome}
use Rattle.rb_want_requests.specs.declared.searching.Question.{Question}
use Rattle.rb_want.specs.Adding.{Outcome, Told, ended, no_outcome, reasons_if, with_ends, with_needed, with_outcome}
use Rattle.rb_want.specs.Clients.{is_other_client, state_in, status_in}
use Rattle.rb_want.specs.Judgements.{AreByRule}
use Rattle.rb_want.specs.Needs.{AreStepsOf, IsOutcome, IsOutcomeIf, IsOutcomeOf, IsSought, IsSoughtFrom, IsSoughtWith, IsStart, Tracking, aim_below, aim_by, aim_ends, aim_ends_by, aim_of, ends_below, first_ends, first_needs, highest_of, is_elsewhere, lacks_first, lacks_state, lacks_states, lacks_status, least_of, level_in, options_of, why_of, why_stuck}
use Rattle.rb_want.specs.declared.judged.Steps.{Steps}
use Rattle.rb_want.proofs.Adding.{added_none, ended_none}
use Rattle.rb_want.proofs.Asked.{grows}

-- ---- what an outcome adds

no_reasons : (b : Bool) (before more : List SearchReason) → more ≡ [] → reasons_if b before more ≡ before
no_reasons true before more none = ap (λ l. before ++ l) none ∙ append-nil before
no_reasons false before more none = refl

-- an outcome without reasons
pub outcome_added : (f : Folders) (old new : Told) (o : Outcome) → o.reasons ≡ []
    → new.requests ≡ with_needed f old.requests o.needed → new.reasons ≡ old.reasons → new.ends ≡ with_ends old.ends o.ends
    → new ≡ with_outcome f old o
unfolding with_outcome
outcome_added f old new o none requests reasons ends =
    let told : new.reasons ≡ reasons_if (nat_lt (length old.requests) (length (with_needed f old.requests o.needed))) old.reasons o.reasons =
    reasons ∙ sym (no_reasons _ old.reasons o.reasons none) in
    λ k. record { requests = requests k; reasons = told k; ends = ends k }

-- one that changes nothing
pub outcome_none : (f : Folders) (old new : Told) → new.requests ≡ old.requests → new.reasons ≡ old.reasons → new.ends ≡ old.ends
    → new ≡ with_outcome f old no_outcome
outcome_none f old new requests reasons ends =
    outcome_added f old new no_outcome refl (requests ∙ sym (added_none f old.requests)) reasons (ends ∙ sym (ended_none old.ends))

-- one that only says why no more is asked
pub outcome_ended : (f : Folders) (old new : Told) (e : End) → new.requests ≡ old.requests → new.reasons ≡ old.reasons → new.ends ≡ with_ends old.ends (e ∷ [])
    → new ≡ with_outcome f old (ended e)
outcome_ended f old new e requests reasons ends =
    outcome_added f old new (ended e) refl (requests ∙ sym (added_none f old.requests)) reasons ends

is_less : (m n : ℕ) → m < n → nat_lt m n ≡ true
is_less m n less = grind (arith, nat_tests, less)

is_same : (m n : ℕ) → n ≡ m → nat_lt m n ≡ false
is_same m n same = grind (arith, nat_tests, same)

-- what is needed was asked for already
pub outcome_idle : (f : Folders) (old new : Told) (o : Outcome) → o.ends ≡ [] → length new.requests ≡ length old.requests
    → new.requests ≡ with_needed f old.requests o.needed → new.reasons ≡ old.reasons → new.ends ≡ old.ends
    → new ≡ with_outcome f old o
unfolding with_outcome
outcome_idle f old new o none same requests reasons ends =
    let idle : nat_lt (length old.requests) (length (with_needed f old.requests o.needed)) ≡ false =
    is_same (length old.requests) (length (with_needed f old.requests o.needed)) (ap length (sym requests) ∙ same) in
    let told : new.reasons ≡ reasons_if (nat_lt (length old.requests) (length (with_needed f old.requests o.needed))) old.reasons o.reasons =
    reasons ∙ ap (λ b. reasons_if b old.reasons o.reasons) (sym idle) in
    let all : new.ends ≡ with_ends old.ends o.ends = ends ∙ sym (ended_none old.ends) ∙ ap (with_ends old.ends) (sym none) in
    λ k. record { requests = requests k; reasons = told k; ends = all k }

strict : (m n : ℕ) → m ≤ n → (n ≡ m → ⊥) → m < n
strict m n le apart = elim (cases_lt m n) [ inl below ↦ below | inr upper ↦ absurd (apart (omega (arith, le, upper))) ]

-- a request came, and why
pub outcome_asked : (f : Folders) (old new : Told) (o : Outcome) → o.ends ≡ [] → (length new.requests ≡ length old.requests → ⊥)
    → new.requests ≡ with_needed f old.requests o.needed → new.reasons ≡ old.reasons ++ o.reasons → new.ends ≡ old.ends
    → new ≡ with_outcome f old o
unfolding with_outcome
outcome_asked f old new o none other requests reasons ends =
    let more : length old.requests ≤ length (with_needed f old.requests o.needed) = grows f old.requests o.needed in
    let long : length new.requests ≡ length (with_needed f old.requests o.needed) = ap length requests in
    let less : length old.requests < length (with_needed f old.requests o.needed) =
    strict (length old.requests) (length (with_needed f old.requests o.needed)) more (λ same. other (long ∙ same)) in
    let told : new.reasons ≡ reasons_if (nat_lt (length old.requests) (length (with_needed f old.requests o.needed))) old.reasons o.reasons =
    reasons ∙ ap (λ b. reasons_if b old.reasons o.reasons) (sym (is_less _ _ less)) in
    let all : new.ends ≡ with_ends old.ends o.ends = ends ∙ sym (ended_none old.ends) ∙ ap (with_ends old.ends) (sym none) in
    λ k. record { requests = requests k; reasons = told k; ends = all k }

-- ---- how a client judges

-- a trust level in range is that of the options that are made with it
pub level_stays : {E : Type 0} (r : Result Ratio E) (P : Type 0) (level : Ratio) (trust : TrustLevel) (options : ClientOptions)
    → OkIff r P (record { numerator = trust.numerator; denominator = trust.denominator }) → result_ok r ≡ Some level → options.trust ≡ level → trust ≡ level_in options
level_stays (Ok x) P level trust options made is has =
    let same : options.trust ≡ record { numerator = trust.numerator; denominator = trust.denominator } = has ∙ sym (same_Some x level is) ∙ made.1 in
    λ k. record { numerator = (sym same k).numerator; denominator = (sym same k).denominator }
level_stays (Err e) P level trust options made is has = absurd (none-some level is)

-- ---- what comes of a search

-- what its finding comes to
pub sought : (t : Tracking) (options : ClientOptions) (aim : Aim) (stored : List ConsensusState) (first : ℕ) (s : Steps) (finding : SearchOutcome)
    (f : Folders) (old new : Told) (o : Outcome)
    → AreStepsOf t options stored s → IsFinding (AreByRule s) first aim finding → IsOutcomeOf t options s finding o → new ≡ with_outcome f old o
    → (o : Outcome) × IsSoughtFrom t options aim stored (Some first) o × (new ≡ with_outcome f old o)
sought t options aim stored first s finding f old new o steps found by is = (o, (s, finding, steps, found, by), is)

-- why a step is asked for, with the trust level of the options
pub told_why : (t : Tracking) (options : ClientOptions) (q : Question) (said : Option Verdict) (client : List ℕ) (trust : TrustLevel)
    → client ≡ t.setup.id → trust ≡ level_in options
    → record { client = client; trusted = q.trusted; accepted = q.accepted; refused = q.refused; verdict = said; trust = trust } ≡ why_of t options q said
told_why t options q said client trust same level =
    λ k. record { client = same k; trusted = q.trusted; accepted = q.accepted; refused = q.refused; verdict = said; trust = level k }

-- and why no step goes on
pub told_stuck : (t : Tracking) (options : ClientOptions) (trusted height : ℕ) (said : Option Verdict) (client : List ℕ) (trust : TrustLevel)
    → client ≡ t.setup.id → trust ≡ level_in options
    → record { client = client; trusted = trusted; accepted = None; refused = Some height; verdict = said; trust = trust } ≡ why_stuck t options trusted height said
told_stuck t options trusted height said client trust same level =
    λ k. record { client = same k; trusted = trusted; accepted = None; refused = Some height; verdict = said; trust = level k }

-- where there is an aim, nothing is said of there being none
below : (b : Bool) (aim there : Aim) (e : End) → (if b then None else Some there) ≡ Some aim → (if b then e ∷ [] else []) ≡ []
below true aim there e is = absurd (none-some aim is)
below false aim there e is = refl

aimed_by : (t : Tracking) (stored : List ConsensusState) (status : Option NodeStatus) (aim : Aim) → aim_by t stored status ≡ Some aim → aim_ends_by t stored status ≡ []
aimed_by t stored None aim is = absurd (none-some aim is)
aimed_by t stored (Some status) aim is = go (is_elsewhere status.network t.tracks) (nat_le status.latest 1) is
  where
    go : (elsewhere low : Bool)
        → (if elsewhere then None else if low then None else aim_below t.goal stored (status.latest - 1)) ≡ Some aim
        → (if elsewhere then endings.OtherNetwork t.setup.id t.tracks ∷ [] else if low then [] else ends_below t stored (status.latest - 1)) ≡ []
    go true low is = absurd (none-some aim is)
    go false true is = absurd (none-some aim is)
    go false false is =
        below (nat_lt (status.latest - 1) (least_of t.goal (status.latest - 1))
        && not (list_any (λ s. s.height == least_of t.goal (status.latest - 1)) stored)) aim _ _ is

pub aimed : (t : Tracking) (stored : List ConsensusState) (aim : Aim) → aim_of t stored ≡ Some aim → aim_ends t stored ≡ []
unfolding aim_of aim_ends
aimed t stored aim is = aimed_by t stored (status_in t.chain.contents.items) aim is

-- the options are out of range
pub sought_badly : (t : Tracking) (stored : List ConsensusState) (f : Folders) (old new : Told)
    → options_of t.setup (state_in t.own.contents.items) ≡ None
    → new.requests ≡ old.requests → new.reasons ≡ old.reasons → new.ends ≡ with_ends old.ends (endings.BadOptions t.setup.id ∷ [])
    → (o : Outcome) × IsSought t stored o × (new ≡ with_outcome f old o)
sought_badly t stored f old new none requests reasons ends =
    let o = ended (endings.BadOptions t.setup.id) in (
      o,
      subst (λ p. IsSoughtWith t stored p (aim_of t stored) o) (sym none) refl,
      outcome_ended f old new (endings.BadOptions t.setup.id) requests reasons ends,
    )

-- there is no aim
pub sought_nowhere : (t : Tracking) (stored : List ConsensusState) (options : ClientOptions) (f : Folders) (old new : Told)
    → options_of t.setup (state_in t.own.contents.items) ≡ Some options → aim_of t stored ≡ None
    → new.requests ≡ old.requests → new.reasons ≡ old.reasons → new.ends ≡ with_ends old.ends (aim_ends t stored)
    → (o : Outcome) × IsSought t stored o × (new ≡ with_outcome f old o)
sought_nowhere t stored options f old new some none requests reasons ends =
    let o : Outcome = record { needed = []; reasons = []; ends = aim_ends t stored } in
    let rest : IsSoughtWith t stored (Some options) (aim_of t stored) o = subst (λ a. IsSoughtWith t stored (Some options) a o) (sym none) refl in (
      o,
      subst (λ p. IsSoughtWith t stored p (aim_of t stored) o) (sym some) rest,
      outcome_added f old new o refl (requests ∙ sym (added_none f old.requests)) reasons ends,
    )

-- what is told, once there is an aim
unended : (t : Tracking) (stored : List ConsensusState) (aim : Aim) (old mid : Told) → aim_of t stored ≡ Some aim
    → mid.requests ≡ old.requests → mid.reasons ≡ old.reasons → mid.ends ≡ with_ends old.ends (aim_ends t stored) → mid ≡ old
unended t stored aim old mid some requests reasons ends =
    let said : mid.ends ≡ old.ends = ends ∙ ap (with_ends old.ends) (aimed t stored aim some) ∙ ended_none old.ends in
    λ k. record { requests = requests k; reasons = reasons k; ends = said k }

-- what comes of a start is what is sought
pub sought_from : (t : Tracking) (stored : List ConsensusState) (options : ClientOptions) (aim : Aim) (first : Option ℕ) (f0 f1 : Folders) (old mid new : Told)
    → options_of t.setup (state_in t.own.contents.items) ≡ Some options → aim_of t stored ≡ Some aim → f1 ≡ f0
    → mid.requests ≡ old.requests → mid.reasons ≡ old.reasons → mid.ends ≡ with_ends old.ends (aim_ends t stored)
    → IsStart stored (highest_of t.goal (2 ^ 63 - 1)) first
    → ((o : Outcome) × IsSoughtFrom t options aim stored first o × (new ≡ with_outcome f1 mid o))
    → (o : Outcome) × IsSought t stored o × (new ≡ with_outcome f0 old o)
sought_from t stored options aim first f0 f1 old mid new some aims same requests reasons ends start (o, from, is) =
    let rest : IsSoughtWith t stored (Some options) (aim_of t stored) o = subst (λ a. IsSoughtWith t stored (Some options) a o) (sym aims) (first, start, from) in
    let was : mid ≡ old = unended t stored aim old mid aims requests reasons ends in
    (o, subst (λ p. IsSoughtWith t stored p (aim_of t stored) o) (sym some) rest, is ∙ ap (λ g. with_outcome g mid o) same ∙ ap (λ m. with_outcome f0 m o) was)

-- no record is stored from which to start
pub sought_unstored : (t : Tracking) (stored : List ConsensusState) (options : ClientOptions) (aim : Aim) (f : Folders) (mid new : Told)
    → new.requests ≡ mid.requests → new.reasons ≡ mid.reasons → new.ends ≡ with_ends mid.ends (endings.NoRecord t.setup.id ∷ [])
    → (o : Outcome) × IsSoughtFrom t options aim stored None o × (new ≡ with_outcome f mid o)
sought_unstored t stored options aim f mid new requests reasons ends =
    (ended (endings.NoRecord t.setup.id), refl, outcome_ended f mid new (endings.NoRecord t.setup.id) requests reasons ends)

-- ---- what comes of a client

first_none : {X : Type 0} (a b c : Bool) (x y z : List X) → (a || b || c) ≡ false
    → ((if a then x else []) ++ ((if b then y else []) ++ (if c then z else []))) ≡ []
first_none true b c x y z lacks = absurd (true≢false lacks)
first_none false true c x y z lacks = absurd (true≢false lacks)
first_none false false true x y z lacks = absurd (true≢false lacks)
first_none false false false x y z lacks = refl

-- where nothing is lacking first, nothing is needed first
none_first : (t : Tracking) → lacks_first t ≡ false → first_needs t ≡ []
unfolding first_needs
none_first t lacks = first_none (lacks_state t) (lacks_states t) (lacks_status t) _ _ _ lacks

none_ended : (t : Tracking) → lacks_first t ≡ false → first_ends t ≡ []
unfolding first_ends
none_ended t lacks = first_none (lacks_state t) (lacks_states t) (lacks_status t) _ _ _ lacks

-- it is frozen, or isn't Tendermint's
pub other_outcome : (t : Tracking) (stored : List ConsensusState) (f : Folders) (old new : Told)
    → list_any is_other_client t.own.contents.items ≡ true → new.requests ≡ old.requests → new.reasons ≡ old.reasons
    → new.ends ≡ with_ends old.ends (endings.OtherClient t.setup.id ∷ [])
    → (o : Outcome) × IsOutcome t stored o × (new ≡ with_outcome f old o)
other_outcome t stored f old new other requests reasons ends =
    let o = ended (endings.OtherClient t.setup.id) in
    (o, subst (λ b. IsOutcomeIf b (lacks_first t) t stored o) (sym other) refl, outcome_ended f old new (endings.OtherClient t.setup.id) requests reasons ends)

-- something is lacking first
pub first_outcome : (t : Tracking) (stored : List ConsensusState) (f : Folders) (old new : Told)
    → list_any is_other_client t.own.contents.items ≡ false → lacks_first t ≡ true
    → new.requests ≡ with_needed f old.requests (first_needs t) → new.reasons ≡ old.reasons → new.ends ≡ with_ends old.ends (first_ends t)
    → (o : Outcome) × IsOutcome t stored o × (new ≡ with_outcome f old o)
first_outcome t stored f old new other lacks requests reasons ends =
    let o : Outcome = record { needed = first_needs t; reasons = []; ends = first_ends t } in
    let rest : IsOutcomeIf false (lacks_first t) t stored o = subst (λ b. IsOutcomeIf false b t stored o) (sym lacks) refl in
    (o, subst (λ b. IsOutcomeIf b (lacks_first t) t stored o) (sym other) rest, outcome_added f old new o refl requests reasons ends)

-- what the search comes to
pub sought_outcome : (t : Tracking) (stored : List ConsensusState) (f0 f1 : Folders) (old mid new : Told)
    → list_any is_other_client t.own.contents.items ≡ false → lacks_first t ≡ false → f1 ≡ f0
    → mid.requests ≡ with_needed f0 old.requests (first_needs t) → mid.reasons ≡ old.reasons → mid.ends ≡ with_ends old.ends (first_ends t)
    → ((o : Outcome) × IsSought t stored o × (new ≡ with_outcome f1 mid o))
    → (o : Outcome) × IsOutcome t stored o × (new ≡ with_outcome f0 old o)
sought_outcome t stored f0 f1 old mid new other lacks same requests reasons ends (o, sought, is) =
    let rest : IsOutcomeIf false (lacks_first t) t stored o = subst (λ b. IsOutcomeIf false b t stored o) (sym lacks) sought in
    let asked : mid.requests ≡ old.requests = requests ∙ ap (with_needed f0 old.requests) (none_first t lacks) ∙ added_none f0 old.requests in
    let said : mid.ends ≡ old.ends = ends ∙ ap (with_ends old.ends) (none_ended t lacks) ∙ ended_none old.ends in
    let was : mid ≡ old = λ k. record { requests = asked k; reasons = reasons k; ends = said k } in
    (o, subst (λ b. IsOutcomeIf b (lacks_first t) t stored o) (sym other) rest, is ∙ ap (λ g. with_outcome g mid o) same ∙ ap (λ m. with_outcome f0 m o) was)
