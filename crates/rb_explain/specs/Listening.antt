-- What a listener is given: the explanations of a script's turns, one after another (own choice).
use Rattle.std.specs.Prelude.{◌≡◌, ℕ, ◌+◌, ◌≤◌, ◌⊎◌, Bool, true, false, List, [], ◌∷◌, ◌++◌, length, map, filter, take, slice_get, All, Option, Some, IfSome}
use Rattle.std.specs.List.{range_with_len}
use Rattle.rb_core_model.specs.Standing.{Standing, opening_standing}
use Rattle.rb_super_turn.specs.Judging.{Leads}
use Rattle.rb_super_turn.specs.Script.{Script, Turn}
use Rattle.rb_explain.specs.Turn.{IsTurnExplained}
use Rattle.rb_explain.specs.Wanted.{has_turn}
use Rattle.rb_explain.specs.declared.turn.TurnExplanation.{TurnExplanation}
use Rattle.rb_explain.specs.declared.wanted.Wanted.{Wanted}

-- the explanation of a turn that a listener was given, and whether it asked for the next one
pub record Given (A : Type 0) : Type 0 where
  pub explanation : TurnExplanation A
  pub goes_on : Bool

abbrev pub given : {A : Type 0} → TurnExplanation A → Bool → Given A
given x goes_on = record { explanation = x; goes_on = goes_on }

-- where it is known what the listener was given before, these were given behind it
abbrev pub GivesAll : {A : Type 0} → Option (List (Given A)) → Option (List (Given A)) → List (Given A) → Type 0
GivesAll old new more = IfSome old (λ before. new ≡ Some (before ++ more))

-- one more was given
abbrev pub Gives : {A : Type 0} → Option (List (Given A)) → Option (List (Given A)) → Given A → Type 0
Gives old new g = GivesAll old new (g ∷ [])

-- ---- which explanations

-- the numbers of the turns that are wanted, of the first so many
abbrev pub numbers_wanted : Wanted → ℕ → List ℕ
numbers_wanted wanted count = filter (has_turn wanted) (range_with_len 1 count)

-- the turn with the explanation's number is explained, as the turns before it leave things
pub record IsExplanationOf {A : Type 0} (wanted : Wanted) (start : Standing) (turns : List Turn) (x : TurnExplanation A) : Type 0 where
  pub before : ℕ
  pub number : x.turn ≡ before + 1
  pub begun : Standing
  pub earlier : Leads start (take before turns) begun
  pub turn : Turn
  pub is_turn : slice_get turns before ≡ Some turn
  pub explained : IsTurnExplained begun turn wanted x

-- these explain the wanted turns among the first so many, in their order
pub record AreExplanations {A : Type 0} (wanted : Wanted) (start : Standing) (turns : List Turn) (count : ℕ) (gs : List (Given A)) : Type 0 where
  pub within : count ≤ length turns
  pub numbers : map (λ g. g.explanation.turn) gs ≡ numbers_wanted wanted count
  pub explained : All (λ g. IsExplanationOf wanted start turns g.explanation) gs

-- after each of these the listener asked for the next one
abbrev pub GoOn : {A : Type 0} → List (Given A) → Type 0
GoOn gs = All (λ g. g.goes_on ≡ true) gs

-- these explain all wanted turns, and the listener went on after each
pub record IsWhole {A : Type 0} (wanted : Wanted) (start : Standing) (turns : List Turn) (gs : List (Given A)) : Type 0 where
  pub explanations : AreExplanations wanted start turns (length turns) gs
  pub go_on : GoOn gs

-- these explain the wanted turns up to the last one of these, after which the listener asked for no more
pub record IsStopped {A : Type 0} (wanted : Wanted) (start : Standing) (turns : List Turn) (gs : List (Given A)) : Type 0 where
  pub earlier : List (Given A)
  pub last : Given A
  pub are : gs ≡ earlier ++ last ∷ []
  pub explanations : AreExplanations wanted start turns last.explanation.turn gs
  pub go_on : GoOn earlier
  pub stop : last.goes_on ≡ false

-- ---- what a listener is given by turns

-- the explanations of all wanted turns, or up to the one after which it asks for no more
pub record IsGivenAll {A : Type 0} (wanted : Wanted) (start : Standing) (turns : List Turn) (old new : Option (List (Given A))) : Type 0 where
  pub more : List (Given A)
  pub gives : GivesAll old new more
  pub are : IsWhole wanted start turns more ⊎ IsStopped wanted start turns more

-- the same of a script's turns, from its configuration on
abbrev pub IsGivenScript : {A : Type 0} → Wanted → Script → Option (List (Given A)) → Option (List (Given A)) → Type 0
IsGivenScript wanted script old new = IsGivenAll wanted (opening_standing script.config) script.turns old new

-- ---- (internal) one turn after another

-- a turn that is wanted was given; of another one nothing was, and the next one is asked for
abbrev pub IsGivenOne : {A : Type 0} → Bool → TurnExplanation A → Option (List (Given A)) → Option (List (Given A)) → Bool → Type 0
IsGivenOne true x old new goes_on = Gives old new (given x goes_on)
IsGivenOne false x old new goes_on = (new ≡ old) × (goes_on ≡ true)
