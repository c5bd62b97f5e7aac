-- Rounds of a search: in each, the steps that the ones before asked about are judged.
use Rattle.std.specs.Prelude.{◌≡◌, ◌≢◌, ◌+◌, ◌-◌, ◌*◌, ◌^◌, ◌<◌, ◌≤◌, ℕ, List, All, Contains, length}
use Rattle.std.specs.List.{AllPairs}
use Rattle.rb_want_requests.specs.Search.{IsQuestion, Judgements}
use Rattle.rb_want_requests.specs.declared.judge.StepJudgement.{StepJudgement}
use Rattle.rb_want_requests.specs.declared.judge.StepJudgement.TheVariants.{Unknown}
use Rattle.rb_want_requests.specs.declared.searching.Aim.{Aim}
use Rattle.rb_want_requests.specs.declared.searching.Question.{Question}

-- how each step from a trusted height to another is judged in a round, and which one the search asks about
pub record Round : Type 0 where
  pub judge : ℕ → ℕ → StepJudgement
  pub question : Question

-- that a step is judged so
abbrev pub judged_by : (ℕ → ℕ → StepJudgement) → Judgements
judged_by judge trusted height judgement = judge trusted height ≡ judgement

-- a later round: what was judged stays so, and the step that was asked about is judged
abbrev pub IsLater : Round → Round → Type 0
IsLater r s =
    ((trusted : ℕ) (height : ℕ) → r.judge trusted height ≢ Unknown → s.judge trusted height ≡ r.judge trusted height)
    × (s.judge r.question.trusted r.question.height ≢ Unknown)

-- the question of a round is one of a search to this aim, by the judgements of the round
abbrev pub Asks : Aim → Round → Type 0
Asks aim r = IsQuestion (judged_by r.judge) aim r.question

-- rounds of a search, in their order
abbrev pub AreRounds : Aim → List Round → Type 0
AreRounds aim rounds = AllPairs IsLater rounds × All (Asks aim) rounds

-- of k + 2 rounds that ask about steps from one trusted height, 2^k is less than the heights from there to the greatest that the aim takes
abbrev pub FewFromOne : Type 0
FewFromOne =
    (aim : Aim) (trusted k : ℕ) (rounds : List Round) → AreRounds aim rounds → All (λ r. r.question.trusted ≡ trusted) rounds → k + 2 ≤ length rounds
    → 2 ^ k < aim.most - trusted

-- at most k + 1 rounds ask about steps from each of these trusted heights, from which it is at most 2^k heights to the greatest that the aim takes
abbrev pub FewRounds : Type 0
FewRounds =
    (aim : Aim) (heights : List ℕ) (k : ℕ) (rounds : List Round) → AreRounds aim rounds → All (λ r. Contains heights r.question.trusted) rounds
    → All (λ trusted. aim.most - trusted ≤ 2 ^ k) heights → length rounds ≤ length heights * (k + 1)
