-- What a search for accepted steps comes to, by how steps are judged.
use Rattle.std.specs.Prelude.{◌≡◌, ◌≢◌, ◌⊎◌, ◌+◌, ◌-◌, ◌/◌, ◌^◌, ◌<◌, ◌≤◌, ℕ, zero, suc, List, [], ◌∷◌, Option, Some, None, IfSome, unwrap_or}
use Rattle.rb_want_requests.specs.declared.judge.StepJudgement.{StepJudgement}
use Rattle.rb_want_requests.specs.declared.judge.StepJudgement.TheVariants.{Accepted, Gone, Never, Refused, Unknown}
use Rattle.rb_want_requests.specs.declared.searching.Aim.{Aim}
use Rattle.rb_want_requests.specs.declared.searching.Question.{Question}
use Rattle.rb_want_requests.specs.declared.searching.SearchOutcome.{SearchOutcome}
use Rattle.rb_want_requests.specs.declared.searching.SearchOutcome.TheVariants.{Asks, Reached, Stuck}

-- how the step from a trusted height to another is judged
abbrev pub Judgements : Type 1
Judgements = ℕ → ℕ → StepJudgement → Type 0

-- the step is judged, and not as accepted
abbrev pub IsNotAccepted : Judgements → ℕ → ℕ → Type 0
IsNotAccepted judges trusted height = (j : StepJudgement) × judges trusted height j × (j ≢ Accepted) × (j ≢ Unknown)

-- the step goes up, and no higher than the aim
abbrev pub IsWithin : Aim → ℕ → ℕ → Type 0
IsWithin aim trusted height = (trusted < height) × (height ≤ aim.most)

-- a search goes up from the height, or from a greater one that isn't given
abbrev pub IsFloor : Judgements → ℕ → ℕ → ℕ → Type 0
IsFloor judges trusted height floor = (height ≤ floor) × ((floor ≡ height) ⊎ judges trusted floor Gone)

-- no height is left between one from which a search goes up and a greater one to which no step is accepted
abbrev pub IsFrontier : Judgements → ℕ → ℕ → Type 0
IsFrontier judges trusted height =
    (floor : ℕ) × (ceiling : ℕ) × IsFloor judges trusted height floor × (floor < ceiling) × (ceiling ≤ floor + 1) × IsNotAccepted judges trusted ceiling

-- the greatest height that the aim takes, one that serves, or one above which no step is accepted
abbrev pub IsFarthest : Judgements → Aim → ℕ → ℕ → Type 0
IsFarthest judges aim trusted height = (height ≡ aim.most) ⊎ (aim.least ≤ height) ⊎ IsFrontier judges trusted height

-- an accepted step goes up to the farthest height
abbrev pub IsFarthestStep : Judgements → Aim → ℕ → ℕ → Type 0
IsFarthestStep judges aim trusted height =
    IsWithin aim trusted height × judges trusted height Accepted × IsFarthest judges aim trusted height

-- farthest steps to these heights in turn lead from a height to another, each from one below what serves
abbrev pub Lead : Judgements → Aim → ℕ → List ℕ → ℕ → Type 0
Lead judges aim from [] to = from ≡ to
Lead judges aim from (h ∷ hs) to = (from < aim.least) × IsFarthestStep judges aim from h × Lead judges aim h hs to

-- farthest steps lead to the height from the first one
abbrev pub IsReached : Judgements → Aim → ℕ → ℕ → Type 0
IsReached judges aim first height = (hops : List ℕ) × Lead judges aim first hops height

-- the height is one that the aim wants, or no lower than its greatest
abbrev pub Suffices : Aim → ℕ → Type 0
Suffices aim height = (aim.least ≤ height) ⊎ (aim.most ≤ height)

-- the middle of a gap
abbrev pub middle_of : ℕ → ℕ → ℕ
middle_of floor ceiling = floor + (ceiling - floor) / 2

-- of a gap with a middle the upper half is left where the step to the middle is accepted, or the middle isn't given, and the lower one where that step is
-- refused
abbrev pub IsHalved : Judgements → ℕ → ℕ → ℕ → ℕ → ℕ → Type 0
IsHalved judges trusted floor ceiling lower upper =
    (floor + 1 < ceiling)
    × (((lower ≡ middle_of floor ceiling) × (upper ≡ ceiling) × (judges trusted lower Accepted ⊎ judges trusted lower Gone))
    ⊎ ((lower ≡ floor) × (upper ≡ middle_of floor ceiling) × judges trusted upper Refused))

-- so many halvings leave this gap of that between the trusted height and the greatest that the aim takes
abbrev pub IsGapAfter : Judgements → Aim → ℕ → ℕ → ℕ → ℕ → Type 0
IsGapAfter judges aim trusted zero floor ceiling = (floor ≡ trusted) × (ceiling ≡ aim.most)
IsGapAfter judges aim trusted (suc k) floor ceiling =
    (f : ℕ) × (c : ℕ) × IsGapAfter judges aim trusted k f c × IsHalved judges trusted f c floor ceiling

-- The height is the middle of the gap that halvings leave, each by a step that was judged. The gap lies between a height from which a search goes up, which
-- is the greatest that is accepted or else the trusted one, or a greater one that isn't given, and a greater one to which no step is accepted. So few
-- halvings were made that 2 to their number is less than the heights between the trusted one and the greatest that the aim takes.
abbrev pub HalvesGap : Judgements → Aim → ℕ → ℕ → Option ℕ → ℕ → Type 0
HalvesGap judges aim trusted height accepted ceiling =
    IsNotAccepted judges trusted ceiling
    × ((halvings : ℕ) × (floor : ℕ) × IsGapAfter judges aim trusted halvings floor ceiling × (2 ^ halvings < aim.most - trusted)
    × IsFloor judges trusted (unwrap_or accepted trusted) floor × (floor + 1 < ceiling) × (height ≡ middle_of floor ceiling))

-- the height is the greatest that the aim takes where no other was judged yet, and else halves the gap below the least that was refused
abbrev pub IsNext : Judgements → Aim → ℕ → ℕ → Option ℕ → Option ℕ → Type 0
IsNext judges aim trusted height accepted None = (height ≡ aim.most) × (accepted ≡ None)
IsNext judges aim trusted height accepted (Some ceiling) = HalvesGap judges aim trusted height accepted ceiling

-- a question is about the next step, which can't be judged yet; the height that it names as accepted is
abbrev pub IsQuestion : Judgements → Aim → Question → Type 0
IsQuestion judges aim q =
    IsWithin aim q.trusted q.height × judges q.trusted q.height Unknown × IfSome q.accepted (λ h. judges q.trusted h Accepted)
    × IsNext judges aim q.trusted q.height q.accepted q.refused

-- no step goes on from the trusted height: the one to the height is refused as each other is, or it isn't accepted, and none is left below
abbrev pub IsDeadEnd : Judgements → ℕ → ℕ → Type 0
IsDeadEnd judges trusted height =
    judges trusted height Never
    ⊎ (IsNotAccepted judges trusted height × ((floor : ℕ) × IsFloor judges trusted trusted floor × (floor < height) × (height ≤ floor + 1)))

-- A search ends where farthest steps lead: at a height that suffices; or at one below what serves, from which a step is asked for that can't be
-- judged yet, or no step goes on.
abbrev pub IsFinding : Judgements → ℕ → Aim → SearchOutcome → Type 0
IsFinding judges first aim (Reached height) = IsReached judges aim first height × Suffices aim height
IsFinding judges first aim (Asks q) = IsReached judges aim first q.trusted × (q.trusted < aim.least) × IsQuestion judges aim q
IsFinding judges first aim (Stuck trusted height) =
    IsReached judges aim first trusted × (trusted < aim.least) × IsWithin aim trusted height × IsDeadEnd judges trusted height
