-- How many rounds ask about steps from one trusted height.
use Rattle.std.proofs.Common.{◌≡◌, ◌≢◌, ◌⊎◌, ℕ, zero, suc, ◌+◌, ◌-◌, ◌^◌, ◌<◌, ◌≤◌, List, [], ◌∷◌, length, get_or, Bool, true, false, All, Option, Some, None, inl, inr, refl, sym, ap, subst, ◌∙◌, arith}
use Rattle.std.specs.List.{AllPairs}
use Rattle.std.proofs.Math.Pow.{pow_mono}
use Rattle.std.proofs.lemmas.Bool.{cases_lt, true≢false}
use Rattle.std.proofs.lemmas.List.Elements.{All-tail}
use Rattle.rb_want_requests.specs.Search.{IsGapAfter, IsHalved, IsNext, middle_of}
use Rattle.rb_want_requests.specs.declared.judge.StepJudgement.{StepJudgement}
use Rattle.rb_want_requests.specs.declared.judge.StepJudgement.TheVariants.{Accepted, Refused, Gone, Unknown}
use Rattle.rb_want_requests.specs.declared.searching.Aim.{Aim}
use Rattle.rb_want_requests.specs.Rounds.{Asks, FewFromOne, IsLater, Round, judged_by}

-- ---- judgements

abbrev is_unknown : StepJudgement → Bool
is_unknown Unknown = true
is_unknown _ = false

judged_so : (j : StepJudgement) → is_unknown j ≡ false → j ≢ Unknown
judged_so j is same = true≢false (sym (ap is_unknown same) ∙ is)

abbrev is_refused : StepJudgement → Bool
is_refused Refused = true
is_refused _ = false

not_both : (i j : StepJudgement) → is_refused i ≡ false → i ≡ j → j ≡ Refused → ⊥
not_both i j passes same is = true≢false (sym (ap is_refused (same ∙ is)) ∙ passes)

-- ---- gaps

module _ (aim : Aim) (trusted : ℕ) where
  -- this gap is left after so many halvings, by these judgements
  abbrev pub Gap : (ℕ → ℕ → StepJudgement) → ℕ → ℕ → ℕ → Type 0
  Gap judge n floor ceiling = IsGapAfter (judged_by judge) aim trusted n floor ceiling

  abbrev Halved : (ℕ → ℕ → StepJudgement) → ℕ → ℕ → ℕ → ℕ → Type 0
  Halved judge floor ceiling lower upper = IsHalved (judged_by judge) trusted floor ceiling lower upper

  abbrev Stay : (ℕ → ℕ → StepJudgement) → (ℕ → ℕ → StepJudgement) → Type 0
  Stay before after = (t h : ℕ) → before t h ≢ Unknown → after t h ≡ before t h

  judged_stays : (before after : ℕ → ℕ → StepJudgement) (h : ℕ) (j : StepJudgement) → Stay before after → is_unknown j ≡ false → before trusted h ≡ j
      → after trusted h ≡ j
  judged_stays before after h j stay other is = stay trusted h (subst (λ i. i ≢ Unknown) (sym is) (judged_so j other)) ∙ is

  halved_stays : (before after : ℕ → ℕ → StepJudgement) (f c lower upper : ℕ) → Stay before after → Halved before f c lower upper
      → Halved after f c lower upper
  halved_stays before after f c lower upper stay (wide, inl (low, up, inl is)) =
      (wide, inl (low, up, inl (judged_stays before after lower Accepted stay refl is)))
  halved_stays before after f c lower upper stay (wide, inl (low, up, inr is)) =
      (wide, inl (low, up, inr (judged_stays before after lower Gone stay refl is)))
  halved_stays before after f c lower upper stay (wide, inr (low, up, is)) =
      (wide, inr (low, up, judged_stays before after upper Refused stay refl is))

  gap_stays : (before after : ℕ → ℕ → StepJudgement) (n f c : ℕ) → Stay before after → Gap before n f c → Gap after n f c
  gap_stays before after zero f c stay gap = gap
  gap_stays before after (suc n) f c stay (f0, c0, gap, halved) =
      (f0, c0, gap_stays before after n f0 c0 stay gap, halved_stays before after f0 c0 f c stay halved)

  -- the middle that is left as the floor was not refused
  passed : (judge : ℕ → ℕ → StepJudgement) (lower : ℕ) → (judge trusted lower ≡ Accepted) ⊎ (judge trusted lower ≡ Gone) → judge trusted lower ≡ Refused
      → ⊥
  passed judge lower (inl is) other = not_both Accepted (judge trusted lower) refl (sym is) other
  passed judge lower (inr is) other = not_both Gone (judge trusted lower) refl (sym is) other

  -- a gap is halved in one way
  one_half : (judge : ℕ → ℕ → StepJudgement) (f c a b x y : ℕ) → Halved judge f c a b → Halved judge f c x y → (a ≡ x) × (b ≡ y)
  one_half judge f c a b x y (wide, inl (low, up, is)) (more, inl (down, top, other)) = (low ∙ sym down, up ∙ sym top)
  one_half judge f c a b x y (wide, inr (low, up, is)) (more, inr (down, top, other)) = (low ∙ sym down, up ∙ sym top)
  one_half judge f c a b x y (wide, inl (low, up, is)) (more, inr (down, top, other)) =
      absurd (passed judge a is (ap (judge trusted) (low ∙ sym top) ∙ other))
  one_half judge f c a b x y (wide, inr (low, up, is)) (more, inl (down, top, other)) =
      absurd (passed judge x other (ap (judge trusted) (down ∙ sym up) ∙ is))

  -- so many halvings leave one gap
  one_gap : (judge : ℕ → ℕ → StepJudgement) (n a b x y : ℕ) → Gap judge n a b → Gap judge n x y → (a ≡ x) × (b ≡ y)
  one_gap judge zero a b x y (low, up) (down, top) = (low ∙ sym down, up ∙ sym top)
  one_gap judge (suc n) a b x y (f, c, gap, halved) (g, d, other, half) =
      let same = one_gap judge n f c g d gap other in
      let here : Halved judge f c x y =
      subst (λ u. Halved judge u c x y) (sym same.0) (subst (λ v. Halved judge g v x y) (sym same.1) half) in
      one_half judge f c a b x y halved here

  -- the middle of a gap that was halved is judged
  half_judged : (judge : ℕ → ℕ → StepJudgement) (f c a b : ℕ) → Halved judge f c a b → judge trusted (middle_of f c) ≢ Unknown
  half_judged judge f c a b (wide, inl (low, up, inl is)) =
      subst (λ h. judge trusted h ≢ Unknown) low (subst (λ i. i ≢ Unknown) (sym is) (judged_so Accepted refl))
  half_judged judge f c a b (wide, inl (low, up, inr is)) =
      subst (λ h. judge trusted h ≢ Unknown) low (subst (λ i. i ≢ Unknown) (sym is) (judged_so Gone refl))
  half_judged judge f c a b (wide, inr (low, up, is)) =
      subst (λ h. judge trusted h ≢ Unknown) up (subst (λ i. i ≢ Unknown) (sym is) (judged_so Refused refl))

  -- and so is that of each gap before it
  before_judged : (judge : ℕ → ℕ → StepJudgement) (n m f c : ℕ) → n < m → Gap judge m f c
      → (g : ℕ) × (d : ℕ) × Gap judge n g d × (judge trusted (middle_of g d) ≢ Unknown)
  before_judged judge n zero f c less gap = absurd (omega (arith, less))
  before_judged judge n (suc m) f c less (g, d, gap, halved) =
      elim (cases_lt n m) [
        | inl below ↦ before_judged judge n m g d below gap
        | inr over ↦ (g, d, subst (λ k. Gap judge k g d) (omega (arith, less, over)) gap, half_judged judge g d f c halved)
      ]

  -- the middle of a gap after fewer halvings is judged in a later round
  more_halvings : (r s : Round) (m f c n g d : ℕ) → IsLater r s → r.question.trusted ≡ trusted → Gap r.judge m f c → r.question.height ≡ middle_of f c
      → Gap s.judge n g d → s.judge trusted (middle_of g d) ≡ Unknown → m < n
  more_halvings r s m f c n g d (stay, judged) at gap height next unknown =
      elim (cases_lt m n) [
        | inl less ↦ less
        | inr more ↦ absurd (elim (cases_lt n m) [
          | inl fewer ↦
              let earlier = before_judged s.judge n m f c fewer (gap_stays r.judge s.judge m f c stay gap) in
              let same = one_gap s.judge n earlier.0 earlier.1 g d earlier.2 next in
              let middle : middle_of earlier.0 earlier.1 ≡ middle_of g d = λ k. middle_of (same.0 k) (same.1 k) in
              earlier.3 (ap (s.judge trusted) middle ∙ unknown)
          | inr over ↦
              let equal : m ≡ n = omega (arith, more, over) in
              let here : Gap s.judge n f c = subst (λ k. Gap s.judge k f c) equal (gap_stays r.judge s.judge m f c stay gap) in
              let same = one_gap s.judge n f c g d here next in
              let middle : r.question.height ≡ middle_of g d = height ∙ (λ k. middle_of (same.0 k) (same.1 k)) in
              judged ((λ k. s.judge (at k) (middle k)) ∙ unknown)
        ])
      ]

  -- ---- rounds that ask about steps from the trusted height

  abbrev AsksHere : Round → Type 0
  AsksHere r = Asks aim r × (r.question.trusted ≡ trusted)

  -- a round asks about the greatest height that the aim takes, or about the middle of a gap
  abbrev Halves : Round → Type 0
  Halves r = (n : ℕ) × (f : ℕ) × (c : ℕ) × Gap r.judge n f c × ((2 ^ n < aim.most - trusted) × (r.question.height ≡ middle_of f c))

  kind_by : (r : Round) (accepted refused : Option ℕ) → IsNext (judged_by r.judge) aim trusted r.question.height accepted refused
      → (r.question.height ≡ aim.most) ⊎ Halves r
  kind_by r accepted None next = inl next.0
  kind_by r accepted (Some ceiling) (not_accepted, (n, floor, gap, few, from, wide, height)) = inr (n, floor, ceiling, gap, (few, height))

  kind : (r : Round) → AsksHere r → (r.question.height ≡ aim.most) ⊎ Halves r
  kind r (asks, at) =
      kind_by r r.question.accepted r.question.refused
      (subst (λ t. IsNext (judged_by r.judge) aim t r.question.height r.question.accepted r.question.refused) at asks.3)

  -- its step isn't judged
  unjudged : (r : Round) → AsksHere r → r.judge trusted r.question.height ≡ Unknown
  unjudged r (asks, at) = subst (λ t. r.judge t r.question.height ≡ Unknown) at asks.1

  -- so many halvings or more leave the gaps of these rounds
  abbrev AtLeast : ℕ → Round → Type 0
  AtLeast m r = (n f c : ℕ) → Gap r.judge n f c → r.question.height ≡ middle_of f c → m ≤ n

  abbrev IsBelow : Round → Type 0
  IsBelow r = r.question.height ≢ aim.most

  -- after a round that asked about the greatest height, none does
  below_later : (r : Round) (rs : List Round) → All (IsLater r) rs → All AsksHere rs → r.question.trusted ≡ trusted → r.question.height ≡ aim.most
      → All IsBelow rs
  below_later r rs later asks at most = λ k d small same.
      let s = get_or rs k d in
      (later k d small).1 ((λ i. s.judge (at i) ((most ∙ sym same) i)) ∙ unjudged s (asks k d small))

  -- after one that asked about the middle of a gap, each has more halvings
  more_later : (r : Round) (rs : List Round) (m f c : ℕ) → All (IsLater r) rs → All AsksHere rs → r.question.trusted ≡ trusted → Gap r.judge m f c
      → r.question.height ≡ middle_of f c → All (AtLeast (m + 1)) rs
  more_later r rs m f c later asks at gap height = λ k d small n g e next middle.
      let s = get_or rs k d in
      let less : m < n =
      more_halvings r s m f c n g e (later k d small) at gap height next (ap (s.judge trusted) (sym middle) ∙ unjudged s (asks k d small)) in
      omega (arith, less)

  head_later : (r : Round) (rs : List Round) → AllPairs IsLater (r ∷ rs) → All (IsLater r) rs
  head_later r rs pairs = λ k d small. pairs 0 (suc k) d (omega arith) (omega (arith, small))

  tail_later : (r : Round) (rs : List Round) → AllPairs IsLater (r ∷ rs) → AllPairs IsLater rs
  tail_later r rs pairs = λ i j d less small. pairs (suc i) (suc j) d (omega (arith, less)) (omega (arith, small))

  lowered : (m n : ℕ) (rs : List Round) → m ≤ n → All (AtLeast (n + 1)) rs → All (AtLeast (m + 1)) rs
  lowered m n rs low all = λ k d small x g h next middle. let up : n + 1 ≤ x = all k d small x g h next middle in omega (arith, up, low)

  -- with one round to spare at most, which asks about the greatest height, each other one has one halving more than the one before
  few : (spare m e : ℕ) (rs : List Round) → AllPairs IsLater rs → All AsksHere rs → All (AtLeast m) rs → (spare ≡ 0 → All IsBelow rs) → spare ≤ 1
      → spare + 1 ≤ length rs → e + 1 + spare ≡ m + length rs → 2 ^ e < aim.most - trusted
  few spare m e [] pairs asks least below most some sum = absurd (omega (arith, some))
  few spare m e (r ∷ rs) pairs asks least below most some sum =
      elim (kind r (asks 0 r (omega arith))) [
        | inl top ↦
            let own = (asks 0 r (omega arith)).1 in
            let spent : spare ≡ 1 = elim (cases_lt 0 spare) [
              | inl one ↦ omega (arith, one, most)
              | inr none ↦ absurd (below (omega (arith, none)) 0 r (omega arith) top)
            ] in
            few 0 m e rs (tail_later r rs pairs) (All-tail AsksHere r rs asks) (All-tail (AtLeast m) r rs least)
            (λ _. below_later r rs (head_later r rs pairs) (All-tail AsksHere r rs asks) own top)
            (omega arith) (omega (arith, some, spent)) (omega (arith, sum, spent))
        | inr (n, f, c, gap, (small, height)) ↦
            let own = (asks 0 r (omega arith)).1 in
            let low : m ≤ n = least 0 r (omega arith) n f c gap height in
            elim (cases_lt spare (length rs)) [
              | inl more ↦
                  few spare (m + 1) e rs (tail_later r rs pairs) (All-tail AsksHere r rs asks)
                  (lowered m n rs low (more_later r rs n f c (head_later r rs pairs) (All-tail AsksHere r rs asks) own gap height))
                  (λ none. All-tail IsBelow r rs (below none)) most (omega (arith, more)) (omega (arith, sum))
              | inr last ↦
                  let few_halvings : 2 ^ e ≤ 2 ^ n = pow_mono (omega (arith, last, some, sum, low)) in
                  omega (arith, few_halvings, small)
            ]
      ]

pub few_from_one : FewFromOne
few_from_one aim trusted k rounds (pairs, asks) at many =
    let here : All (λ (r : Round). Asks aim r × (r.question.trusted ≡ trusted)) rounds = λ i d small. (asks i d small, at i d small) in
    let power : 2 ^ k ≤ 2 ^ (length rounds - 2) = pow_mono (omega (arith, many)) in
    let small : 2 ^ (length rounds - 2) < aim.most - trusted =
    few aim trusted 1 0 (length rounds - 2) rounds pairs here
    (λ i d within n f c gap height. omega arith) (λ none. absurd (omega (arith, none))) (omega arith)
    (omega (arith, many)) (omega (arith, many)) in
    omega (arith, power, small)
