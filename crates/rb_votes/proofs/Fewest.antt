-- what is sent against the fewest for the own set's test alone, and against all voters where these pass too little
use Rattle.std.proofs.Common.{◌≡◌, ℕ, ◌-◌, ◌≤◌, ◌<◌, ◌⊎◌, eqb, List, [], ◌∷◌, ◌++◌, length, refl, sym, ap, ◌∙◌, subst, inl, inr, arith}
use Rattle.std.specs.List.{sum_by}
use Rattle.std.proofs.lemmas.Bool.{cond_both, eqb-true, cases_lt}
use Rattle.std.proofs.lemmas.List.{length-append, append_assoc}
use Rattle.std.proofs.lemmas.List.Sums.{sum_by-cons, sum_by-append}
use Rattle.std.proofs.lemmas.List.Sorted.{length_permutation, sum_by-IsPermutation}
use Rattle.rb_votes.specs.declared.voter.Voter.{Voter}
use Rattle.rb_votes.specs.declared.voter.Needed.{Needed}
use Rattle.rb_votes.specs.Votes.{Passes, IsPart, are_enough, falling, least_prefix, fewest_by, fewest_then, thinned, sent_votes}
use Rattle.rb_votes.proofs.Orders.{falling_same}
use Rattle.rb_votes.proofs.Thinned.{Passes-from}
use Rattle.rb_votes.proofs.Sent.{others, fewest_split, fewest_reach, part_power, fewest_least, then_part, sent_part, sent_enough, sent_least, either, all_by_own, all_by_trusted}

module _ (needed : Needed) where
  -- votes that don't pass are left as they are
  thinned_keeps : (before vs : List Voter) → ¬ Passes needed (before ++ vs) → thinned needed before vs ≡ vs
  thinned_keeps before [] fails = refl
  thinned_keeps before (v ∷ vs) fails =
      let kept = thinned needed (before ++ v ∷ []) vs in
      let rest : kept ≡ vs = thinned_keeps (before ++ v ∷ []) vs (λ p. fails (subst (Passes needed) (append_assoc before (v ∷ []) vs) p)) in
      cond_both (are_enough needed (before ++ kept)) kept (v ∷ kept) (λ ws. ws ≡ v ∷ vs)
      (λ enough. let p = Passes-from needed (before ++ kept) enough in absurd (fails (record {
        own = omega (arith, p.own, sum_by-append (λ w. w.own) before kept, sum_by-append (λ w. w.own) before (v ∷ vs), sum_by-cons (λ w. w.own) v vs, ap (sum_by (λ w. w.own)) rest);
        trusted = omega (arith, p.trusted, sum_by-append (λ w. w.trusted) before kept, sum_by-append (λ w. w.trusted) before (v ∷ vs), sum_by-cons (λ w. w.trusted) v vs, ap (sum_by (λ w. w.trusted)) rest);
      })))
      (λ _. ap (λ ws. v ∷ ws) rest)

module _ (f : Voter → ℕ) where
  prefix_all : (needed : ℕ) (vs : List Voter) → sum_by f vs < needed → least_prefix f needed vs ≡ vs
  prefix_all needed [] less = refl
  prefix_all needed (v ∷ vs) less =
      let rest = prefix_all (needed - f v) vs (omega (arith, less, sum_by-cons f v vs)) in
      cond_both (eqb needed 0) [] (v ∷ least_prefix f (needed - f v) vs) (λ ws. ws ≡ v ∷ vs)
      (λ none. absurd (omega (arith, less, eqb-true needed 0 none)))
      (λ _. ap (λ ws. v ∷ ws) rest)

  pub fewest_few : (needed : ℕ) (voters : List Voter) → length (fewest_by f needed voters) ≤ length voters
  fewest_few needed voters =
      let first = fewest_by f needed voters in
      let rest = others f needed voters in
      omega (arith, length-append first rest, length_permutation voters (first ++ rest) (fewest_split f needed voters))

  fewest_all : (needed : ℕ) (voters : List Voter) → sum_by f voters < needed → length (fewest_by f needed voters) ≡ length voters
  fewest_all needed voters less =
      let same = falling_same f voters in
      let all = ap (λ ws. length ws) (prefix_all needed (falling f voters) (omega (arith, less, sum_by-IsPermutation f voters (falling f voters) same))) in
      omega (arith, all, length_permutation voters (falling f voters) same)

module _ (f : Voter → ℕ) (needed : ℕ) (g : Voter → ℕ) (more : ℕ) (voters : List Voter) where
  abbrev first : List Voter
  first = fewest_by f needed voters

  abbrev rest : List Voter
  rest = others f needed voters

  abbrev second : List Voter
  second = fewest_by g (more - sum_by g first) rest

  all_first : sum_by f voters < needed → length (fewest_then f needed g more voters) ≡ length voters
  all_first less =
      let part = then_part f needed g more voters in
      omega (
        arith,
        fewest_all f needed voters less,
        length-append first second,
        length-append (fewest_then f needed g more voters) part.0,
        length_permutation voters (fewest_then f needed g more voters ++ part.0) part.1,
      )

  all_second : sum_by g voters < more → length (fewest_then f needed g more voters) ≡ length voters
  all_second less =
      let split = fewest_split f needed voters in
      let sums = sum_by-IsPermutation g voters (first ++ rest) split in
      omega (
        arith,
        fewest_all g (more - sum_by g first) rest (omega (arith, less, sums, sum_by-append g first rest)),
        length-append first second,
        length-append first rest,
        length_permutation voters (first ++ rest) split,
      )

module _ (needed : Needed) (voters : List Voter) where
  not_by_part : (votes : List Voter) → IsPart votes voters → ¬ Passes needed voters → ¬ Passes needed votes
  not_by_part votes part fails p =
      fails (record {
        own = omega (arith, p.own, part_power (λ v. v.own) voters votes part);
        trusted = omega (arith, p.trusted, part_power (λ v. v.trusted) voters votes part);
      })

  kept_whole : (votes : List Voter) → IsPart votes voters → ¬ Passes needed voters → length votes ≡ length voters → length (thinned needed [] votes) ≡ length voters
  kept_whole votes part fails whole = ap (λ ws. length ws) (thinned_keeps needed [] votes (not_by_part votes part fails)) ∙ whole

  by_failed : (sum_by (λ v. v.own) voters < needed.own) ⊎ (sum_by (λ v. v.trusted) voters < needed.trusted)
      → (length (all_by_own needed voters) ≡ length voters) × (length (all_by_trusted needed voters) ≡ length voters)
  by_failed (inl own) = (
    all_first (λ v. v.own) needed.own (λ v. v.trusted) needed.trusted voters own,
    all_second (λ v. v.trusted) needed.trusted (λ v. v.own) needed.own voters own,
  )
  by_failed (inr trusted) = (
    all_second (λ v. v.own) needed.own (λ v. v.trusted) needed.trusted voters trusted,
    all_first (λ v. v.trusted) needed.trusted (λ v. v.own) needed.own voters trusted,
  )

  -- the voters pass, or one of their powers is too little
  outcome : Passes needed voters ⊎ ((sum_by (λ v. v.own) voters < needed.own) ⊎ (sum_by (λ v. v.trusted) voters < needed.trusted))
  outcome = by (cases_lt (sum_by (λ v. v.own) voters) needed.own) (cases_lt (sum_by (λ v. v.trusted) voters) needed.trusted)
    where
      by : (sum_by (λ v. v.own) voters < needed.own) ⊎ (needed.own ≤ sum_by (λ v. v.own) voters)
          → (sum_by (λ v. v.trusted) voters < needed.trusted) ⊎ (needed.trusted ≤ sum_by (λ v. v.trusted) voters)
          → Passes needed voters ⊎ ((sum_by (λ v. v.own) voters < needed.own) ⊎ (sum_by (λ v. v.trusted) voters < needed.trusted))
      by (inl less) other = inr (inl less)
      by (inr own) (inl less) = inr (inr less)
      by (inr own) (inr trusted) = inl (record { own = own; trusted = trusted })

  pub sent_all : ¬ Passes needed voters → length (sent_votes needed voters) ≡ length voters
  sent_all fails = by outcome
    where
      by : Passes needed voters ⊎ ((sum_by (λ v. v.own) voters < needed.own) ⊎ (sum_by (λ v. v.trusted) voters < needed.trusted))
          → length (sent_votes needed voters) ≡ length voters
      by (inl passes) = absurd (fails passes)
      by (inr failed) =
          let whole = by_failed failed in
          either needed voters (λ ws. length ws ≡ length voters)
          (kept_whole (all_by_own needed voters) (then_part (λ v. v.own) needed.own (λ v. v.trusted) needed.trusted voters) fails whole.0)
          (kept_whole (all_by_trusted needed voters) (then_part (λ v. v.trusted) needed.trusted (λ v. v.own) needed.own voters) fails whole.1)

  abbrev own_first : List Voter
  own_first = fewest_by (λ v. v.own) needed.own voters

  own_part : IsPart own_first voters
  own_part = (others (λ v. v.own) needed.own voters, fewest_split (λ v. v.own) needed.own voters)

  pub sent_few : length (sent_votes needed voters) ≤ length voters
  sent_few =
      let sent = sent_votes needed voters in
      let part = sent_part needed voters in
      omega (arith, length-append sent part.0, length_permutation voters (sent ++ part.0) part.1)

  failed_is_not : (sum_by (λ v. v.own) voters < needed.own) ⊎ (sum_by (λ v. v.trusted) voters < needed.trusted) → ¬ Passes needed voters
  failed_is_not (inl own) p = omega (arith, own, p.own)
  failed_is_not (inr trusted) p = omega (arith, trusted, p.trusted)

  pub least_own : length own_first ≤ length (sent_votes needed voters)
  least_own = by outcome
    where
      by : Passes needed voters ⊎ ((sum_by (λ v. v.own) voters < needed.own) ⊎ (sum_by (λ v. v.trusted) voters < needed.trusted))
          → length own_first ≤ length (sent_votes needed voters)
      by (inl passes) =
          fewest_least (λ v. v.own) needed.own voters (sent_votes needed voters) (sent_part needed voters) (sent_enough needed voters passes).own
      by (inr failed) = omega (arith, sent_all (failed_is_not failed), fewest_few (λ v. v.own) needed.own voters)

  pub alone_own : needed.trusted ≤ sum_by (λ v. v.trusted) own_first → length (sent_votes needed voters) ≡ length own_first
  alone_own decides = by (cases_lt (sum_by (λ v. v.own) voters) needed.own)
    where
      by : (sum_by (λ v. v.own) voters < needed.own) ⊎ (needed.own ≤ sum_by (λ v. v.own) voters) → length (sent_votes needed voters) ≡ length own_first
      by (inl less) = sent_all (failed_is_not (inl less)) ∙ sym (fewest_all (λ v. v.own) needed.own voters less)
      by (inr own) =
          let passes : Passes needed own_first = record { own = fewest_reach (λ v. v.own) needed.own voters own; trusted = decides } in
          omega (arith, sent_least needed voters own_first (inl decides) own_part passes, least_own)
