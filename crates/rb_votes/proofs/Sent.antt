-- what is sent: a part of the voters, enough, and at most what each test needs by itself
use Rattle.std.proofs.Common.{◌≡◌, ℕ, ◌+◌, ◌-◌, ◌*◌, ◌≤◌, ◌<◌, ◌⊎◌, min, leb, List, [], ◌++◌, length, take, drop, sym, ap, ◌∙◌, subst, inl, inr, arith}
use Rattle.std.specs.List.{sum_by, remove}
use Rattle.std.specs.List.Sorted.{IsPermutation}
use Rattle.std.proofs.lemmas.Bool.{cond_both, leb-true, leb-false}
use Rattle.std.proofs.lemmas.List.{length-append, append-nil, append_assoc}
use Rattle.std.proofs.lemmas.List.Sums.{sum_by-append}
use Rattle.std.proofs.lemmas.List.Sorted.{IsPermutation-refl, IsPermutation-trans, IsPermutation-append_left, IsPermutation-append_right, sum_by-IsPermutation}
use Rattle.rb_votes.specs.declared.voter.Voter.{Voter}
use Rattle.rb_votes.specs.declared.voter.Needed.{Needed}
use Rattle.rb_votes.specs.Votes.{Passes, IsPart, falling, fewest_by, fewest_then, thinned, rising, sent_votes}
use Rattle.rb_votes.proofs.Orders.{falling_same, rising_same, at_most_first}
use Rattle.rb_votes.proofs.Thinned.{thinned_le, thinned_part, thinned_passes, thinned_needed}
use Rattle.rb_votes.proofs.Prefixes.{prefix_reaches, prefix_short, prefix_none, prefix_and_rest}

-- some of what are some of the voters
pub part_of_part : (some more voters : List Voter) → IsPart some more → IsPart more voters → IsPart some voters
part_of_part some more voters inner outer = (
  inner.0 ++ outer.0,
  subst (IsPermutation voters) (append_assoc some inner.0 outer.0)
      (IsPermutation-trans voters (more ++ outer.0) ((some ++ inner.0) ++ outer.0) outer.1 (IsPermutation-append_left outer.0 more (some ++ inner.0) inner.1)),
)

module _ (f : Voter → ℕ) where
  -- the voters that the fewest votes leave, by place
  abbrev pub others : ℕ → List Voter → List Voter
  others needed voters = rising (drop (length (fewest_by f needed voters)) (falling f voters))

  pub fewest_split : (needed : ℕ) (voters : List Voter) → IsPermutation voters (fewest_by f needed voters ++ others needed voters)
  fewest_split needed voters =
      let first = fewest_by f needed voters in
      let rest = drop (length first) (falling f voters) in
      IsPermutation-trans voters (first ++ rest) (first ++ rising rest)
      (subst (IsPermutation voters) (sym (prefix_and_rest f needed (falling f voters))) (falling_same f voters))
      (IsPermutation-append_right first rest (rising rest) (rising_same rest))

  pub fewest_reach : (needed : ℕ) (voters : List Voter) → needed ≤ sum_by f voters → needed ≤ sum_by f (fewest_by f needed voters)
  fewest_reach needed voters enough =
      prefix_reaches f needed (falling f voters) (omega (arith, enough, sum_by-IsPermutation f voters (falling f voters) (falling_same f voters)))

  pub part_power : (voters votes : List Voter) → IsPart votes voters → sum_by f votes ≤ sum_by f voters
  part_power voters votes part =
      omega (arith, sum_by-append f votes part.0, sum_by-IsPermutation f voters (votes ++ part.0) part.1)

  pub first_most : (voters votes : List Voter) → IsPart votes voters → sum_by f votes ≤ sum_by f (take (length votes) (falling f voters))
  first_most voters votes part =
      let h = at_most_first f voters [] voters votes part.0 (IsPermutation-refl voters) part.1 in omega (arith, h)

  pub fewest_least : (needed : ℕ) (voters votes : List Voter) → IsPart votes voters → needed ≤ sum_by f votes
      → length (fewest_by f needed voters) ≤ length votes
  fewest_least needed voters votes part enough =
      prefix_short f (length votes) needed (falling f voters) (omega (arith, enough, first_most voters votes part))

module _ (f : Voter → ℕ) (needed : ℕ) (g : Voter → ℕ) (more : ℕ) where
  -- what is left to have of the other power
  abbrev lacking : List Voter → ℕ
  lacking voters = more - sum_by g (fewest_by f needed voters)

  abbrev second : List Voter → List Voter
  second voters = fewest_by g (lacking voters) (others f needed voters)

  pub then_part : (voters : List Voter) → IsPart (fewest_then f needed g more voters) voters
  then_part voters =
      let first = fewest_by f needed voters in
      let rest = others f needed voters in
      let left = others g (lacking voters) rest in
      let all : IsPermutation voters (first ++ (second voters ++ left)) =
      IsPermutation-trans voters (first ++ rest) (first ++ (second voters ++ left)) (fewest_split f needed voters)
      (IsPermutation-append_right first rest (second voters ++ left) (fewest_split g (lacking voters) rest)) in
      (left, subst (IsPermutation voters) (sym (append_assoc first (second voters) left)) all)

  pub then_first : (voters : List Voter) → needed ≤ sum_by f voters → needed ≤ sum_by f (fewest_then f needed g more voters)
  then_first voters enough =
      omega (arith, fewest_reach f needed voters enough, sum_by-append f (fewest_by f needed voters) (second voters))

  pub then_second : (voters : List Voter) → more ≤ sum_by g voters → more ≤ sum_by g (fewest_then f needed g more voters)
  then_second voters enough =
      let first = fewest_by f needed voters in
      let rest = others f needed voters in
      let total = sum_by-IsPermutation g voters (first ++ rest) (fewest_split f needed voters) in
      let reach = fewest_reach g (lacking voters) rest (omega (arith, enough, total, sum_by-append g first rest)) in
      omega (arith, reach, sum_by-append g first (second voters))

  pub then_length : (voters votes : List Voter) → IsPart votes voters → more ≤ sum_by g votes
      → length (fewest_then f needed g more voters) ≤ length (fewest_by f needed voters) + length votes
  then_length voters votes part enough =
      let first = fewest_by f needed voters in
      let rest = others f needed voters in
      let most = at_most_first g voters first rest votes part.0 (fewest_split f needed voters) part.1 in
      omega (
        arith,
        length-append first (second voters),
        prefix_short g (length votes) (lacking voters) (falling g rest) (omega (arith, most, enough)),
      )

  pub then_alone : (voters : List Voter) → more ≤ sum_by g (fewest_by f needed voters)
      → fewest_then f needed g more voters ≡ fewest_by f needed voters
  then_alone voters decides =
      let first = fewest_by f needed voters in
      let none : lacking voters ≡ 0 = omega (arith, decides) in
      ap (λ n. first ++ fewest_by g n (others f needed voters)) none
      ∙ ap (λ ws. first ++ ws) (prefix_none g (falling g (others f needed voters))) ∙ append-nil first

module _ (needed : Needed) (voters : List Voter) where
  abbrev pub all_by_own : List Voter
  all_by_own = fewest_then (λ v. v.own) needed.own (λ v. v.trusted) needed.trusted voters

  abbrev pub all_by_trusted : List Voter
  all_by_trusted = fewest_then (λ v. v.trusted) needed.trusted (λ v. v.own) needed.own voters

  abbrev pub by_own : List Voter
  by_own = thinned needed [] all_by_own

  abbrev pub by_trusted : List Voter
  by_trusted = thinned needed [] all_by_trusted

  -- what both candidates have is had by the one that is sent
  pub either : (P : List Voter → Type 0) → P by_own → P by_trusted → P (sent_votes needed voters)
  either P a b = cond_both (leb (length by_own) (length by_trusted)) by_own by_trusted P (λ _. a) (λ _. b)

  pub own_sent : (votes other : List Voter) → votes ≡ by_own → other ≡ by_trusted → length votes ≤ length other → votes ≡ sent_votes needed voters
  own_sent votes other own trusted fewer =
      let long = ap (λ ws. length ws) own in
      let longer = ap (λ ws. length ws) trusted in
      cond_both (leb (length by_own) (length by_trusted)) by_own by_trusted (λ ws. votes ≡ ws)
      (λ _. own) (λ more. absurd (omega (arith, fewer, long, longer, leb-false (length by_own) (length by_trusted) more)))

  pub trusted_sent : (votes other : List Voter) → other ≡ by_own → votes ≡ by_trusted → length votes < length other → votes ≡ sent_votes needed voters
  trusted_sent votes other own trusted fewer =
      let long = ap (λ ws. length ws) own in
      let longer = ap (λ ws. length ws) trusted in
      cond_both (leb (length by_own) (length by_trusted)) by_own by_trusted (λ ws. votes ≡ ws)
      (λ less. absurd (omega (arith, fewer, long, longer, leb-true (length by_own) (length by_trusted) less))) (λ _. trusted)

  -- it is the shorter one
  pub sent_min : (n : ℕ) → n ≡ min (length by_own) (length by_trusted) → n ≡ length (sent_votes needed voters)
  sent_min n is =
      cond_both (leb (length by_own) (length by_trusted)) by_own by_trusted (λ ws. n ≡ length ws)
      (λ fewer. omega (arith, is, leb-true (length by_own) (length by_trusted) fewer))
      (λ more. omega (arith, is, leb-false (length by_own) (length by_trusted) more))

  sent_le : (n : ℕ) → (length all_by_own ≤ n) ⊎ (length all_by_trusted ≤ n) → length (sent_votes needed voters) ≤ n
  sent_le n (inl a) =
      let a' : length by_own ≤ n = omega (arith, a, thinned_le needed [] all_by_own) in
      cond_both (leb (length by_own) (length by_trusted)) by_own by_trusted (λ ws. length ws ≤ n)
      (λ _. a') (λ more. omega (arith, a', leb-false (length by_own) (length by_trusted) more))
  sent_le n (inr b) =
      let b' : length by_trusted ≤ n = omega (arith, b, thinned_le needed [] all_by_trusted) in
      cond_both (leb (length by_own) (length by_trusted)) by_own by_trusted (λ ws. length ws ≤ n)
      (λ fewer. omega (arith, b', leb-true (length by_own) (length by_trusted) fewer)) (λ _. b')

  pub sent_part : IsPart (sent_votes needed voters) voters
  sent_part =
      either (λ ws. IsPart ws voters)
      (part_of_part by_own all_by_own voters (thinned_part needed [] all_by_own)
      (then_part (λ v. v.own) needed.own (λ v. v.trusted) needed.trusted voters))
      (part_of_part by_trusted all_by_trusted voters (thinned_part needed [] all_by_trusted)
      (then_part (λ v. v.trusted) needed.trusted (λ v. v.own) needed.own voters))

  pub sent_enough : Passes needed voters → Passes needed (sent_votes needed voters)
  sent_enough all =
      either (Passes needed)
      (thinned_passes needed [] all_by_own (record {
        own = then_first (λ v. v.own) needed.own (λ v. v.trusted) needed.trusted voters all.own;
        trusted = then_second (λ v. v.own) needed.own (λ v. v.trusted) needed.trusted voters all.trusted;
      }))
      (thinned_passes needed [] all_by_trusted (record {
        own = then_second (λ v. v.trusted) needed.trusted (λ v. v.own) needed.own voters all.own;
        trusted = then_first (λ v. v.trusted) needed.trusted (λ v. v.own) needed.own voters all.trusted;
      }))

  pub none_superfluous : (k : ℕ) → k < length (sent_votes needed voters) → ¬ Passes needed (remove (sent_votes needed voters) k)
  none_superfluous =
      either (λ ws. (k : ℕ) → k < length ws → ¬ Passes needed (remove ws k))
      (λ k inside. thinned_needed needed [] [] all_by_own (omega arith) (omega arith) k inside)
      (λ k inside. thinned_needed needed [] [] all_by_trusted (omega arith) (omega arith) k inside)

  pub sent_least : (votes : List Voter)
      → (needed.trusted ≤ sum_by (λ v. v.trusted) (fewest_by (λ v. v.own) needed.own voters))
      ⊎ (needed.own ≤ sum_by (λ v. v.own) (fewest_by (λ v. v.trusted) needed.trusted voters))
      → IsPart votes voters → Passes needed votes → length (sent_votes needed voters) ≤ length votes
  sent_least votes (inl own) part passes =
      let alone = ap (λ ws. length ws) (then_alone (λ v. v.own) needed.own (λ v. v.trusted) needed.trusted voters own) in
      sent_le (length votes) (inl (omega (arith, alone, fewest_least (λ v. v.own) needed.own voters votes part passes.own)))
  sent_least votes (inr trusted) part passes =
      let alone = ap (λ ws. length ws) (then_alone (λ v. v.trusted) needed.trusted (λ v. v.own) needed.own voters trusted) in
      sent_le (length votes) (inr (omega (arith, alone, fewest_least (λ v. v.trusted) needed.trusted voters votes part passes.trusted)))

  pub sent_both : Passes needed voters
      → length (sent_votes needed voters)
      ≤ length (fewest_by (λ v. v.own) needed.own voters) + length (fewest_by (λ v. v.trusted) needed.trusted voters)
  sent_both passes =
      let votes = fewest_by (λ v. v.trusted) needed.trusted voters in
      let part : IsPart votes voters = (others (λ v. v.trusted) needed.trusted voters, fewest_split (λ v. v.trusted) needed.trusted voters) in
      sent_le (length (fewest_by (λ v. v.own) needed.own voters) + length votes)
      (inl (then_length (λ v. v.own) needed.own (λ v. v.trusted) needed.trusted voters votes part
      (fewest_reach (λ v. v.trusted) needed.trusted voters passes.trusted)))

  pub sent_twice : (votes : List Voter) → IsPart votes voters → Passes needed votes → length (sent_votes needed voters) ≤ 2 * length votes
  sent_twice votes part passes =
      let second = then_length (λ v. v.own) needed.own (λ v. v.trusted) needed.trusted voters votes part passes.trusted in
      let first = fewest_least (λ v. v.own) needed.own voters votes part passes.own in
      sent_le (2 * length votes) (inl (omega (arith, second, first)))
