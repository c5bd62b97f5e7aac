-- the loop that takes superfluous votes out, with the number of votes that are left in the place of the votes
use Rattle.std.proofs.Common.{◌≡◌, ℕ, suc, ◌+◌, ◌-◌, ◌≤◌, ◌<◌, List, [], ◌++◌, length, take, drop, get_or, sym, ap, ◌∙◌, refl, arith}
use Rattle.std.specs.List.{sum_by}
use Rattle.std.proofs.Math.Seq.{take-length, drop-length}
use Rattle.std.proofs.lemmas.List.{append-nil, length-append, length-take-le, length-drop, get_or_append_left, get_or-take}
use Rattle.rb_votes.specs.declared.voter.Voter.{Voter}
use Rattle.rb_votes.specs.declared.voter.Needed.{Needed}
use Rattle.rb_votes.specs.Votes.{thinned}
use Rattle.rb_votes.proofs.Thinned.{thinned_le}
use Rattle.rb_votes.proofs.Thinning.{IsThinned, split_at, thinning_goes, thinning_stays}

-- of some votes that are thinned from a place on so many are left
pub record IsCounted (needed : Needed) (old : List Voter) (from own trusted left : ℕ) : Type 0 where
  pub votes : List Voter
  pub thinned_from : IsThinned needed old votes from own trusted
  pub left_is : left ≡ length votes

-- none is looked at yet
pub counted_start : (needed : Needed) (old : List Voter) (own trusted : ℕ) → own ≡ sum_by (λ v. v.own) old → trusted ≡ sum_by (λ v. v.trusted) old
    → IsCounted needed old (length old) own trusted (length old)
counted_start needed old own trusted own_is trusted_is = record {
  votes = old;
  thinned_from = record {
    within = omega arith;
    is = sym (ap (λ ws. ws ++ thinned needed ws (drop (length old) old)) (take-length old)
        ∙ ap (λ ws. old ++ thinned needed old ws) (drop-length old) ∙ append-nil old);
    own_is = own_is;
    trusted_is = trusted_is;
  };
  left_is = refl;
}

-- all are looked at
pub counted_end : (needed : Needed) (old : List Voter) (own trusted left : ℕ) → IsCounted needed old 0 own trusted left → left ≡ length (thinned needed [] old)
counted_end needed old own trusted left c = c.left_is ∙ ap (λ ws. length ws) c.thinned_from.is

module _ (needed : Needed) (old : List Voter) (from i own trusted left : ℕ) (v : Voter)
    (c : IsCounted needed old from own trusted left) (next : from ≡ i + 1) (read : v ≡ get_or old i v) where
  abbrev tail : List Voter
  tail = thinned needed (take from old) (drop from old)

  long : length (take from old) ≡ from
  long = length-take-le from old c.thinned_from.within

  read_there : v ≡ get_or c.votes i v
  read_there =
      read ∙ sym (ap (λ ws. get_or ws i v) c.thinned_from.is
      ∙ get_or_append_left (take from old) tail v i (omega (arith, long, next))
      ∙ get_or-take from old i v (omega (arith, next)))

  pub own_within : v.own ≤ own
  own_within = let s = split_at needed old c.votes from i own trusted v c.thinned_from next read_there in omega (arith, s.own_is)

  pub trusted_within : v.trusted ≤ trusted
  trusted_within = let s = split_at needed old c.votes from i own trusted v c.thinned_from next read_there in omega (arith, s.trusted_is)

  inside : i < length c.votes
  inside = let e = ap (λ ws. length ws) c.thinned_from.is in omega (arith, e, length-append (take from old) tail, long, next)

  pub counting_goes : needed.own ≤ own - v.own → needed.trusted ≤ trusted - v.trusted → IsCounted needed old i (own - v.own) (trusted - v.trusted) (left - 1)
  counting_goes own_enough trusted_enough =
      let new = take i c.votes ++ drop (suc i) c.votes in
      record {
        votes = new;
        thinned_from = thinning_goes needed old c.votes from i own trusted v c.thinned_from next read_there own_enough trusted_enough new refl;
        left_is = omega (
          arith,
          c.left_is,
          inside,
          length-append (take i c.votes) (drop (suc i) c.votes),
          length-take-le i c.votes (omega (arith, inside)),
          length-drop (suc i) c.votes,
        );
      }

  pub counting_stays : (needed.own ≤ own - v.own → needed.trusted ≤ trusted - v.trusted → ⊥) → IsCounted needed old i own trusted left
  counting_stays fails = record {
    votes = c.votes;
    thinned_from = thinning_stays needed old c.votes from i own trusted v c.thinned_from next read_there fails;
    left_is = c.left_is;
  }

-- no more are left than there were
pub counted_le : (needed : Needed) (old : List Voter) (from own trusted left : ℕ) → IsCounted needed old from own trusted left → left ≤ length old
counted_le needed old from own trusted left c =
    let e = ap (λ ws. length ws) c.thinned_from.is in
    omega (
      arith,
      c.left_is,
      e,
      c.thinned_from.within,
      length-append (take from old) (thinned needed (take from old) (drop from old)),
      length-take-le from old c.thinned_from.within,
      thinned_le needed (take from old) (drop from old),
      length-drop from old,
    )
