-- the loop that puts a header's commit voters one after the other
use Rattle.std.proofs.Common.{◌≡◌, ℕ, ◌+◌, ◌<◌, ◌≤◌, Bool, true, false, cond, ltb, List, [], ◌∷◌, ◌++◌, Option, Some, None, length, get_or, slice_get, refl, sym, ap, ◌∙◌, subst, arith}
use Rattle.std.specs.List.{position, position_or_len}
use Rattle.std.specs.Option.{option_map_or}
use Rattle.std.proofs.lemmas.Bool.{ltb-false}
use Rattle.std.proofs.lemmas.List.{append-nil, append_assoc, length-append}
use Rattle.std.proofs.lemmas.List.Folds.{find_at}
use Rattle.std.proofs.lemmas.Option.{slice_get-get_or, slice_get_past}
use Rattle.rb_valset.specs.Validator.{Member, address_of, has_address}
use Rattle.rb_book.specs.Header.{Header, is_commit}
use Rattle.rb_book.specs.declared.vote.Vote.{Vote}
use Rattle.rb_votes.specs.declared.voter.Voter.{Voter}
use Rattle.rb_votes.specs.Places.{StandByPlace}
use Rattle.rb_votes.specs.Voters.{Voters, power_at, voter_at}
use Rattle.rb_step.specs.Carried.{power_in, members_of, voters_of}
use Rattle.rb_step.proofs.CommitVoters.{voter, voters_at, one_votes, one_passes, none_left, voters_stand}

abbrev power_of : Option Member → ℕ
power_of o = option_map_or (λ (m : Member). m.power) o 0

-- the power of the member that is read at a place
pub place_power : (ms items : List Member) (place : ℕ) (m : Member) → items ≡ ms → place < length items → m ≡ get_or items place m → power_at ms place ≡ m.power
place_power ms items place m same within is =
    ap (λ xs. power_of (slice_get xs place)) (sym same) ∙ ap power_of (slice_get-get_or items place m within) ∙ ap (λ (x : Member). x.power) (sym is)

module _ (next : Option (List Member)) (own : List Member) (h : Header) where
  abbrev from : ℕ → List Voter
  from place = voters_at next own h place

  abbrev all : List Voter
  all = voters_of next h own

  -- the voters before the place are put
  pub record IsPut (place : ℕ) (voters : Voters) : Type 0 where
    pub own_is : voters.own ≡ own
    pub trusted_is : voters.trusted ≡ members_of next
    pub few : length voters.list ≤ place
    pub put : voters.list ++ from place ≡ all

  pub put_start : (voters : Voters) → voters.own ≡ own → voters.trusted ≡ members_of next → voters.list ≡ [] → IsPut 0 voters
  put_start voters own_is trusted_is none = record {
    own_is = own_is;
    trusted_is = trusted_is;
    few = (let e = ap (λ ws. length ws) none in omega (arith, e));
    put = ap (λ ws. ws ++ all) none;
  }

  pub put_end : (place : ℕ) (voters : Voters) → IsPut place voters → length own ≤ place → voters.list ≡ all
  put_end place voters p past = sym (append-nil voters.list) ∙ sym (ap (λ ws. voters.list ++ ws) (none_left next own h place past)) ∙ p.put

  module _ (items : List Member) (votes : List Vote) (place : ℕ) (m : Member) (v : Vote) (commits : Bool)
      (same : items ≡ own) (same_votes : votes ≡ h.votes) (signed : length h.votes ≡ length own) (within : place < length items) (is : m ≡ get_or items place m)
      (vote : commits ≡ is_commit (get_or votes place v)) (voters : Voters) (p : IsPut place voters) where
    voter_there : (other : ℕ) → power_at (members_of next) other ≡ power_in next m → voter_at voters.own voters.trusted place other ≡ voter next place m
    voter_there other trusted =
        let power : power_at voters.own place ≡ m.power = place_power voters.own items place m (same ∙ sym p.own_is) within is in
        let lent : power_at voters.trusted other ≡ power_in next m = ap (λ ms. power_at ms other) p.trusted_is ∙ trusted in
        λ i. record { place = place; own = power i; trusted = lent i }

    pub put_more : commits ≡ true → (other : ℕ) → power_at (members_of next) other ≡ power_in next m
        → (new : Voters) → new ≡ record voters { list = voters.list ++ voter_at voters.own voters.trusted place other ∷ [] } → IsPut (place + 1) new
    put_more holds other trusted new is_new =
        let w = voter_at voters.own voters.trusted place other in
        let one : from place ≡ w ∷ from (place + 1) =
        one_votes next own h items votes place m v commits same same_votes signed within is vote holds ∙ ap (λ u. u ∷ from (place + 1)) (sym (voter_there other trusted)) in
        subst (IsPut (place + 1)) (sym is_new) (record {
          own_is = p.own_is;
          trusted_is = p.trusted_is;
          few = omega (arith, p.few, length-append voters.list (w ∷ []));
          put = append_assoc voters.list (w ∷ []) (from (place + 1)) ∙ sym (ap (λ ws. voters.list ++ ws) one) ∙ p.put;
        })

    pub put_past : commits ≡ false → IsPut (place + 1) voters
    put_past fails = record {
      own_is = p.own_is;
      trusted_is = p.trusted_is;
      few = omega (arith, p.few);
      put = sym (ap (λ ws. voters.list ++ ws) (one_passes next own h items votes place m v commits same same_votes signed within is vote fails)) ∙ p.put;
    }

-- the voters that are put stand by place
pub put_stand : (next : Option (List Member)) (own : List Member) (h : Header) (voters : List Voter) → voters ≡ voters_of next h own → StandByPlace voters
put_stand next own h voters is = subst StandByPlace (sym is) (voters_stand next 0 own h.votes)

-- ---- a member's power at its address's place in a set

place_found : (b : Bool) (n k : ℕ) → cond b (Some n) None ≡ Some k → n ≡ k
place_found true n k e = cc
place_found false n k e = cc

none_found : (b : Bool) (m n : ℕ) → b ≡ ltb m n → cond b (Some m) None ≡ None → n ≤ m
none_found true m n is e = cc
none_found false m n is e = ltb-false m n (sym is)

module _ (ms : List Member) (m : Member) where
  abbrev first : ℕ
  first = position_or_len (has_address (address_of m.key)) ms

  at_first : power_of (slice_get ms first) ≡ power_in (Some ms) m
  at_first = sym (ap power_of (find_at (has_address (address_of m.key)) ms))

  pub found_power : (k : ℕ) → position (has_address (address_of m.key)) ms ≡ Some k → power_at ms k ≡ power_in (Some ms) m
  found_power k found = ap (λ n. power_of (slice_get ms n)) (sym (place_found (ltb first (length ms)) first k found)) ∙ at_first

  pub none_power : position (has_address (address_of m.key)) ms ≡ None → power_at ms (length ms) ≡ power_in (Some ms) m
  none_power none =
      let past : length ms ≤ first = none_found (ltb first (length ms)) first (length ms) refl none in
      ap power_of (slice_get_past ms (length ms) (omega arith) ∙ sym (slice_get_past ms first past)) ∙ at_first
