-- What an update costs at most, by the greatest set of a book.
use Rattle.std.proofs.Common.{◌≡◌, ℕ, ◌+◌, ◌*◌, ◌≤◌, ◌==◌, ◌<◌, List, [], ◌∷◌, length, max, Option, Some, None, All, take, get_or, ap, sym, refl, ◌∙◌, subst, arith}
use Rattle.std.specs.Option.{option_map_or}
use Rattle.std.specs.Str.{bytes_eq}
use Rattle.std.proofs.Math.Nat.{mul-le-mul_left}
use Rattle.std.proofs.lemmas.List.{take_all}
use Rattle.std.proofs.lemmas.List.Elements.{All-more}
use Rattle.std.proofs.lemmas.List.Sums.{fold_more}
use Rattle.std.proofs.lemmas.Option.{same_Some}
use Rattle.rb_base.specs.Fee.{Fees, charge_of}
use Rattle.rb_base.specs.Options.{ClientOptions}
use Rattle.rb_valset.specs.Validator.{Member}
use Rattle.rb_valset.specs.ValidatorSet.{set_hash}
use Rattle.rb_book.specs.Book.{Book, set_of, record_at, header_at}
use Rattle.rb_book.specs.Header.{Record, Header}
use Rattle.rb_book.specs.Invariant.{IsBook, IsBacked}
use Rattle.rb_step.specs.Carried.{carried_votes}
use Rattle.rb_step.specs.Fee.{size_of, fee_of}
use Rattle.rb_step.specs.KnownStep.{step_at}
use Rattle.rb_step.specs.StepRule.{Step, step_of}
use Rattle.rb_step.specs.View.{View, IsView, client_of}
use Rattle.rb_explain_plan.specs.Greatest.{most_members}
use Rattle.rb_step.proofs.CarriedBy.{carried_few}
use Rattle.rb_step.proofs.Orderly.{found, bind_some}

-- no set has more members
abbrev pub AreSmall : ℕ → List (List Member) → Type 0
AreSmall n sets = All (λ (m : List Member). length m ≤ n) sets

pub small_none : (sets : List (List Member)) → AreSmall 0 (take 0 sets)
small_none [] = λ k d lt. absurd (omega arith)
small_none (x ∷ xs) = λ k d lt. absurd (omega arith)

pub small_more : (sets : List (List Member)) (i : ℕ) (set : List Member) (most next : ℕ) → i < length sets → set ≡ get_or sets i set → most ≤ next → length set ≤ next
    → AreSmall most (take i sets) → AreSmall next (take (i + 1) sets)
small_more sets i set most next lt is up size small =
    All-more (λ (m : List Member). length m ≤ next) sets i set lt (λ k d within. let here = small k d within in omega arith)
    (subst (λ (m : List Member). length m ≤ next) is size)

pub small_all : (sets : List (List Member)) (i most : ℕ) → length sets ≤ i → AreSmall most (take i sets) → AreSmall most sets
small_all sets i most le small = subst (AreSmall most) (take_all i sets le) small

pub most_none : (sets : List (List Member)) → 0 ≡ most_members (take 0 sets)
most_none [] = refl
most_none (x ∷ xs) = refl

pub most_more : (sets : List (List Member)) (i : ℕ) (set : List Member) (most next : ℕ) → i < length sets → set ≡ get_or sets i set → next ≡ max most (length set)
    → most ≡ most_members (take i sets) → next ≡ most_members (take (i + 1) sets)
most_more sets i set most next lt is next_is most_is =
    next_is ∙ ap (λ (n : ℕ). max n (length set)) most_is ∙ ap (λ (m : List Member). max (most_members (take i sets)) (length m)) is
    ∙ sym (fold_more (λ (n : ℕ) (m : List Member). max n (length m)) 0 sets i set lt)

pub most_all : (sets : List (List Member)) (i most : ℕ) → length sets ≤ i → most ≡ most_members (take i sets) → most ≡ most_members sets
most_all sets i most le is = is ∙ ap most_members (take_all i sets le)

-- what a step is charged for
record IsSmallStep (o : ClientOptions) (n : ℕ) (s : Step) : Type 0 where
  own : length s.own ≤ n
  next : size_of s.next ≤ n
  votes : carried_votes o s.trusted_height s.next s.header s.own ≤ n

module _ (o : ClientOptions) (b : Book) (n : ℕ) (small : AreSmall n b.sets) where
  set_small : (hash : List ℕ) (m : List Member) → set_of b hash ≡ Some m → length m ≤ n
  set_small hash m is = (found (λ (x : List Member). length x ≤ n) (λ (x : List Member). bytes_eq (set_hash x) hash) b.sets m small is).0

  next_small : (hash : List ℕ) (set : Option (List Member)) → set_of b hash ≡ set → size_of set ≤ n
  next_small hash None is = omega arith
  next_small hash (Some m) is = set_small hash m is

  parts_small : IsBook b → (t h : ℕ) (r : Record) (x : Header) (own : List Member) → header_at b h ≡ Some x → set_of b x.set_hash ≡ Some own → IsSmallStep o n (step_of t r (set_of b r.next) x own)
  parts_small book t h r x own header_is own_is =
      let at = found (IsBacked b) (λ (y : Header). y.height == h) b.headers x book.backed header_is in
      let votes : length x.votes ≡ length own = at.0.own.2.votes ∙ ap (λ (m : List Member). length m) (same_Some at.0.own.0 own (sym at.0.own.1 ∙ own_is)) in
      let carried = carried_few o t (set_of b r.next) x own votes in
      let size = set_small x.set_hash own own_is in
      record {
        own = size;
        next = next_small r.next (set_of b r.next) refl;
        votes = omega arith;
      }

  step_small : IsBook b → (t h : ℕ) (s : Step) → step_at b t h ≡ Some s → IsSmallStep o n s
  unfolding step_at
  step_small book t h s known =
      let first = bind_some (record_at b t) _ s known in
      let second = bind_some (header_at b h) _ s first.2 in
      let third = bind_some (set_of b second.0.set_hash) _ s second.2 in
      let is : step_of t first.0 (set_of b first.0.next) second.0 third.0 ≡ s = same_Some _ s third.2 in
      subst (IsSmallStep o n) is (parts_small book t h first.0 second.0 third.0 second.1 third.1)

charge_small : (f : Fees) (n c m : ℕ) → c ≤ n → m ≤ 2 * n → charge_of f c m ≤ charge_of f n (2 * n)
charge_small f n c m commits members =
    let signatures = mul-le-mul_left f.signature commits in
    let validators = mul-le-mul_left f.validator members in
    omega (arith, signatures, validators)

fee_small : (v : View) (n : ℕ) → IsBook v.book → AreSmall n v.book.sets → (t h : ℕ) (o : Option Step) → step_at v.book t h ≡ o → option_map_or (fee_of v.options v.fees) o 0 ≤ charge_of v.fees n (2 * n)
fee_small v n book small t h None is = omega arith
fee_small v n book small t h (Some s) is =
    let parts = step_small v.options v.book n small book t h s is in
    let own = parts.own in
    let next = parts.next in
    charge_small v.fees n (carried_votes v.options s.trusted_height s.next s.header s.own) (length s.own + size_of s.next) parts.votes (omega arith)

pub fee_at_most : (v : View) (n : ℕ) → IsView v → AreSmall n v.book.sets → (t h : ℕ) → (client_of v).fee t h ≤ charge_of v.fees n (2 * n)
unfolding client_of
fee_at_most v n view small t h = fee_small v n view.book small t h (step_at v.book t h) refl
