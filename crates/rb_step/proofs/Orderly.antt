-- In a view steps rise, only live heights are trusted, a stored step is live, and fees are small.
use Rattle.std.proofs.Common.{◌≡◌, ℕ, ◌+◌, ◌*◌, ◌<◌, ◌≤◌, ◌==◌, Bool, true, false, cond, List, [], ◌∷◌, Option, Some, None, find, length, refl, sym, ap, ◌∙◌, subst, arith, lit<}
use Rattle.std.specs.List.{All}
use Rattle.std.specs.Option.{IsSomeAnd, option_map_or}
use Rattle.std.specs.Str.{bytes_eq}
use Rattle.std.proofs.lemmas.Bool.{eqb-true}
use Rattle.std.proofs.lemmas.List.Elements.{All-head, All-tail}
use Rattle.std.proofs.lemmas.Option.{same_Some}
use Rattle.std.proofs.Math.Nat.{mul-le-mul}
use Rattle.rb_base.specs.Fee.{Fees, charge_of, IsFeeTable}
use Rattle.rb_valset.specs.Validator.{Member}
use Rattle.rb_valset.specs.ValidatorSet.{IsValidatorSet, max_members, set_hash}
use Rattle.rb_book.specs.Book.{Book, set_of, record_at, header_at}
use Rattle.rb_book.specs.Header.{Record, Header}
use Rattle.rb_book.specs.Invariant.{IsBook, IsBacked}
use Rattle.rb_step.specs.Carried.{carried_votes}
use Rattle.rb_step.specs.Fee.{size_of, fee_of, fee_limit}
use Rattle.rb_step.specs.KnownStep.{◌>>=◌, step_at}
use Rattle.rb_step.specs.Laws.{ViewsAreOrderly}
use Rattle.rb_step.specs.StepRule.{Step, step_of, Accepts, AcceptsWithin}
use Rattle.rb_step.specs.View.{View, IsView, IsLive, client_of}
use Rattle.rb_step.proofs.CarriedBy.{carried_few}

-- what is found passes the test, and is what all elements are
found_here : {X : Type 0} (P : X → Type 0) (p : X → Bool) (y x : X) (b : Bool) (rest : Option X) → p y ≡ b → P y → (rest ≡ Some x → P x × (p x ≡ true)) → cond b (Some y) rest ≡ Some x → P x × (p x ≡ true)
found_here {X} P p y x true rest is here later e = (subst P (same_Some y x e) here, ap p (sym (same_Some y x e)) ∙ is)
found_here P p y x false rest is here later e = later e

pub found : {X : Type 0} (P : X → Type 0) (p : X → Bool) (xs : List X) (x : X) → All P xs → find p xs ≡ Some x → P x × (p x ≡ true)
found P p [] x all e = absurd (cc)
found P p (y ∷ ys) x all e = found_here P p y x (p y) (find p ys) refl (All-head P y ys all) (found P p ys x (All-tail P y ys all)) e

pub bind_some : {A B : Type 0} (o : Option A) (f : A → Option B) (y : B) → (o >>= f) ≡ Some y → (x : A) × (o ≡ Some x) × (f x ≡ Some y)
bind_some None f y e = absurd (cc)
bind_some (Some x) f y e = (x, refl, e)

-- what makes up the step that a book knows
record Parts (b : Book) (t h : ℕ) (s : Step) : Type 0 where
  trusted : record_at b t ≡ Some s.trusted
  header : header_at b h ≡ Some s.header
  own : set_of b s.header.set_hash ≡ Some s.own
  next : s.next ≡ set_of b s.trusted.next
  height : s.trusted_height ≡ t

parts_of : (b : Book) (t h : ℕ) (s : Step) → step_at b t h ≡ Some s → Parts b t h s
unfolding step_at
parts_of b t h s known =
    let first = bind_some (record_at b t) _ s known in
    let second = bind_some (header_at b h) _ s first.2 in
    let third = bind_some (set_of b second.0.set_hash) _ s second.2 in
    let is : step_of t first.0 (set_of b first.0.next) second.0 third.0 ≡ s = same_Some _ s third.2 in
    subst (Parts b t h) is (record { trusted = first.1; header = second.1; own = third.1; next = refl; height = refl })

-- the header of a known step is at its height, its record is known, and its own set has as many members as it has votes
record Backing (b : Book) (h : ℕ) (s : Step) : Type 0 where
  height : s.header.height ≡ h
  recorded : record_at b h ≡ Some s.header.record_of
  votes : length s.header.votes ≡ length s.own
  few : length s.own ≤ max_members

backing_of : (b : Book) (t h : ℕ) (s : Step) → IsBook b → Parts b t h s → Backing b h s
backing_of b t h s book parts =
    let at = found (IsBacked b) (λ (x : Header). x.height == h) b.headers s.header book.backed parts.header in
    let height : s.header.height ≡ h = eqb-true _ _ at.1 in
    let own = found IsValidatorSet (λ (m : List Member). bytes_eq (set_hash m) s.header.set_hash) b.sets s.own book.sets parts.own in
    record {
      height = height;
      recorded = ap (record_at b) (sym height) ∙ at.0.recorded;
      votes = at.0.own.2.votes ∙ ap (λ (m : List Member). length m) (same_Some at.0.own.0 s.own (sym at.0.own.1 ∙ parts.own));
      few = own.0.few;
    }

size-le : (b : Book) (hash : List ℕ) (n : Option (List Member)) → IsBook b → n ≡ set_of b hash → size_of n ≤ max_members
size-le b hash None book is = omega arith
size-le b hash (Some m) book is = (found IsValidatorSet (λ (x : List Member). bytes_eq (set_hash x) hash) b.sets m book.sets (sym is)).0.few

-- what a step is charged for is within the limits of sets, and so is the charge
charge-lt : (f : Fees) (c n : ℕ) → IsFeeTable f → c ≤ max_members → n ≤ 2 * max_members → charge_of f c n < fee_limit
charge-lt f c n small few_votes few_members =
    let signatures = mul-le-mul small.1 few_votes in
    let validators = mul-le-mul small.2 few_members in
    omega (arith, small.0, signatures, validators)

fee-lt : (v : View) → IsView v → (t h : ℕ) (known : Option Step) → step_at v.book t h ≡ known → option_map_or (fee_of v.options v.fees) known 0 < fee_limit
fee-lt v view t h None is = lit< tt
fee-lt v view t h (Some s) is =
    let parts = parts_of v.book t h s is in
    let backing = backing_of v.book t h s view.book parts in
    let next = size-le v.book s.trusted.next s.next view.book parts.next in
    let votes = carried_few v.options s.trusted_height s.next s.header s.own backing.votes in
    charge-lt v.fees (carried_votes v.options s.trusted_height s.next s.header s.own) (length s.own + size_of s.next) view.fees
    (omega (arith, votes, backing.few)) (omega (arith, backing.few, next))

-- the known step that is accepted
record Accepted (v : View) (t h : ℕ) : Type 0 where
  step : Step
  parts : Parts v.book t h step
  backing : Backing v.book h step
  last : Accepts v.options v.window.until step

accepted : (v : View) → IsView v → (t h : ℕ) (known : Option Step) → step_at v.book t h ≡ known → IsSomeAnd known (AcceptsWithin v.options v.window) → Accepted v t h
accepted v view t h None is never = absurd never
accepted v view t h (Some s) is throughout =
    let parts = parts_of v.book t h s is in
    record {
      step = s;
      parts = parts;
      backing = backing_of v.book t h s view.book parts;
      last = throughout v.window.until (view.window, omega arith);
    }

live_at : (v : View) (h : ℕ) (r : Record) → record_at v.book h ≡ Some r → v.window.until < r.time + v.options.period → IsLive v h
live_at v h r known live = subst (λ (o : Option Record). IsSomeAnd o (λ x. v.window.until < x.time + v.options.period)) (sym known) live

pub views_are_orderly_lem : ViewsAreOrderly
unfolding client_of
views_are_orderly_lem v view = record {
  rises = λ t h a. (let x = from t h a in omega (arith, x.last.higher, x.parts.height, x.backing.height));
  trusts_live = λ t h a. (let x = from t h a in live_at v t x.step.trusted x.parts.trusted x.last.not_expired);
  stores_live = λ t h a. (let x = from t h a in live_at v h x.step.header.record_of x.backing.recorded (omega (arith, x.last.not_expired, x.last.later)));
  small = λ t h. fee-lt v view t h (step_at v.book t h) refl;
}
  where
    from : (t h : ℕ) → IsSomeAnd (step_at v.book t h) (AcceptsWithin v.options v.window) → Accepted v t h
    from t h a = accepted v view t h (step_at v.book t h) refl a
