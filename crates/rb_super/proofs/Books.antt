-- From a height on, a light store knows the same steps as what is left of it.
use Rattle.std.proofs.Common.{◌≡◌, ℕ, ◌<◌, ◌≤◌, ◌==◌, false, Option, Some, None, refl, sym, ap, ◌∙◌, subst, arith}
use Rattle.std.specs.List.{find}
use Rattle.std.specs.Option.{option_map}
use Rattle.std.proofs.lemmas.Bool.{ne_eqb, eqb-true}
use Rattle.std.proofs.lemmas.Option.{same_Some}
use Rattle.rb_book.specs.Header.{Record, Header}
use Rattle.rb_book.specs.Book.{Book, RecordAt, height_of, header_height, is_at, header_is_at, set_of, record_at, header_at}
use Rattle.rb_book.proofs.Lists.{found_passes, found_holds}
use Rattle.rb_step.specs.KnownStep.{◌>>=◌, step_at}
use Rattle.rb_step.specs.StepRule.{Step, step_of}
use Rattle.rb_step.proofs.Orderly.{bind_some}
use Rattle.rb_super.specs.Left.{IsBookLeft}
use Rattle.rb_super.proofs.LeftLists.{find_left}

other : (a b m : ℕ) → a < m → m ≤ b → (a == b) ≡ false
other a b m lt le = ne_eqb a b (λ e. omega arith)

bind_same : {A B : Type 0} (o p : Option A) (f g : A → Option B) → o ≡ p → ((x : A) → o ≡ Some x → f x ≡ g x) → (o >>= f) ≡ (p >>= g)
bind_same None p f g e same = ap (λ q. q >>= g) e
bind_same (Some x) p f g e same = same x refl ∙ ap (λ q. q >>= g) e

mapped_some : {X Y : Type 0} (f : X → Y) (o : Option X) (y : Y) → option_map f o ≡ Some y → (x : X) × (o ≡ Some x) × (f x ≡ y)
mapped_some f None y e = absurd (cc)
mapped_some f (Some x) y e = (x, refl, same_Some (f x) y e)

-- what makes up the step that a light store knows
pub record IsMadeOf (b : Book) (t h : ℕ) (s : Step) : Type 0 where
  pub trusted : record_at b t ≡ Some s.trusted
  pub lower : s.trusted_height ≡ t
  pub higher : s.header.height ≡ h

pub made_of : (b : Book) (t h : ℕ) (s : Step) → step_at b t h ≡ Some s → IsMadeOf b t h s
unfolding step_at
made_of b t h s known =
    let first = bind_some (record_at b t) _ s known in
    let second = bind_some (header_at b h) _ s first.2 in
    let third = bind_some (set_of b second.0.set_hash) _ s second.2 in
    let is : step_of t first.0 (set_of b first.0.next) second.0 third.0 ≡ s = same_Some _ s third.2 in
    let at : second.0.height ≡ h = eqb-true _ _ (found_passes (header_is_at h) b.headers second.0 second.1) in
    subst (IsMadeOf b t h) is (record { trusted = first.1; lower = refl; higher = at })

module _ (m : ℕ) (b c : Book) (left : IsBookLeft m b c) where
  pub record_here : (h : ℕ) → m ≤ h → record_at b h ≡ record_at c h
  record_here h le =
      ap (option_map (λ (k : RecordAt). k.record_of))
      (find_left height_of m b.records c.records left.records (is_at h) (λ k lt. other (height_of k) h m lt le))

  pub header_here : (h : ℕ) → m ≤ h → header_at b h ≡ header_at c h
  header_here h le = find_left header_height m b.headers c.headers left.headers (header_is_at h) (λ k lt. other (header_height k) h m lt le)

  named : (t : ℕ) (r : Record) → record_at c t ≡ Some r → set_of b r.next ≡ set_of c r.next
  named t r at =
      let found = mapped_some (λ (k : RecordAt). k.record_of) (find (is_at t) c.records) r at in
      subst (λ (x : Record). set_of b x.next ≡ set_of c x.next) found.2
      (found_holds (λ (k : RecordAt). set_of b k.record_of.next ≡ set_of c k.record_of.next) (is_at t) c.records found.0 left.next found.1)

  owned : (h : ℕ) (x : Header) → header_at c h ≡ Some x → set_of b x.set_hash ≡ set_of c x.set_hash
  owned h x at = found_holds (λ (k : Header). set_of b k.set_hash ≡ set_of c k.set_hash) (header_is_at h) c.headers x left.own at

  pub same_step : (t h : ℕ) → m ≤ t → m ≤ h → step_at b t h ≡ step_at c t h
  unfolding step_at
  same_step t h low high =
      bind_same (record_at b t) (record_at c t) _ _ (record_here t low)
      (λ r at. bind_same (header_at b h) (header_at c h) _ _ (header_here h high)
      (λ x here. bind_same (set_of b x.set_hash) (set_of c x.set_hash) _ _ (owned h x (sym (header_here h high) ∙ here))
      (λ own is. ap (λ next. Some (step_of t r next x own)) (named t r (sym (record_here t low) ∙ at)))))
