-- A client over a light store, and the same client over what is left of it, are alike.
use Rattle.std.proofs.Common.{◌≡◌, ℕ, ◌+◌, ◌<◌, ◌≤◌, ◌⊎◌, List, Option, Some, None, inl, inr, refl, sym, ap, subst, arith}
use Rattle.std.specs.List.{Contains}
use Rattle.std.specs.Option.{IsSomeAnd, option_map_or}
use Rattle.std.proofs.lemmas.List.Elements.{All-contains, Contains-append_cases}
use Rattle.rb_base.specs.Fee.{Fees}
use Rattle.rb_base.specs.Options.{ClientOptions}
use Rattle.rb_base.specs.Window.{Span}
use Rattle.rb_book.specs.Header.{Record}
use Rattle.rb_book.specs.Book.{Book, record_at}
use Rattle.rb_step.specs.Fee.{fee_of, fee_at}
use Rattle.rb_step.specs.KnownStep.{step_at, IsAcceptedWithin}
use Rattle.rb_step.specs.StepRule.{AcceptsWithin}
use Rattle.rb_step.specs.View.{View, IsLive, client_of}
use Rattle.rb_super.specs.Alike.{AreAlike}
use Rattle.rb_super.specs.Left.{IsBookLeft, AreStoredLeft}
use Rattle.rb_super.proofs.Books.{made_of, record_here, same_step}
use Rattle.rb_super.proofs.LeftLists.{left_was}

pub some_and : {X : Type 0} (o : Option X) (P : X → Type 0) → IsSomeAnd o P → (x : X) × (o ≡ Some x) × P x
some_and None P p = absurd p
some_and (Some x) P p = (x, refl, p)

some_from : {X : Type 0} (o : Option X) (P : X → Type 0) (x : X) → o ≡ Some x → P x → IsSomeAnd o P
some_from o P x e p = subst (λ q. IsSomeAnd q P) (sym e) p

module _ (o : ClientOptions) (fees : Fees) (w : Span) (ordered : w.from ≤ w.until) where
  abbrev pub over : Book → List ℕ → View
  over b stored = record { options = o; fees = fees; stored = stored; window = w; book = b }

  -- an accepted step rises, and trusts a live height
  pub rises : (b : Book) (stored : List ℕ) (t h : ℕ) → IsAcceptedWithin o b w t h → t < h
  rises b stored t h accepted =
      let at = some_and (step_at b t h) (AcceptsWithin o w) accepted in
      let made = made_of b t h at.0 at.1 in
      let higher = (at.2 w.until (ordered, omega arith)).higher in
      subst (λ x. x < h) made.lower (subst (λ x. at.0.trusted_height < x) made.higher higher)

  pub trusts_live : (b : Book) (stored : List ℕ) (t h : ℕ) → IsAcceptedWithin o b w t h → IsLive (over b stored) t
  trusts_live b stored t h accepted =
      let at = some_and (step_at b t h) (AcceptsWithin o w) accepted in
      let made = made_of b t h at.0 at.1 in
      some_from (record_at b t) (λ (r : Record). w.until < r.time + o.period) at.0.trusted made.trusted (at.2 w.until (ordered, omega arith)).not_expired

  module _ (m : ℕ) (b c : Book) (xs ys : List ℕ) (left : IsBookLeft m b c) where
    pub same_live : (h : ℕ) → m ≤ h → IsLive (over b xs) h ≡ IsLive (over c ys) h
    same_live h le = ap (λ q. IsSomeAnd q (λ (r : Record). w.until < r.time + o.period)) (record_here m b c left h le)

    pub same_accepts : (t h : ℕ) → m ≤ t → m ≤ h → IsAcceptedWithin o b w t h ≡ IsAcceptedWithin o c w t h
    same_accepts t h low high = ap (λ q. IsSomeAnd q (AcceptsWithin o w)) (same_step m b c left t h low high)

    pub same_fee : (t h : ℕ) → m ≤ t → m ≤ h → fee_at o fees b t h ≡ fee_at o fees c t h
    same_fee t h low high = ap (λ q. option_map_or (fee_of o fees) q 0) (same_step m b c left t h low high)

  module _ (m : ℕ) (b c : Book) (xs ys : List ℕ) (left : IsBookLeft m b c) (stored : AreStoredLeft m o.period w b xs ys) where
    stored_there : (h : ℕ) → Contains xs h → IsLive (over b xs) h → (m ≤ h) × Contains ys h
    stored_there h has live = go (Contains-append_cases stored.heights.gone ys h (subst (λ zs. Contains zs h) stored.heights.parts has))
      where
        go : Contains stored.heights.gone h ⊎ Contains ys h → (m ≤ h) × Contains ys h
        go (inl gone) = absurd (All-contains (λ x. IsLive (over b xs) x → ⊥) stored.heights.gone h stored.dead gone live)
        go (inr at) = (All-contains (λ x. m ≤ x) ys h stored.heights.above at, at)

    stored_back : (h : ℕ) → Contains ys h → IsLive (over c ys) h → (m ≤ h) × Contains xs h
    stored_back h has live = (All-contains (λ x. m ≤ x) ys h stored.heights.above has, left_was (λ x. x) m xs ys stored.heights h has)

    above : (t h : ℕ) → m ≤ t → t < h → m ≤ h
    above t h le lt = omega arith

    pub alike : AreAlike m (client_of (over b xs)) (client_of (over c ys))
    unfolding client_of
    alike = record {
      there = record {
        stored = stored_there;
        live = λ h le live. subst (λ (T : Type 0). T) (same_live m b c xs ys left h le) live;
        accepts = λ t h le a. subst (λ (T : Type 0). T) (same_accepts m b c xs ys left t h le (above t h le (rises b xs t h a))) a;
        fee = λ t h le a. same_fee m b c xs ys left t h le (above t h le (rises b xs t h a));
        rises = rises b xs;
        trusts_live = trusts_live b xs;
      };
      back = record {
        stored = stored_back;
        live = λ h le live. subst (λ (T : Type 0). T) (sym (same_live m b c xs ys left h le)) live;
        accepts = λ t h le a. subst (λ (T : Type 0). T) (sym (same_accepts m b c xs ys left t h le (above t h le (rises c ys t h a)))) a;
        fee = λ t h le a. sym (same_fee m b c xs ys left t h le (above t h le (rises c ys t h a)));
        rises = rises c ys;
        trusts_live = trusts_live c ys;
      };
      ties = refl;
    }
