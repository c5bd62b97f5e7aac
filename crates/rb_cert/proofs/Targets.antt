-- The steps to a header that is known with its own set.
use Rattle.std.proofs.Common.{◌≡◌, ◌≢◌, ℕ, ◌+◌, ◌⊎◌, ◌↔◌, List, inl, inr, ap, sym, ◌∙◌, refl, subst, arith, Option, Some, None, slice_get}
use Rattle.std.specs.List.{Contains}
use Rattle.std.specs.Option.{IsSomeAnd, IfSome, option_map_or}
use Rattle.std.proofs.lemmas.List.Elements.{All-contains}
use Rattle.std.proofs.lemmas.Option.{none-some, same_Some}
use Rattle.rb_base.specs.Fraction.{Exceeds, two_thirds}
use Rattle.rb_valset.specs.Validator.{Member}
use Rattle.std.specs.Str.{bytes_eq}
use Rattle.rb_valset.specs.ValidatorSet.{IsValidatorSet, set_hash, total_of}
use Rattle.rb_book.specs.Book.{RecordAt, header_height, has_hash, record_at, header_at, set_of}
use Rattle.rb_book.specs.Header.{Header, IsSignedBy}
use Rattle.rb_book.specs.Invariant.{IsBacked}
use Rattle.rb_step.specs.Fee.{fee_of}
use Rattle.rb_step.specs.KnownStep.{step_at}
use Rattle.rb_step.specs.SignedPower.{signed_power}
use Rattle.rb_step.specs.StepRule.{Step, step_of, Accepts, AcceptsWithin}
use Rattle.rb_step.specs.View.{View, IsView, client_of}
use Rattle.rb_step.proofs.Orderly.{bind_some, found}
use Rattle.rb_plan_types.specs.Labelling.{Labels}
use Rattle.rb_plan_types.proofs.Lookups.{find-at}
use Rattle.rb_cert.specs.Checks.{AreStepsIntoLow}
use Rattle.rb_cert.specs.Places.{IsMarked}
use Rattle.rb_cert.specs.Refused.{IsJudgedBy, AreRefused}
use Rattle.rb_cert.specs.Target.{IsTarget}
use Rattle.rb_cert.proofs.RecordAt.{headers_rise}
use Rattle.rb_cert.proofs.Refusals.{bind_is, found_at, record_is}

module _ (v : View) (view : IsView v) where
  header_is : (header : Header) → Contains v.book.headers header → header_at v.book header.height ≡ Some header
  header_is header there = find-at header_height v.book.headers header header.height (headers_rise v view) there refl

  -- a header of the book, with the set that a look-up finds
  pub target_of : (header : Header) (own : List Member) → Contains v.book.headers header → set_of v.book header.set_hash ≡ Some own → IsTarget v.book header own
  target_of header own there is =
      let backed : IsBacked v.book header = All-contains (IsBacked v.book) v.book.headers header view.book.backed there in
      record {
        there = header_is header there;
        known = is;
        signed = subst (IsSignedBy header) (same_Some backed.own.0 own (sym backed.own.1 ∙ is)) backed.own.2;
      }

  pub step_to : (k : RecordAt) (header : Header) (own : List Member) → Contains v.book.records k → IsTarget v.book header own
      → step_at v.book k.height header.height ≡ Some (step_of k.height k.record_of (set_of v.book k.record_of.next) header own)
  unfolding step_at
  step_to k header own there target =
      bind_is (record_at v.book k.height) _ k.record_of (record_is v view k there) ∙ bind_is (header_at v.book header.height) _ header target.there ∙ bind_is (set_of v.book header.set_hash) _ own target.known

  pub fee_to : (k : RecordAt) (header : Header) (own : List Member) → Contains v.book.records k → IsTarget v.book header own
      → fee_of v.options v.fees (step_of k.height k.record_of (set_of v.book k.record_of.next) header own) ≡ (client_of v).fee k.height header.height
  unfolding client_of
  fee_to k header own there target = sym (ap (λ (o : Option Step). option_map_or (fee_of v.options v.fees) o 0) (step_to k header own there target))

  -- the header's own set is a validator set
  pub own_is_set : (header : Header) (own : List Member) → IsTarget v.book header own → IsValidatorSet own
  own_is_set header own target = (found IsValidatorSet (λ (m : List Member). bytes_eq (set_hash m) header.set_hash) v.book.sets own view.book.sets target.known).0

  -- a step that isn't adjacent is refused where the header's commit voters hold too little of the record's next set
  refused_by_set : (k : RecordAt) (header : Header) (own next : List Member) → Contains v.book.records k → IsTarget v.book header own → k.height + 1 ≢ header.height → set_of v.book k.record_of.next ≡ Some next
      → ¬ Exceeds (signed_power next own header) (total_of next) v.options.trust → ¬ (client_of v).Accepts k.height header.height
  unfolding client_of
  refused_by_set k header own next there target apart known few accepted =
      let throughout : IsSomeAnd (Some (step_of k.height k.record_of (set_of v.book k.record_of.next) header own)) (AcceptsWithin v.options v.window) =
      subst (λ (o : Option Step). IsSomeAnd o (AcceptsWithin v.options v.window)) (step_to k header own there target) accepted in
      let a : Accepts v.options v.window.until (step_of k.height k.record_of (set_of v.book k.record_of.next) header own) = throughout v.window.until (view.window, omega arith) in
      few (subst (λ (o : Option (List Member)). IfSome o (λ n. Exceeds (signed_power n own header) (total_of n) v.options.trust)) known (a.trusted_signed (λ adjacent. apart (sym adjacent))))

  -- so one more set refuses all steps that are judged by it
  pub ruled_out_more : (header : Header) (own next : List Member) (set : ℕ) (words marked : List ℕ) → IsTarget v.book header own → slice_get v.book.sets set ≡ Some next
      → ¬ Exceeds (signed_power next own header) (total_of next) v.options.trust → ((p : ℕ) → IsMarked marked p ↔ (IsMarked words p ⊎ (p ≡ set))) → AreRefused words v header.height → AreRefused marked v header.height
  ruled_out_more header own next set words marked target at few more so_far n other n_there n_by mark accepted = go ((more other).0 mark)
    where
      go : IsMarked words other ⊎ (other ≡ set) → ⊥
      go (inl before) = so_far n other n_there n_by before accepted
      go (inr same) =
          let by : IsJudgedBy v n header.height set = subst (IsJudgedBy v n header.height) same n_by in
          refused_by_set n header own next n_there target by.not_adjacent (found_at (has_hash n.record_of.next) v.book.sets set by.place ∙ at) few accepted

  -- nor is the step from one record
  pub ruled_out : (k : RecordAt) (header : Header) (own next : List Member) (set : ℕ) → Contains v.book.records k → IsTarget v.book header own → IsJudgedBy v k header.height set → slice_get v.book.sets set ≡ Some next
      → ¬ Exceeds (signed_power next own header) (total_of next) v.options.trust → ¬ (client_of v).Accepts k.height header.height
  ruled_out k header own next set there target by at few accepted =
      refused_by_set k header own next there target by.not_adjacent (found_at (has_hash k.record_of.next) v.book.sets set by.place ∙ at) few accepted

  -- an accepted step to a header is signed by two thirds of the header's own set, which is known
  record IsOwnSigned (header : Header) : Type 0 where
    own : List Member
    known : set_of v.book header.set_hash ≡ Some own
    signed : Exceeds (signed_power own own header) (total_of own) two_thirds

  own_signed : (header : Header) (t : ℕ) → Contains v.book.headers header → (client_of v).Accepts t header.height → IsOwnSigned header
  unfolding client_of step_at
  own_signed header t there accepted = go (step_at v.book t header.height) refl accepted
    where
      go : (o : Option Step) → step_at v.book t header.height ≡ o → IsSomeAnd o (AcceptsWithin v.options v.window) → IsOwnSigned header
      go None e never = absurd never
      go (Some s) e throughout =
          let first = bind_some (record_at v.book t) _ s e in
          let second = bind_some (header_at v.book header.height) _ s first.2 in
          let third = bind_some (set_of v.book second.0.set_hash) _ s second.2 in
          let is : step_of t first.0 (set_of v.book first.0.next) second.0 third.0 ≡ s = same_Some _ s third.2 in
          let a : Accepts v.options v.window.until s = throughout v.window.until (view.window, omega arith) in
          let b : Accepts v.options v.window.until (step_of t first.0 (set_of v.book first.0.next) second.0 third.0) = subst (Accepts v.options v.window.until) (sym is) a in
          let same : second.0 ≡ header = same_Some second.0 header (sym second.1 ∙ header_is header there) in
          let found : IsOwnSigned second.0 = record { own = third.0; known = third.1; signed = b.own_signed } in
          subst IsOwnSigned same found

  -- so no step leads to one that isn't
  pub low_of_unknown : (label : Labels) (header : Header) → Contains v.book.headers header → set_of v.book header.set_hash ≡ None → AreStepsIntoLow (client_of v) label header.height
  low_of_unknown label header there unknown t c is accepted =
      let signed = own_signed header t there accepted in
      absurd (none-some signed.own (sym unknown ∙ signed.known))

  pub low_of_unsigned : (label : Labels) (header : Header) (own : List Member) → Contains v.book.headers header → IsTarget v.book header own → ¬ Exceeds (signed_power own own header) (total_of own) two_thirds
      → AreStepsIntoLow (client_of v) label header.height
  low_of_unsigned label header own there target few t c is accepted =
      let signed = own_signed header t there accepted in
      let same : signed.own ≡ own = same_Some signed.own own (sym signed.known ∙ target.known) in
      absurd (few (subst (λ (x : List Member). Exceeds (signed_power x x header) (total_of x) two_thirds) same signed.signed))
