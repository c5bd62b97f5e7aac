-- Records of a light store that may have any number rise, as long as none is refused.
use Rattle.std.proofs.Common.{◌≡◌, ℕ, ◌<◌, ◌==◌, ◌&&◌, nat_lt, nat_le, Bool, true, false, cond, List, length, reverse, count_by, Option, Some, None, is_some, refl, sym, ap, ◌∙◌, subst, arith}
use Rattle.std.specs.List.{find, insert, position, slice_index_or}
use Rattle.std.specs.Option.{option_or}
use Rattle.std.proofs.lemmas.Bool.{lt-ltb, leb-false, true≢false}
use Rattle.std.proofs.lemmas.Option.{none-some}
use Rattle.rb_valset.specs.Validator.{Member}
use Rattle.rb_book.specs.declared.error.BookError.{BookError}
use Rattle.rb_book.specs.declared.error.BookError.TheVariants.{UnknownSet, WrongVerdictCount, BadVote, TimeOrder}
use Rattle.rb_book.specs.Header.{Record, Header, is_bad}
use Rattle.rb_book.specs.Book.{Book, RecordAt, height_of, time_of, is_at, is_below, set_of, record_at, header_at}
use Rattle.rb_book.specs.Intake.{unless, unless_none, placed, breaks_below, breaks_above, breaker, record_refusal_beside, record_refusal, header_refusal_beside, header_refusal_under, header_refusal, with_record, with_header, after_record, after_header}
use Rattle.rb_book.specs.Invariant.{Rises}
use Rattle.rb_book.proofs.Breakers.{IsBetween-new}
use Rattle.rb_book.proofs.Kept.{option_map_none}
use Rattle.rb_book.proofs.Lists.{none_passes, reverse_fails}
use Rattle.rb_book.proofs.Rising.{Up-from_increasing, Up-insert, increasing_from_up}
use Rattle.rb_super.proofs.Refusals.{if_room}

neither : {X : Type 0} (a b : Option X) → option_or a b ≡ None → (a ≡ None) × (b ≡ None)
neither None b e = (refl, e)
neither (Some x) b e = absurd (none-some x (sym e))

rises_with : (ks : List RecordAt) (height : ℕ) (r : Record) → Rises ks → find (is_at height) ks ≡ None → breaker ks height r.time ≡ None → Rises (placed (is_below height) (record { height = height; record_of = r }) ks)
rises_with ks height r rises unknown unbroken =
    let k : RecordAt = record { height = height; record_of = r } in
    let place = count_by (is_below height) ks in
    let between = IsBetween-new ks height place rises.heights (record { absent = unknown; after = refl }) in
    record {
      heights = increasing_from_up height_of (insert ks place k) (Up-insert (λ x y. height_of x < height_of y) ks place k between.within
          (λ j d from lt. between.lower j d lt) between.higher (Up-from_increasing height_of ks rises.heights));
      times = increasing_from_up time_of (insert ks place k) (Up-insert (λ x y. time_of x < time_of y) ks place k between.within
          (λ j d from lt. (let within = between.within in earlier j d (omega arith) (between.lower j d lt)))
          (λ j d le lt. later j d lt (between.higher j d le lt)) (Up-from_increasing time_of ks rises.times));
    }
  where
    none : (find (breaks_below height r.time) (reverse ks) ≡ None) × (find (breaks_above height r.time) ks ≡ None)
    none = neither (find (breaks_below height r.time) (reverse ks)) (find (breaks_above height r.time) ks) (option_map_none height_of (option_or (find (breaks_below height r.time) (reverse ks)) (find (breaks_above height r.time) ks)) unbroken)

    decide : (a b : Bool) → (a && b) ≡ false → a ≡ true → b ≡ false
    decide true b e f = e
    decide false b e f = absurd (true≢false (sym f))

    earlier : (j : ℕ) (d : RecordAt) → j < length ks → height_of (slice_index_or ks j d) < height → time_of (slice_index_or ks j d) < r.time
    earlier j d lt low =
        leb-false r.time (time_of (slice_index_or ks j d))
        (decide (nat_lt (height_of (slice_index_or ks j d)) height) (nat_le r.time (time_of (slice_index_or ks j d))) (reverse_fails (breaks_below height r.time) ks none.0 j d lt) (lt-ltb (height_of (slice_index_or ks j d)) height low))

    later : (j : ℕ) (d : RecordAt) → j < length ks → height < height_of (slice_index_or ks j d) → r.time < time_of (slice_index_or ks j d)
    later j d lt high =
        leb-false (time_of (slice_index_or ks j d)) r.time
        (decide (nat_lt height (height_of (slice_index_or ks j d))) (nat_le (time_of (slice_index_or ks j d)) r.time) (none_passes (breaks_above height r.time) ks none.1 j d lt) (lt-ltb height (height_of (slice_index_or ks j d)) high))

unbroken : (o : Option ℕ) (rest : Option BookError) → if_room (unless_none o TimeOrder rest) ≡ None → o ≡ None
unbroken None rest e = refl
unbroken (Some n) rest e = absurd (none-some (TimeOrder n) (sym e))

module _ (b : Book) (rises : Rises b.records) where
  pub record_rises : (height : ℕ) (r : Record) → if_room (record_refusal b height r) ≡ None → Rises (after_record b height r).records
  record_rises height r ok = go (record_at b height) refl
    where
      go : (o : Option Record) → record_at b height ≡ o → Rises (after_record b height r).records
      go (Some known) e = subst (λ (x : Option Record). Rises (cond (is_some x) b (with_record b height r)).records) (sym e) rises
      go None e =
          subst (λ (x : Option Record). Rises (cond (is_some x) b (with_record b height r)).records) (sym e)
          (rises_with b.records height r rises (option_map_none (λ (k : RecordAt). k.record_of) (find (is_at height) b.records) e)
          (unbroken (breaker b.records height r.time) _ (ap (λ (x : Option Record). if_room (record_refusal_beside x b height r)) (sym e) ∙ ok)))

  -- a new header that isn't refused has a record that isn't
  passed : (p : Bool) (n : Option ℕ) (rest : Option BookError) → if_room (unless p WrongVerdictCount (unless_none n BadVote rest)) ≡ None → if_room rest ≡ None
  passed true None rest e = e
  passed true (Some index) rest e = absurd (none-some (BadVote index) (sym e))
  passed false n rest e = absurd (none-some WrongVerdictCount (sym e))

  beside : (o : Option (List Member)) (h : Header) → if_room (header_refusal_under o b h) ≡ None → if_room (header_refusal_beside (header_at b h.height) b h) ≡ None
  beside None h e = absurd (none-some UnknownSet (sym e))
  beside (Some own) h e = passed (length h.votes == length own) (position is_bad h.votes) (header_refusal_beside (header_at b h.height) b h) e

  pub header_rises : (h : Header) → if_room (header_refusal b h) ≡ None → Rises (after_header b h).records
  header_rises h ok = go (header_at b h.height) refl
    where
      go : (o : Option Header) → header_at b h.height ≡ o → Rises (after_header b h).records
      go (Some known) e = subst (λ (x : Option Header). Rises (cond (is_some x) b (with_header (after_record b h.height h.record_of) h)).records) (sym e) rises
      go None e =
          subst (λ (x : Option Header). Rises (cond (is_some x) b (with_header (after_record b h.height h.record_of) h)).records) (sym e)
          (record_rises h.height h.record_of (ap (λ (x : Option Header). if_room (header_refusal_beside x b h)) (sym e) ∙ beside (set_of b h.set_hash) h ok))
