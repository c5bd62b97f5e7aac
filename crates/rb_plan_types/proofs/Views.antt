-- What the book of a view says of its client.
use Rattle.std.proofs.Common.{◌≡◌, ℕ, ◌+◌, ◌<◌, ◌≤◌, ◌^◌, ◌⊎◌, List, length, get_or, inl, inr, ap, sym, ◌∙◌, refl, subst, arith, Option, Some, None, IsSome, IsSomeAnd}
use Rattle.std.specs.List.{Contains, find, slice_get}
use Rattle.std.specs.Option.{option_map}
use Rattle.std.proofs.lemmas.Bool.{cases_lt, false≢true}
use Rattle.std.proofs.lemmas.List.{length-map, get_or-map}
use Rattle.std.proofs.lemmas.Option.{slice_get-get_or}
use Rattle.std.proofs.lemmas.List.Elements.{All-contains}
use Rattle.rb_base.specs.Options.{ClientOptions}
use Rattle.rb_base.specs.Window.{Span}
use Rattle.rb_book.specs.Book.{Book, RecordAt, height_of, header_height, heights_of, is_at, record_at, header_at, set_of}
use Rattle.rb_book.specs.Header.{Record, Header}
use Rattle.rb_book.specs.Invariant.{IsBacked}
use Rattle.rb_step.specs.Answer.{answer_within}
use Rattle.rb_step.specs.KnownStep.{◌>>=◌, step_at}
use Rattle.rb_step.specs.Laws.{SuccessIsAcceptance}
use Rattle.rb_step.specs.StepRule.{Step, step_of, AcceptsWithin}
use Rattle.rb_step.specs.View.{View, IsView, client_of}
use Rattle.rb_step.specs.declared.verdict.Verdict.{Verdict}
use Rattle.rb_step.specs.declared.verdict.Verdict.TheVariants.{Success, NotEnoughTrust, Invalid}
use Rattle.rb_plan_types.specs.Lookups.{AreAllKnown}
use Rattle.rb_plan_types.proofs.Existence.{IsDecided}
use Rattle.rb_plan_types.proofs.Lookups.{find-some}

-- a height with a record is among the heights of the records
recorded_is_known : (b : Book) (h : ℕ) → IsSome (record_at b h) → Contains (heights_of b) h
recorded_is_known b h some = go (find (is_at h) b.records) refl some
  where
    go : (o : Option RecordAt) → find (is_at h) b.records ≡ o → IsSome (option_map (λ (k : RecordAt). k.record_of) o) → Contains (heights_of b) h
    go None e some = absurd (false≢true some)
    go (Some k) e some = place (find-some height_of b.records h k e)
      where
        place : Contains b.records k × (height_of k ≡ h) → Contains (heights_of b) h
        place ((n, inside, at), same) =
            let l : length (heights_of b) ≡ length b.records = length-map b.records height_of in
            (n, omega arith, get_or-map height_of b.records n k h inside ∙ ap height_of at ∙ same)

-- a known step leads to a known header
pub step_has_header : (b : Book) (t h : ℕ) (P : Step → Type 0) → IsSomeAnd (step_at b t h) P → (x : Header) × (header_at b h ≡ Some x)
unfolding step_at
step_has_header b t h P known = go (record_at b t) (header_at b h) refl known
  where
    go : (o : Option Record) (p : Option Header) → header_at b h ≡ p
        → IsSomeAnd (o >>= (λ trusted. p >>= (λ header. set_of b header.set_hash >>= (λ own. Some (step_of t trusted (set_of b trusted.next) header own))))) P
        → (x : Header) × (header_at b h ≡ Some x)
    go None p e known = absurd known
    go (Some r) None e known = absurd known
    go (Some r) (Some x) e known = (x, e)

-- the heights of the book's records are known heights of the client
pub known_of_view : (v : View) → IsView v → AreAllKnown (client_of v) (heights_of v.book)
unfolding client_of
known_of_view v is = record {
  rising = is.book.records.heights;
  few = few;
  stored = λ h there. recorded_is_known v.book h (All-contains (λ k. IsSome (record_at v.book k)) v.stored h is.stored.recorded there);
  steps = λ t h accepted. backed h (step_has_header v.book t h (AcceptsWithin v.options v.window) accepted);
}
  where
    few : length (heights_of v.book) ≤ 2 ^ 12
    few = let n : length (heights_of v.book) ≡ length v.book.records = length-map v.book.records height_of in omega (arith, is.book.few_records, is.book.limit.1)

    backed : (h : ℕ) → (x : Header) × (header_at v.book h ≡ Some x) → Contains (heights_of v.book) h
    backed h (x, e) = go (find-some header_height v.book.headers h x e)
      where
        go : Contains v.book.headers x × (header_height x ≡ h) → Contains (heights_of v.book) h
        go (there, same) =
            let recorded : record_at v.book x.height ≡ Some x.record_of = (All-contains (IsBacked v.book) v.book.headers x is.book.backed there).recorded in
            recorded_is_known v.book h (subst (λ (k : ℕ). IsSome (record_at v.book k)) same (subst (λ (o : Option Record). IsSome o) (sym recorded) refl))

-- a record read at a place, as the known height at that place
pub height_read : (book : Book) (items : List RecordAt) (n h : ℕ) (k : RecordAt) → items ≡ book.records → n < length items → k ≡ get_or items n k → h ≡ k.height
    → (n < length (heights_of book)) × (h ≡ get_or (heights_of book) n h)
height_read book items n h k same inside read e =
    let l : length (heights_of book) ≡ length book.records = length-map book.records height_of in
    let m : length items ≡ length book.records = ap (λ (xs : List RecordAt). length xs) same in
    let here : k ≡ get_or book.records n k = read ∙ ap (λ (xs : List RecordAt). get_or xs n k) same in
    (omega arith, e ∙ ap (λ (x : RecordAt). x.height) here ∙ sym (get_or-map height_of book.records n k h (omega arith)))

-- after all records, after all known heights
pub heights_end : (book : Book) (items : List RecordAt) (n : ℕ) → items ≡ book.records → n ≤ length items → length items ≤ n → n ≡ length (heights_of book)
heights_end book items n same low high =
    let l : length (heights_of book) ≡ length book.records = length-map book.records height_of in
    let m : length items ≡ length book.records = ap (λ (xs : List RecordAt). length xs) same in
    omega arith

-- it can be told whether an answer is success
success_or_not : (answer : Verdict) → (answer ≡ Success) ⊎ (answer ≡ Success → ⊥)
success_or_not Success = inl refl
success_or_not (NotEnoughTrust signed total) = inr (λ e. absurd cc)
success_or_not (Invalid reason) = inr (λ e. absurd cc)

-- and so whether a step is accepted at every moment of a window
accepted_or_not : SuccessIsAcceptance → (o : ClientOptions) (w : Span) → w.from ≤ w.until → (step : Option Step) → IsSomeAnd step (AcceptsWithin o w) ⊎ (IsSomeAnd step (AcceptsWithin o w) → ⊥)
accepted_or_not success o w ordered None = inr (λ never. absurd never)
accepted_or_not success o w ordered (Some s) = go (success_or_not (answer_within o w s))
  where
    go : (answer_within o w s ≡ Success) ⊎ (answer_within o w s ≡ Success → ⊥) → AcceptsWithin o w s ⊎ (AcceptsWithin o w s → ⊥)
    go (inl e) = inl ((success o w s ordered).0 e)
    go (inr n) = inr (λ a. n ((success o w s ordered).1 a))

-- it can be told which heights are live and which steps are accepted
pub decided_of_view : SuccessIsAcceptance → (v : View) → IsView v → IsDecided (client_of v)
unfolding client_of
decided_of_view success v is = record {
  live = λ h. live (record_at v.book h);
  accepts = λ t h. accepted_or_not success v.options v.window is.window (step_at v.book t h);
}
  where
    live : (o : Option Record) → IsSomeAnd o (λ r. v.window.until < r.time + v.options.period) ⊎ (IsSomeAnd o (λ r. v.window.until < r.time + v.options.period) → ⊥)
    live None = inr (λ never. absurd never)
    live (Some r) = go (cases_lt v.window.until (r.time + v.options.period))
      where
        go : (v.window.until < r.time + v.options.period) ⊎ (r.time + v.options.period ≤ v.window.until) → (v.window.until < r.time + v.options.period) ⊎ (v.window.until < r.time + v.options.period → ⊥)
        go (inl p) = inl p
        go (inr q) = inr (λ p. absurd (omega arith))

-- what is told of the record at a place, and of the record that was read there
pub told_there : (b : Book) (records : List RecordAt) (n : ℕ) (k : RecordAt) (P : RecordAt → Type 0) → records ≡ b.records → n < length records → k ≡ get_or records n k → IsSomeAnd (slice_get b.records n) P → P k
told_there b records n k P same lt is told =
    subst (λ (o : Option RecordAt). IsSomeAnd o P) (ap (λ (ks : List RecordAt). slice_get ks n) (sym same) ∙ slice_get-get_or records n k lt ∙ ap (λ (x : RecordAt). Some x) (sym is)) told

pub told_here : (b : Book) (records : List RecordAt) (n : ℕ) (k : RecordAt) (P : RecordAt → Type 0) → records ≡ b.records → n < length records → k ≡ get_or records n k → P k → IsSomeAnd (slice_get b.records n) P
told_here b records n k P same lt is told =
    subst (λ (o : Option RecordAt). IsSomeAnd o P) (sym (ap (λ (ks : List RecordAt). slice_get ks n) (sym same) ∙ slice_get-get_or records n k lt ∙ ap (λ (x : RecordAt). Some x) (sym is))) told
