-- What a bisection has found so far, and where it ends.
use Rattle.std.proofs.Common.{◌≡◌, ℕ, ◌+◌, ◌-◌, ◌*◌, ◌/◌, ◌<◌, ◌≤◌, ◌⊎◌, Bool, true, false, cond, List, [], ◌∷◌, ◌++◌, map, filter, max, Option, Some, None, IsTrue, ◌↔◌, ap, sym, refl, subst, ◌∙◌, inl, inr, arith}
use Rattle.std.specs.List.{Contains, reduce, fold}
use Rattle.std.proofs.Math.Nat.{max-eq_left, max-eq_right, le_of_lt}
use Rattle.std.proofs.lemmas.Bool.{cases_lt, and_parts, false≢true, ltb-true, leb-true}
use Rattle.std.proofs.lemmas.List.{append-nil, append_assoc}
use Rattle.rb_book.specs.Book.{Book, header_height}
use Rattle.rb_step.specs.LightClient.{Update, Client, Runs, IsAcceptable, IsStoredAfter}
use Rattle.rb_explain_plan.specs.Search.{IsSoFar, IsNearer, target_of}
use Rattle.rb_explain_plan.specs.Bisection.{Bisects, IsBisection, arrived, accepted, refused, is_between, middle, update_to}
use Rattle.rb_step.specs.View.{View, client_of}
use Rattle.rb_graph.specs.StepTable.{IsStepFee}
use Rattle.rb_plan_types.proofs.Routes.{Contains-cons_first, stored_at_start}
use Rattle.rb_plan.proofs.Serving.{step_told}

-- ---- what the table tells of a step

pub accepted_by_fee : (v : View) (t h fee : ℕ) → IsStepFee (target_of v h) t (Some fee) → IsTrue true ↔ (client_of v).Accepts t h
accepted_by_fee v t h fee told = (λ _. (step_told v t h (Some fee) told).0, λ _. refl)

pub refused_by_fee : (v : View) (t h : ℕ) → IsStepFee (target_of v h) t None → IsTrue false ↔ (client_of v).Accepts t h
refused_by_fee v t h told = (λ f. absurd (false≢true f), λ a. absurd (step_told v t h None told a))

-- ---- the middle is between

max_passes : (p : ℕ → Bool) (a x : ℕ) → p a ≡ true → p x ≡ true → p (max a x) ≡ true
max_passes p a x ha hx = go (cases_lt a x)
  where
    go : (a < x) ⊎ (x ≤ a) → p (max a x) ≡ true
    go (inl lt) = ap p (max-eq_right (le_of_lt lt)) ∙ hx
    go (inr le) = ap p (max-eq_left le) ∙ ha

fold_passes : (p : ℕ → Bool) (a : ℕ) (xs : List ℕ) → p a ≡ true → p (fold max a (filter p xs)) ≡ true
fold_passes p a [] h = h
fold_passes p a (x ∷ xs) h = go (λ y k. fold_passes p y xs k) (p x) refl
  where
    go : ((y : ℕ) → p y ≡ true → p (fold max y (filter p xs)) ≡ true) → (b : Bool) → p x ≡ b → p (fold max a (cond (p x) (x ∷ filter p xs) (filter p xs))) ≡ true
    go rest true e = subst (λ c. p (fold max a (cond c (x ∷ filter p xs) (filter p xs))) ≡ true) (sym e) (rest (max a x) (max_passes p a x h e))
    go rest false e = subst (λ c. p (fold max a (cond c (x ∷ filter p xs) (filter p xs))) ≡ true) (sym e) (rest a h)

same_some : {o : Option ℕ} {x y : ℕ} → o ≡ Some x → o ≡ Some y → x ≡ y
same_some {o} {x} {y} p q = let e : Some x ≡ Some y = sym p ∙ q in cc

none_is_some : {o : Option ℕ} {x : ℕ} → o ≡ None → o ≡ Some x → ⊥
none_is_some {o} {x} p q = let e : None ≡ Some x = sym p ∙ q in cc

first_passes : (p : ℕ → Bool) (xs : List ℕ) (m : ℕ) → reduce max (filter p xs) ≡ Some m → p m ≡ true
first_passes p [] m is = absurd (none_is_some refl is)
first_passes p (x ∷ xs) m is = go (λ k. first_passes p xs m k) (p x) refl
  where
    go : (reduce max (filter p xs) ≡ Some m → p m ≡ true) → (b : Bool) → p x ≡ b → p m ≡ true
    go rest true e = ap p (same_some is (subst (λ c. reduce max (cond c (x ∷ filter p xs) (filter p xs)) ≡ Some (fold max x (filter p xs))) (sym e) refl)) ∙ fold_passes p x xs e
    go rest false e = rest (subst (λ c. reduce max (cond c (x ∷ filter p xs) (filter p xs)) ≡ Some m) e is)

pub middle_above : (b : Book) (trusted tried m : ℕ) → middle b trusted tried ≡ Some m → trusted < m
middle_above b trusted tried m is = ltb-true trusted m (and_parts _ _ (first_passes (is_between trusted ((trusted + tried) / 2)) (map header_height b.headers) m is)).0

pub middle_within : (b : Book) (trusted tried m : ℕ) → middle b trusted tried ≡ Some m → m ≤ (trusted + tried) / 2
middle_within b trusted tried m is = leb-true m ((trusted + tried) / 2) (and_parts _ _ (first_passes (is_between trusted ((trusted + tried) / 2)) (map header_height b.headers) m is)).1

-- ---- a bisection ends

pub nearer_smaller : (wanted trusted tried trusted' tried' : ℕ) → trusted < wanted → wanted < 9223372036854775808 → tried' ≤ wanted → IsNearer wanted trusted tried trusted' tried'
    → (wanted - trusted') * 18446744073709551616 + tried' < (wanted - trusted) * 18446744073709551616 + tried
nearer_smaller wanted trusted tried trusted' tried' below small within (inl (same, lower)) = omega arith
nearer_smaller wanted trusted tried trusted' tried' below small within (inr (above, up)) = omega arith

-- ---- so far

module _ (c : Client) (b : Book) (wanted : ℕ) where
  by_accepted : {trusted tried : ℕ} {us : List Update} → trusted < wanted → c.Accepts trusted tried → Bisects c b wanted trusted tried us
      → (rest : List Update) × Bisects c b wanted tried wanted rest
  by_accepted lt acc (arrived e) = absurd (omega arith)
  by_accepted lt acc (accepted l a h) = (_, h)
  by_accepted lt acc (refused l refusal m h) = absurd (refusal acc)

  by_refused : {trusted tried lower : ℕ} {us : List Update} → trusted < wanted → (c.Accepts trusted tried → ⊥) → middle b trusted tried ≡ Some lower → Bisects c b wanted trusted tried us
      → Bisects c b wanted trusted lower us
  by_refused lt refusal is (arrived e) = absurd (omega arith)
  by_refused lt refusal is (accepted l a h) = absurd (refusal a)
  by_refused {trusted} {tried} {lower} {us} lt refusal is (refused l n m h) = subst (λ k. Bisects c b wanted trusted k us) (same_some m is) h

  stuck : {trusted tried : ℕ} {us : List Update} → trusted < wanted → (c.Accepts trusted tried → ⊥) → middle b trusted tried ≡ None → Bisects c b wanted trusted tried us → ⊥
  stuck lt refusal none (arrived e) = omega arith
  stuck lt refusal none (accepted l a h) = refusal a
  stuck lt refusal none (refused l n m h) = none_is_some none m

  beyond : {trusted tried : ℕ} {us : List Update} → wanted < trusted → Bisects c b wanted trusted tried us → ⊥
  beyond gt (arrived e) = omega arith
  beyond gt (accepted l a h) = omega arith
  beyond gt (refused l n m h) = omega arith

  pub so_far_first : (first : ℕ) → IsSoFar c b wanted first [] first wanted
  so_far_first first = record { on = λ vs h. h; back = λ vs h. (vs, h); above = λ lt. lt; within = omega arith }

  pub so_far_accepted : (first : ℕ) (us : List Update) (trusted tried : ℕ) → trusted < wanted → c.Accepts trusted tried → IsSoFar c b wanted first us trusted tried
      → IsSoFar c b wanted first (us ++ update_to tried trusted ∷ []) tried wanted
  so_far_accepted first us trusted tried lt acc is = record {
    on = λ vs h. subst (IsBisection c b first wanted) (sym (append_assoc us (update_to tried trusted ∷ []) vs)) (is.on (update_to tried trusted ∷ vs) (accepted lt acc h));
    back = λ vs h. let more = is.back vs h in by_accepted lt acc more.1;
    above = λ l. l;
    within = omega arith;
  }

  pub so_far_refused : (first : ℕ) (us : List Update) (trusted tried lower : ℕ) → trusted < wanted → (c.Accepts trusted tried → ⊥) → middle b trusted tried ≡ Some lower
      → IsSoFar c b wanted first us trusted tried → IsSoFar c b wanted first us trusted lower
  so_far_refused first us trusted tried lower lt refusal m is = record {
    on = λ vs h. is.on vs (refused lt refusal m h);
    back = λ vs h. let more = is.back vs h in (more.0, by_refused lt refusal m more.1);
    above = λ l. middle_above b trusted tried lower m;
    within = let half = middle_within b trusted tried lower m in let up = is.above lt in let top = is.within in omega arith;
  }

  pub nearer_accepted : (first : ℕ) (us : List Update) (trusted tried : ℕ) → trusted < wanted → IsSoFar c b wanted first us trusted tried → IsNearer wanted trusted tried tried wanted
  nearer_accepted first us trusted tried lt is = inr (is.above lt, is.within)

  pub nearer_refused : (first : ℕ) (us : List Update) (trusted tried lower : ℕ) → trusted < wanted → middle b trusted tried ≡ Some lower
      → IsSoFar c b wanted first us trusted tried → IsNearer wanted trusted tried trusted lower
  nearer_refused first us trusted tried lower lt m is = inl (refl, (let half = middle_within b trusted tried lower m in let up = is.above lt in omega arith))

  pub so_far_arrived : (first : ℕ) (us : List Update) (trusted tried : ℕ) → trusted ≡ wanted → IsSoFar c b wanted first us trusted tried → IsBisection c b first wanted us
  so_far_arrived first us trusted tried e is = subst (IsBisection c b first wanted) (append-nil us) (is.on [] (arrived e))

  pub so_far_stuck : (first : ℕ) (us : List Update) (trusted tried : ℕ) → trusted < wanted → (c.Accepts trusted tried → ⊥) → middle b trusted tried ≡ None → IsSoFar c b wanted first us trusted tried
      → (vs : List Update) → IsBisection c b first wanted vs → ⊥
  so_far_stuck first us trusted tried lt refusal none is vs h = let more = is.back vs h in stuck lt refusal none more.1

  pub so_far_beyond : (first : ℕ) (us : List Update) (trusted tried : ℕ) → wanted < trusted → IsSoFar c b wanted first us trusted tried → (vs : List Update) → IsBisection c b first wanted vs → ⊥
  so_far_beyond first us trusted tried gt is vs h = let more = is.back vs h in beyond gt more.1

  -- ---- a bisection from a stored height is acceptable, and stores the wanted height

  runs : (stored : List ℕ) {trusted tried : ℕ} {us : List Update} → Contains stored trusted → Bisects c b wanted trusted tried us → Runs c stored us
  runs stored here (arrived e) = tt
  runs stored {trusted} {tried} here (accepted l a h) = (here, a, runs (tried ∷ stored) (Contains-cons_first tried stored tried refl) h)
  runs stored here (refused l n m h) = runs stored here h

  ends : {trusted tried : ℕ} {us : List Update} → Bisects c b wanted trusted tried us → (trusted ≡ wanted) ⊎ IsStoredAfter c us wanted
  ends (arrived e) = inl e
  ends (accepted l a h) = inr (ends h)
  ends (refused l n m h) = ends h

  pub bisection_is_acceptable : (trusted : ℕ) (us : List Update) → Contains c.stored trusted → IsBisection c b trusted wanted us → IsAcceptable c us
  bisection_is_acceptable trusted us here h = runs c.stored here h

  pub bisection_arrives : (trusted : ℕ) (us : List Update) → Contains c.stored trusted → IsBisection c b trusted wanted us → IsStoredAfter c us wanted
  bisection_arrives trusted us here h = go (ends h)
    where
      go : (trusted ≡ wanted) ⊎ IsStoredAfter c us wanted → IsStoredAfter c us wanted
      go (inl e) = stored_at_start c us wanted (subst (Contains c.stored) e here)
      go (inr is) = is
