-- Stored heights that come to a client come to what is left of them.
use Rattle.std.proofs.Common.{◌≡◌, ℕ, ◌<◌, ◌≤◌, ◌==◌, Bool, true, false, cond, ◌||◌, nat_lt, List, [], ◌∷◌, ◌++◌, length, take, drop, count_by, None, inr, refl, sym, ap, ◌∙◌, subst, arith}
use Rattle.std.specs.List.{All, AllByRecursion, fold, list_any}
use Rattle.std.proofs.lemmas.Bool.{lt-ltb, ne_eqb}
use Rattle.std.proofs.lemmas.List.{length-append}
use Rattle.std.proofs.lemmas.List.Elements.{All-weaker, recursion_from_All}
use Rattle.rb_base.specs.Window.{Span}
use Rattle.rb_book.specs.Book.{Book}
use Rattle.rb_book.specs.Intake.{placed}
use Rattle.rb_step.specs.LightClient.{Update}
use Rattle.rb_core_model.specs.Standing.{OpenBatch, ClientState, with_height, settled_updates, count_in, after_batch, book_at, window_for}
use Rattle.rb_core_model.proofs.Marks.{all_take}
use Rattle.rb_super.specs.Left.{AreStoredLeft}
use Rattle.rb_super.specs.Remains.{IsClientLeft}
use Rattle.rb_super.proofs.LeftLists.{left_placed}

any_behind : {X : Type 0} (p : X → Bool) (gone ys : List X) → AllByRecursion (λ x. p x ≡ false) gone → list_any p (gone ++ ys) ≡ list_any p ys
any_behind p [] ys none = refl
any_behind p (x ∷ gone) ys none = ap (λ b. b || list_any p (gone ++ ys)) none.0 ∙ any_behind p gone ys none.1

some_placed : (p : ℕ → Bool) (x : ℕ) (ys : List ℕ) → 0 < length (placed p x ys)
some_placed p x ys = (let e = length-append (take (count_by p ys) ys) (x ∷ drop (count_by p ys) ys) in omega arith)

module _ (m period : ℕ) (w : Span) (b : Book) (height : ℕ) (le : m ≤ height) where
  pub height_left : (xs ys : List ℕ) → AreStoredLeft m period w b xs ys → AreStoredLeft m period w b (with_height height xs) (with_height height ys)
  height_left xs ys left = go (list_any (λ h. h == height) ys) refl
    where
      any_same : list_any (λ h. h == height) xs ≡ list_any (λ h. h == height) ys
      any_same =
          ap (list_any (λ h. h == height)) left.heights.parts
          ∙ any_behind (λ h. h == height) left.heights.gone ys
          (recursion_from_All (λ h. (h == height) ≡ false) left.heights.gone
          (All-weaker (λ h. h < m) (λ h. (h == height) ≡ false) (λ h lt. ne_eqb h height (λ e. omega arith)) left.heights.gone left.heights.below))

      there : (t : Bool) → list_any (λ h. h == height) ys ≡ t → AreStoredLeft m period w b (cond t xs (placed (λ h. nat_lt h height) height xs)) (cond t ys (placed (λ h. nat_lt h height) height ys))
          → AreStoredLeft m period w b (with_height height xs) (with_height height ys)
      there t e is =
          subst (λ u. AreStoredLeft m period w b (cond u xs (placed (λ h. nat_lt h height) height xs)) (with_height height ys)) (sym (any_same ∙ e))
          (subst (λ u. AreStoredLeft m period w b (cond t xs (placed (λ h. nat_lt h height) height xs)) (cond u ys (placed (λ h. nat_lt h height) height ys))) (sym e) is)

      go : (t : Bool) → list_any (λ h. h == height) ys ≡ t → AreStoredLeft m period w b (with_height height xs) (with_height height ys)
      go true e = there true e left
      go false e =
          there false e
          (record {
            heights = left_placed (λ h. h) m xs ys left.heights (λ h. nat_lt h height) height (λ h lt. lt-ltb h height (omega arith)) le;
            dead = left.dead;
            some = inr (some_placed (λ h. nat_lt h height) height ys);
          })

heights_left : (m period : ℕ) (w : Span) (b : Book) (us : List Update) → AllByRecursion (λ (u : Update). m ≤ u.height) us → (xs ys : List ℕ) → AreStoredLeft m period w b xs ys
    → AreStoredLeft m period w b (fold (λ heights (u : Update). with_height u.height heights) xs us) (fold (λ heights (u : Update). with_height u.height heights) ys us)
heights_left m period w b [] all xs ys left = left
heights_left m period w b (u ∷ us) all xs ys left = heights_left m period w b us all.1 (with_height u.height xs) (with_height u.height ys) (height_left m period w b u.height all.0 xs ys left)

-- ---- a client

module _ (m : ℕ → ℕ) (w : Span) (books : List Book) (c d : ClientState) (left : IsClientLeft m w books c d) where
  pub one_stored : (height : ℕ) → m c.config.tracks ≤ height → IsClientLeft m w books (record c { stored = with_height height c.stored }) (record d { stored = with_height height d.stored })
  one_stored height le = record {
    is = ap (λ (k : ClientState). record k { stored = with_height height d.stored }) left.is;
    stored = height_left (m c.config.tracks) c.config.options.period (window_for w c) (book_at books c.config.tracks) height le c.stored d.stored left.stored;
    batch = left.batch;
  }

  pub batch_stored : (b : OpenBatch) (done : ℕ) → All (λ (u : Update). m c.config.tracks ≤ u.height) b.updates → IsClientLeft m w books (after_batch b done c) (after_batch b done d)
  batch_stored b done high = record {
    is = ap (λ (k : ClientState). record k { stored = fold (λ heights (u : Update). with_height u.height heights) d.stored (settled_updates b done); batch = None }) left.is;
    stored =
        heights_left (m c.config.tracks) c.config.options.period (window_for w c) (book_at books c.config.tracks) (settled_updates b done)
        (all_take (λ (u : Update). m c.config.tracks ≤ u.height) (count_in b done) b.updates (recursion_from_All (λ (u : Update). m c.config.tracks ≤ u.height) b.updates high)) c.stored d.stored left.stored;
    batch = tt;
  }
