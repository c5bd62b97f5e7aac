-- A height in its place among rising ones.
use Rattle.std.proofs.Common.{◌≡◌, ℕ, zero, suc, ◌≤◌, Bool, true, false, cond, eqb, ltb, ◌||◌, List, [], ◌∷◌, Option, Some, None, is_some, IsSome, IsSomeAnd, length, take, refl, sym, ap, ◌∙◌, subst, arith}
use Rattle.std.specs.List.{find, list_any, insert, slice_get}
use Rattle.std.specs.Option.{option_map_or}
use Rattle.std.proofs.lemmas.Bool.{true≢false}
use Rattle.std.proofs.lemmas.Option.{slice_get-get_or}
use Rattle.rb_book.specs.Intake.{placed}
use Rattle.rb_book.specs.Search.{IsKnownPlace, IsNewPlace}
use Rattle.rb_core_state.specs.Room.{ClientWithRoom}
use Rattle.rb_core_model.specs.Standing.{OpenBatch, ClientState, with_height}

any_found : {X : Type 0} (t : X → Bool) (xs : List X) → list_any t xs ≡ is_some (find t xs)
any_found t [] = refl
any_found {X} t (x ∷ xs) = go (t x) (any_found t xs)
  where
    go : (b : Bool) → list_any t xs ≡ is_some (find t xs) → (b || list_any t xs) ≡ is_some (cond b (Some x) (find t xs))
    go true rest = refl
    go false rest = rest

pub height_new : (height : ℕ) (hs : List ℕ) (place : ℕ) → IsNewPlace (λ h. eqb h height) (λ h. ltb h height) hs place → with_height height hs ≡ insert hs place height
height_new height hs place new =
    ap (λ b. cond b hs (placed (λ h. ltb h height) height hs)) (any_found (λ h. eqb h height) hs ∙ ap is_some new.absent)
    ∙ ap (λ n. insert hs n height) (sym new.after)

pub height_known : (height : ℕ) (hs : List ℕ) (place : ℕ) → IsKnownPlace (λ h. eqb h height) hs place → with_height height hs ≡ hs
height_known height hs place known =
    ap (λ b. cond b hs (placed (λ h. ltb h height) height hs)) (any_found (λ h. eqb h height) hs ∙ ap is_some (known.found ∙ slice_get-get_or hs place height known.within))

pub some_of : {X : Type 0} (o : Option X) (P : X → Type 0) → IsSomeAnd o P → IsSome o
some_of None P h = absurd h
some_of (Some x) P h = refl

-- what holds of what is there holds of it by name
pub batch_room : {X : Type 0} (o : Option X) (P : X → Type 0) (x : X) → IsSomeAnd o P → o ≡ Some x → P x
batch_room o P x h e = subst (λ (p : Option _). IsSomeAnd p P) e h

pub length_take : {X : Type 0} (n : ℕ) (xs : List X) → length (take n xs) ≤ length xs
length_take zero xs = omega arith
length_take (suc n) [] = omega arith
length_take (suc n) (x ∷ xs) = (let rest = length_take n xs in omega arith)

-- room for what is settled stays where a client stays and its room doesn't shrink
pub settle_kept : (x y : ClientWithRoom) → y.client ≡ x.client → ((n : ℕ) → n ≤ x.room → n ≤ y.room) → IsSomeAnd x.client.batch (λ (b : OpenBatch). length b.updates ≤ x.room) → IsSomeAnd y.client.batch (λ (b : OpenBatch). length b.updates ≤ y.room)
settle_kept x y same more h = subst (λ (c : ClientState). IsSomeAnd c.batch (λ (b : OpenBatch). length b.updates ≤ y.room)) (sym same) (weaker x.client.batch h)
  where
    weaker : (o : Option OpenBatch) → IsSomeAnd o (λ (b : OpenBatch). length b.updates ≤ x.room) → IsSomeAnd o (λ (b : OpenBatch). length b.updates ≤ y.room)
    weaker None h = absurd h
    weaker (Some b) h = more (length b.updates) h

pub settle_room : (o : Option OpenBatch) (count room : ℕ) → IsSome o → count ≡ option_map_or (λ (b : OpenBatch). length b.updates) o 0 → count ≤ room → IsSomeAnd o (λ (b : OpenBatch). length b.updates ≤ room)
settle_room None count room some is fits = absurd (true≢false (sym some))
settle_room (Some b) count room some is fits = subst (λ n. n ≤ room) is fits
