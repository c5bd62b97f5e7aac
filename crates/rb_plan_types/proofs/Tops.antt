-- The greatest live height of those so far.
use Rattle.std.proofs.Common.{◌≡◌, ℕ, ◌+◌, ◌<◌, ◌≤◌, ◌⊎◌, List, [], ◌∷◌, ◌++◌, zero, suc, length, get_or, take, drop, inl, inr, ap, sym, ◌∙◌, refl, subst, arith, Option, Some, None, IsSomeAnd, IfSome}
use Rattle.std.specs.List.{Contains}
use Rattle.std.proofs.lemmas.List.{take_more, drop_all, drop_more}
use Rattle.std.proofs.lemmas.List.Elements.{Contains-append_right, Contains-get_or}
use Rattle.rb_step.specs.LightClient.{Update, Client, IsStoredAfter}
use Rattle.rb_step.specs.View.{View, client_of}
use Rattle.rb_plan_types.specs.ProofHeight.{IsLaterLive}

-- the greatest of the seen heights that are live
pub record IsTopOf (client : Client) (IsSeen : ℕ → Type 0) (top : Option ℕ) : Type 0 where
  pub seen : IfSome top IsSeen
  pub live : IfSome top client.IsLive
  pub greatest : (h : ℕ) → IsSeen h → client.IsLive h → IsSomeAnd top (λ t. h ≤ t)

-- one height more
pub top_more : (client : Client) (IsSeen IsSeenNow : ℕ → Type 0) (h : ℕ) (top next : Option ℕ) → ((k : ℕ) → IsSeen k → IsSeenNow k) → IsSeenNow h → ((k : ℕ) → IsSeenNow k → IsSeen k ⊎ (h ≡ k))
    → IsLaterLive client top h next → IsTopOf client IsSeen top → IsTopOf client IsSeenNow next
top_more client IsSeen IsSeenNow h top next still now cases later so_far = record {
  seen = found next later.either (λ n. IsSeenNow n) (λ n e. still n (at_top IsSeen so_far.seen n e)) (λ n e l. subst IsSeenNow (sym e) now);
  live = found next later.either client.IsLive (λ n e. at_top client.IsLive so_far.live n e) (λ n e l. subst client.IsLive (sym e) l);
  greatest = λ k s l. above k l (cases k s);
}
  where
    at_top : (P : ℕ → Type 0) → IfSome top P → (n : ℕ) → top ≡ Some n → P n
    at_top P p n e = subst (λ (o : Option ℕ). IfSome o P) e p

    found : (o : Option ℕ) → IfSome o (λ n. (top ≡ Some n) ⊎ ((n ≡ h) × client.IsLive h)) → (P : ℕ → Type 0) → ((n : ℕ) → top ≡ Some n → P n) → ((n : ℕ) → n ≡ h → client.IsLive h → P n) → IfSome o P
    found None e P p q = tt
    found (Some n) (inl e) P p q = p n e
    found (Some n) (inr e) P p q = q n e.0 e.1

    over : (k t : ℕ) (o : Option ℕ) → k ≤ t → IsSomeAnd o (λ n. t ≤ n) → IsSomeAnd o (λ n. k ≤ n)
    over k t (Some n) le p = omega arith
    over k t None le p = p

    old : (k : ℕ) (o : Option ℕ) → IfSome o (λ t. IsSomeAnd next (λ n. t ≤ n)) → IsSomeAnd o (λ t. k ≤ t) → IsSomeAnd next (λ n. k ≤ n)
    old k (Some t) p q = over k t next q p
    old k None p q = absurd q

    above : (k : ℕ) → client.IsLive k → IsSeen k ⊎ (h ≡ k) → IsSomeAnd next (λ n. k ≤ n)
    above k l (inl s) = old k top later.kept (so_far.greatest k s l)
    above k l (inr e) = subst (λ (x : ℕ). IsSomeAnd next (λ n. x ≤ n)) e (later.here (subst client.IsLive (sym e) l))

-- one update more leaves its height stored besides
pub stored_push : (client : Client) (us : List Update) (u : Update) (h : ℕ) → IsStoredAfter client us h → IsStoredAfter client (us ++ u ∷ []) h
stored_push client [] u h s = inr s
stored_push client (v ∷ us) u h (inl e) = inl e
stored_push client (v ∷ us) u h (inr s) = inr (stored_push client us u h s)

pub stored_pushed : (client : Client) (us : List Update) (u : Update) → IsStoredAfter client (us ++ u ∷ []) u.height
stored_pushed client [] u = inl refl
stored_pushed client (v ∷ us) u = inr (stored_pushed client us u)

pub stored_push_cases : (client : Client) (us : List Update) (u : Update) (h : ℕ) → IsStoredAfter client (us ++ u ∷ []) h → IsStoredAfter client us h ⊎ (u.height ≡ h)
stored_push_cases client [] u h (inl e) = inr e
stored_push_cases client [] u h (inr s) = inl s
stored_push_cases client (v ∷ us) u h (inl e) = inl (inl e)
stored_push_cases client (v ∷ us) u h (inr s) = go (stored_push_cases client us u h s)
  where
    go : IsStoredAfter client us h ⊎ (u.height ≡ h) → IsStoredAfter client (v ∷ us) h ⊎ (u.height ≡ h)
    go (inl p) = inl (inr p)
    go (inr e) = inr e

module _ (client : Client) where
  -- of the stored heights from place n on
  abbrev pub IsTopOfStored : List ℕ → ℕ → Option ℕ → Type 0
  IsTopOfStored stored n top = IsTopOf client (Contains (drop n stored)) top

  -- after all of them and the first n updates
  abbrev pub IsTopAfter : List Update → ℕ → Option ℕ → Type 0
  IsTopAfter us n top = IsTopOf client (IsStoredAfter client (take n us)) top

  pub top_stored_none : (stored : List ℕ) (n : ℕ) → length stored ≤ n → IsTopOfStored stored n None
  top_stored_none stored n all = record {
    seen = tt;
    live = tt;
    greatest = λ h s. absurd (none h (subst (λ (xs : List ℕ). Contains xs h) (drop_all n stored all) s));
  }
    where
      none : (h : ℕ) → Contains [] h → ⊥
      none h (i, inside, read) = omega arith

  pub top_stored_more : (stored : List ℕ) (n h : ℕ) (top next : Option ℕ) → n < length stored → h ≡ get_or stored n h → IsLaterLive client top h next → IsTopOfStored stored (n + 1) top → IsTopOfStored stored n next
  top_stored_more stored n h top next inside read later so_far =
      subst (λ (xs : List ℕ). IsTopOf client (Contains xs) next) (sym (drop_more stored n h inside ∙ ap (λ (x : ℕ). x ∷ drop (n + 1) stored) (sym read)))
      (top_more client (Contains (drop (n + 1) stored)) (Contains (h ∷ drop (n + 1) stored)) h top next (λ k s. Contains-append_right (h ∷ []) (drop (n + 1) stored) k s)
      (Contains-get_or (h ∷ drop (n + 1) stored) 0 h (omega arith)) (λ k s. first_or_rest (drop (n + 1) stored) k s) later so_far)
    where
      first_or_rest : (xs : List ℕ) (k : ℕ) → Contains (h ∷ xs) k → Contains xs k ⊎ (h ≡ k)
      first_or_rest xs k (zero, inside, is) = inr is
      first_or_rest xs k (suc i, inside, is) = inl (i, omega arith, is)

  pub top_after_more : (us : List Update) (n : ℕ) (u : Update) (top next : Option ℕ) → n < length us → u ≡ get_or us n u → IsLaterLive client top u.height next → IsTopAfter us n top → IsTopAfter us (n + 1) next
  top_after_more us n u top next inside read later so_far =
      subst (λ (xs : List Update). IsTopOf client (IsStoredAfter client xs) next) (sym (take_more us n u inside ∙ ap (λ (x : Update). take n us ++ x ∷ []) (sym read)))
      (top_more client (IsStoredAfter client (take n us)) (IsStoredAfter client (take n us ++ u ∷ [])) u.height top next (λ k s. stored_push client (take n us) u k s) (stored_pushed client (take n us) u)
      (λ k s. stored_push_cases client (take n us) u k s) later so_far)

-- the view's stored heights are the client's
pub stored_of_view : (v : View) → (client_of v).stored ≡ v.stored
unfolding client_of
stored_of_view v = refl
