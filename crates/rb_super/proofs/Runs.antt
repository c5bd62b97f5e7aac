-- Lists of updates that one of two clients takes, which are alike from a height on, the other takes.
use Rattle.std.proofs.Common.{◌≡◌, ℕ, ◌≤◌, ◌⊎◌, List, [], ◌∷◌, inl, inr, subst, arith, zero, suc}
use Rattle.std.specs.List.{Contains}
use Rattle.rb_step.specs.LightClient.{Update, Client, Runs, IsAcceptable, IsStoredAfter, Leaves}
use Rattle.rb_super.specs.Alike.{SeesFrom}

pub in_cons : {X : Type 0} (x : X) (xs : List X) (y : X) → Contains (x ∷ xs) y → (x ≡ y) ⊎ Contains xs y
in_cons x xs y (zero, l, e) = inl e
in_cons x xs y (suc k, l, e) = inr (k, omega arith, e)

pub in_first : {X : Type 0} (x : X) (xs : List X) (y : X) → x ≡ y → Contains (x ∷ xs) y
in_first x xs y e = (zero, omega arith, e)

pub in_rest : {X : Type 0} (x : X) (xs : List X) (y : X) → Contains xs y → Contains (x ∷ xs) y
in_rest x xs y (k, l, e) = (suc k, omega arith, e)

module _ (m : ℕ) (c d : Client) (sees : SeesFrom m c d) where
  -- what the first has stored and is live, the second has, and it is not below the height
  abbrev pub Stores : List ℕ → List ℕ → Type 0
  Stores xs ys = (h : ℕ) → Contains xs h → c.IsLive h → (m ≤ h) × Contains ys h

  pub above : (t h : ℕ) → m ≤ t → c.Accepts t h → m ≤ h
  above t h le accepted = let rises = sees.rises t h accepted in omega arith

  pub stores_more : (xs ys : List ℕ) (x : ℕ) → m ≤ x → Stores xs ys → Stores (x ∷ xs) (x ∷ ys)
  stores_more xs ys x le stores h has live = go (in_cons x xs h has)
    where
      go : (x ≡ h) ⊎ Contains xs h → (m ≤ h) × Contains (x ∷ ys) h
      go (inl e) = (subst (λ n. m ≤ n) e le, in_first x ys h e)
      go (inr rest) = let there = stores h rest live in (there.0, in_rest x ys h there.1)

  pub runs : (xs ys : List ℕ) (us : List Update) → Stores xs ys → Runs c xs us → Runs d ys us
  runs xs ys [] stores r = tt
  runs xs ys (u ∷ us) stores (has, accepted, rest) =
      let there = stores u.trusted has (sees.trusts_live u.trusted u.height accepted) in
      let high = above u.trusted u.height there.0 accepted in
      (there.1, sees.accepts u.trusted u.height there.0 accepted, runs (u.height ∷ xs) (u.height ∷ ys) us (stores_more xs ys u.height high stores) rest)

  pub acceptable : (us : List Update) → IsAcceptable c us → IsAcceptable d us
  acceptable us a = runs c.stored d.stored us sees.stored a

  -- each update trusts a height that is not below
  pub left : (xs ys : List ℕ) (us : List Update) (h : ℕ) → Stores xs ys → Runs c xs us → IsStoredAfter c us h → c.IsLive h → (m ≤ h) × IsStoredAfter d us h
  left xs ys [] h stores r at live = sees.stored h at live
  left xs ys (u ∷ us) h stores (has, accepted, rest) (inl e) live =
      let there = stores u.trusted has (sees.trusts_live u.trusted u.height accepted) in
      (subst (λ n. m ≤ n) e (above u.trusted u.height there.0 accepted), inl e)
  left xs ys (u ∷ us) h stores (has, accepted, rest) (inr at) live =
      let there = stores u.trusted has (sees.trusts_live u.trusted u.height accepted) in
      let more = left (u.height ∷ xs) (u.height ∷ ys) us h (stores_more xs ys u.height (above u.trusted u.height there.0 accepted) stores) rest at live in
      (more.0, inr more.1)

  -- what a list of updates leaves stored and live is not below the height, and the other client's as well
  pub leaves : (us : List Update) (h : ℕ) → IsAcceptable c us → Leaves c us h → (m ≤ h) × Leaves d us h
  leaves us h a (at, live) =
      let more = left c.stored d.stored us h sees.stored a at live in
      (more.0, (more.1, sees.live h more.0 live))
