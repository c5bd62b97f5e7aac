-- Updates leave a greatest live height, or none.
use Rattle.std.proofs.Common.{◌≡◌, ℕ, ◌+◌, ◌<◌, ◌≤◌, ◌⊎◌, List, [], ◌∷◌, refl, inl, inr, arith, Option, Some, None, IsSomeAnd, IfSome}
use Rattle.std.specs.List.{Contains}
use Rattle.std.proofs.lemmas.Bool.{cases_lt}
use Rattle.rb_book.specs.Header.{Record}
use Rattle.rb_book.specs.Book.{record_at}
use Rattle.rb_step.specs.LightClient.{Update, Client, IsStoredAfter, Leaves}
use Rattle.rb_step.specs.View.{View, client_of}
use Rattle.rb_plan_types.specs.ProofHeight.{IsProofHeight, IsLaterLive}
use Rattle.rb_plan_types.proofs.Routes.{Contains-cons_cases, Contains-cons_first, Contains-cons_rest}
use Rattle.rb_plan_types.proofs.Tops.{IsTopOf, top_more}
use Rattle.rb_scan.specs.Expiry.{lesser}
use Rattle.rb_script_types.specs.declared.config.RefreshTo.{RefreshTo}
use Rattle.rb_script_types.specs.declared.config.RefreshTo.TheVariants.{Lowest, Highest, Newer}
use Rattle.rb_plan_client.specs.Task.{Task, first_press, if_later, next_by, refresh_moment}

other_way : {A B : Type 0} → A ⊎ B → B ⊎ A
other_way (inl a) = inr a
other_way (inr b) = inl b

module _ (client : Client) (live : (h : ℕ) → client.IsLive h ⊎ (client.IsLive h → ⊥)) where
  -- a height more
  later : (top : Option ℕ) (h : ℕ) → client.IsLive h ⊎ (client.IsLive h → ⊥) → (next : Option ℕ) × IsLaterLive client top h next
  later None h (inr not) = (None, record { here = λ l. absurd (not l); kept = tt; either = tt })
  later (Some t) h (inr not) = (Some t, record { here = λ l. absurd (not l); kept = omega arith; either = inl refl })
  later None h (inl l) = (Some h, record { here = λ _. omega arith; kept = tt; either = inr (refl, l) })
  later (Some t) h (inl l) = go (cases_lt t h)
    where
      go : (t < h) ⊎ (h ≤ t) → (next : Option ℕ) × IsLaterLive client (Some t) h next
      go (inl lt) = (Some h, record { here = λ _. omega arith; kept = omega arith; either = inr (refl, l) })
      go (inr le) = (Some t, record { here = λ _. le; kept = omega arith; either = inl refl })

  top_stored : (xs : List ℕ) → (top : Option ℕ) × IsTopOf client (Contains xs) top
  top_stored [] = (None, record { seen = tt; live = tt; greatest = λ h c l. absurd (let lt : c.0 < 0 = c.1 in omega arith) })
  top_stored (x ∷ xs) = go (top_stored xs)
    where
      go : (top : Option ℕ) × IsTopOf client (Contains xs) top → (top : Option ℕ) × IsTopOf client (Contains (x ∷ xs)) top
      go (top, so_far) =
          let (next, is) = later top x (live x) in (
            next,
            top_more client (Contains xs) (Contains (x ∷ xs)) x top next (λ k c. Contains-cons_rest x xs k c) (Contains-cons_first x xs x refl)
                (λ k c. other_way (Contains-cons_cases x xs k c)) is so_far,
          )

  top_after : (us : List Update) → (top : Option ℕ) × IsTopOf client (IsStoredAfter client us) top
  top_after [] = top_stored client.stored
  top_after (u ∷ us) = go (top_after us)
    where
      go : (top : Option ℕ) × IsTopOf client (IsStoredAfter client us) top → (top : Option ℕ) × IsTopOf client (IsStoredAfter client (u ∷ us)) top
      go (top, so_far) =
          let (next, is) = later top u.height (live u.height) in
          (next, top_more client (IsStoredAfter client us) (IsStoredAfter client (u ∷ us)) u.height top next (λ k s. inr s) (inl refl) (λ k s. other_way s) is so_far)

  both : (us : List Update) (top : Option ℕ) → IfSome top (IsStoredAfter client us) → IfSome top client.IsLive → IfSome top (Leaves client us)
  both us None s l = tt
  both us (Some n) s l = (s, l)

  proof_of_client : (us : List Update) → (top : Option ℕ) × IsProofHeight client us top
  proof_of_client us =
      let (top, is) = top_after us in
      (top, record { left = both us top is.seen is.live; greatest = λ h leaves. is.greatest h leaves.0 leaves.1 })

live_or_not : (v : View) (h : ℕ) → (client_of v).IsLive h ⊎ ((client_of v).IsLive h → ⊥)
unfolding client_of
live_or_not v h = live (record_at v.book h)
  where
    live : (o : Option Record) → IsSomeAnd o (λ r. v.window.until < r.time + v.options.period) ⊎ (IsSomeAnd o (λ r. v.window.until < r.time + v.options.period) → ⊥)
    live None = inr (λ never. absurd never)
    live (Some r) = go (cases_lt v.window.until (r.time + v.options.period))
      where
        go : (v.window.until < r.time + v.options.period) ⊎ (r.time + v.options.period ≤ v.window.until) → (v.window.until < r.time + v.options.period) ⊎ (v.window.until < r.time + v.options.period → ⊥)
        go (inl p) = inl p
        go (inr q) = inr (λ p. absurd (omega arith))

pub proof_height_exists : (v : View) (us : List Update) → (top : Option ℕ) × IsProofHeight (client_of v) us top
proof_height_exists v us = proof_of_client (client_of v) (live_or_not v) us

-- by age the next goal has nothing to do with the proof height
pub next_without_proof : (t : Task) (reach proof : Option ℕ) (us : List Update) (to : RefreshTo) → (to ≡ Lowest) ⊎ (to ≡ Highest)
    → next_by t reach proof us to ≡ lesser (if_later t (first_press t reach)) (if_later t (refresh_moment t us))
next_without_proof t reach proof us Lowest is = refl
next_without_proof t reach proof us Highest is = refl
next_without_proof t reach proof us Newer (inl e) = absurd cc
next_without_proof t reach proof us Newer (inr e) = absurd cc
