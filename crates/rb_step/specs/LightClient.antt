-- A light client in a window, and the lists of updates that it takes (ICS 2, client updates; ICS 7).
use Rattle.std.specs.Prelude.{◌≡◌, ℕ, ◌<◌, ◌^◌, ◌⊎◌, List, [], ◌∷◌, sum_by, Contains}
use Rattle.rb_base.specs.declared.ties.Ties.{Ties}

-- store the header at a height, on the word of the record at a trusted height
pub record Update : Type 0 where
  pub height : ℕ
  pub trusted : ℕ

-- A client in its window: the heights that it has stored, which heights are live, and which steps, from a
-- trusted height to the height of a header, it accepts at every moment of the window, and for what fee; and which
-- heights come first in lists of updates that are equally cheap.
pub record Client : Type 1 where
  pub stored : List ℕ
  pub IsLive : ℕ → Type 0
  pub Accepts : ℕ → ℕ → Type 0
  pub fee : ℕ → ℕ → ℕ
  pub ties : Ties

-- each update in turn trusts a stored height, its step is accepted, and its height is stored from then on
abbrev pub Runs : Client → List ℕ → List Update → Type 0
Runs client stored [] = Unit {0}
Runs client stored (u ∷ us) = Contains stored u.trusted × client.Accepts u.trusted u.height × Runs client (u.height ∷ stored) us

abbrev pub IsAcceptable : Client → List Update → Type 0
IsAcceptable client us = Runs client client.stored us

-- the height was stored, or is the height of one of the updates
abbrev pub IsStoredAfter : Client → List Update → ℕ → Type 0
IsStoredAfter client [] h = Contains client.stored h
IsStoredAfter client (u ∷ us) h = (u.height ≡ h) ⊎ IsStoredAfter client us h

-- the height is stored and live before any update
abbrev pub IsSource : Client → ℕ → Type 0
IsSource client h = Contains client.stored h × client.IsLive h

-- the updates leave the height stored and live
abbrev pub Leaves : Client → List Update → ℕ → Type 0
Leaves client us h = IsStoredAfter client us h × client.IsLive h

-- the sum of the updates' fees
abbrev pub total_fee : Client → List Update → ℕ
total_fee client us = sum_by (λ u. client.fee u.trusted u.height) us

-- a step goes up, from a live height to a live one, and its fee is small
pub record IsOrderly (client : Client) : Type 0 where
  pub rises : (t h : ℕ) → client.Accepts t h → t < h
  pub trusts_live : (t h : ℕ) → client.Accepts t h → client.IsLive t
  pub stores_live : (t h : ℕ) → client.Accepts t h → client.IsLive h
  pub small : (t h : ℕ) → client.fee t h < 2 ^ 45
