-- (internal) Light clients that are alike from a height on.
use Rattle.std.specs.Prelude.{◌≡◌, ℕ, ◌<◌, ◌≤◌, Contains}
use Rattle.rb_step.specs.LightClient.{Client}

-- From the height on, what is live for the first client is so for the second, which accepts the same steps for the same fees. The first
-- client has stored nothing below the height that is live, and the second has what the first has stored and is live.
pub record SeesFrom (m : ℕ) (c d : Client) : Type 0 where
  pub stored : (h : ℕ) → Contains c.stored h → c.IsLive h → (m ≤ h) × Contains d.stored h
  pub live : (h : ℕ) → m ≤ h → c.IsLive h → d.IsLive h
  pub accepts : (t h : ℕ) → m ≤ t → c.Accepts t h → d.Accepts t h
  pub fee : (t h : ℕ) → m ≤ t → c.Accepts t h → c.fee t h ≡ d.fee t h
  pub rises : (t h : ℕ) → c.Accepts t h → t < h
  pub trusts_live : (t h : ℕ) → c.Accepts t h → c.IsLive t

-- both ways, with the same heights first
pub record AreAlike (m : ℕ) (c d : Client) : Type 0 where
  pub there : SeesFrom m c d
  pub back : SeesFrom m d c
  pub ties : c.ties ≡ d.ties
