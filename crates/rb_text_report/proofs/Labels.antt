-- Labels whose heights rise, and the first that doesn't.
use Rattle.std.proofs.Common.{◌≡◌, ℕ, zero, suc, ◌+◌, ◌<◌, ◌≤◌, nat_lt, Bool, true, false, List, [], ◌∷◌, map, length, drop, get_or, codes, Result, Ok, refl, sym, ap, ◌∙◌, arith}
use Rattle.std.specs.List.Sorted.{IsStrictlyIncreasing}
use Rattle.std.proofs.lemmas.Bool.{false_from_ne_true, ltb-true}
use Rattle.std.proofs.lemmas.List.{drop_all, drop_more}
use Rattle.rb_plan_types.specs.declared.labelling.Label.{Label}
use Rattle.rb_script_toml.specs.Faults.{Fault, ◌>>=◌, fault, check}
use Rattle.rb_script_toml.specs.declared.fault.FaultName.TheVariants.{LabelOrder}
use Rattle.rb_script_toml.specs.KeyPaths.{element}
use Rattle.rb_text_report.specs.Certificates.{rising_after, rising}

not_above : (below height : ℕ) → height ≤ below → nat_lt below height ≡ false
not_above below height h = false_from_ne_true _ (λ e. let above = ltb-true below height e in omega arith)

module _ (labels : List Label) (index below : ℕ) (judged : rising_after index below (drop index labels) ≡ rising_after 0 0 labels) where
  -- a height that isn't above the one before it is refused
  pub rising-refused : (d : Label) → index < length labels → (get_or labels index d).height ≤ below
      → rising labels ≡ fault LabelOrder (element (codes "labels") index)
  unfolding rising
  rising-refused d lt h =
      sym judged ∙ ap (rising_after index below) (drop_more labels index d lt) ∙ rw (not_above below (get_or labels index d).height h) refl

  -- all were judged
  pub rising-judged : length labels ≤ index → rising labels ≡ Ok tt
  unfolding rising
  rising-judged end = sym judged ∙ ap (rising_after index below) (drop_all index labels end)

step-passed : (test : Bool) (path : List ℕ) (next : Result (Unit {0}) Fault) (u : Unit {0}) → (check test LabelOrder path >>= λ _. next) ≡ Ok u → (test ≡ true) × (next ≡ Ok u)
step-passed true path next u h = (refl, h)
step-passed false path next u h = absurd cc

increasing-more : (l m : Label) (ls : List Label) → l.height < m.height → IsStrictlyIncreasing (map (λ (x : Label). x.height) (m ∷ ls))
    → IsStrictlyIncreasing (map (λ (x : Label). x.height) (l ∷ m ∷ ls))
increasing-more l m ls h rest zero lt = h
increasing-more l m ls h rest (suc k) lt = let next : suc k + 1 ≡ suc (k + 1) = omega arith in rw next (rest k (omega arith))

-- heights that are not refused rise
increasing-rising : (place below : ℕ) (ls : List Label) → rising_after place below ls ≡ Ok tt → IsStrictlyIncreasing (map (λ (l : Label). l.height) ls)
increasing-rising place below [] h = λ k lt. absurd (omega arith)
increasing-rising place below (l ∷ []) h = λ k lt. absurd (omega arith)
increasing-rising place below (l ∷ m ∷ ls) h =
    let first = step-passed (nat_lt below l.height) (element (codes "labels") place) (rising_after (suc place) l.height (m ∷ ls)) tt h in
    let second = step-passed (nat_lt l.height m.height) (element (codes "labels") (suc place)) (rising_after (suc (suc place)) m.height ls) tt first.1 in
    increasing-more l m ls (ltb-true l.height m.height second.0) (increasing-rising (suc place) l.height (m ∷ ls) first.1)

pub increasing : (labels : List Label) → rising labels ≡ Ok tt → IsStrictlyIncreasing (map (λ (l : Label). l.height) labels)
unfolding rising
increasing labels h = increasing-rising 0 0 labels h
