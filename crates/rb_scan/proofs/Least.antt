-- the next sequence of a kind is the least that is waited for
use Rattle.std.proofs.Common.{ℕ, ◌+◌, ◌-◌, ◌<◌, ◌≡◌, suc, Bool, true, false, ltb, cond, List, [], ◌∷◌, length, drop, get_or, refl, ◌∙◌, inl, inr, arith}
use Rattle.std.specs.List.{prefix_len, slice_get}
use Rattle.std.specs.Option.{option_map_or}
use Rattle.std.proofs.lemmas.Bool.{cases_lt, lt-ltb, le-ltb}
use Rattle.std.proofs.lemmas.List.Sums.{prefix_len_passes, prefix_len-le-length}
use Rattle.std.proofs.lemmas.List.FromFn.{get_or-range_with_len, length-range_with_len}
use Rattle.rb_scan.specs.Packet.{Packet}
use Rattle.rb_scan.specs.Path.{Path, IsPath}
use Rattle.rb_scan.specs.Owed.{is_done, is_done_at, sequences_from, next_sequence}
use Rattle.rb_scan.specs.Laws.{is_passed}
use Rattle.rb_scan.specs.declared.message.Kind.{Kind}
use Rattle.rb_scan.proofs.Runs.{first-rest_is}

-- what follows the front that is done begins with a packet that isn't, or is empty
first-open : (done : Packet → Bool) (ps : List Packet) → option_map_or done (slice_get (drop (prefix_len done ps) ps) 0) false ≡ false
first-open done [] = refl
first-open done (p ∷ ps) =
    let count = prefix_len done ps in
    let more : 1 + count ≡ suc count = omega arith in
    (elim (done p) as (λ b. done p ≡ b → option_map_or done (slice_get (drop (cond b (1 + count) 0) (p ∷ ps)) 0) false ≡ false) [
      | true ↦ λ e. rw more (first-open done ps)
      | false ↦ λ e. e
    ])
    refl

pub next-open : (path : Path) (kind : Kind) → IsPath path → is_passed path kind (next_sequence path kind) ≡ false
next-open path kind h =
    let high : ltb (next_sequence path kind) path.first ≡ false = le-ltb _ _ (omega arith) in
    rw (high, ← first-rest_is path kind h) (first-open (is_done kind) _)

pub next-passed : (path : Path) (kind : Kind) (s : ℕ) → s < next_sequence path kind → is_passed path kind s ≡ true
next-passed path kind s less =
    elim (cases_lt s path.first) [
      | inl low ↦ rw (lt-ltb s path.first low) refl
      | inr high ↦
          let numbers = sequences_from path path.first in
          let count = prefix_len-le-length (is_done_at path kind) numbers in
          let all = length-range_with_len path.first (length path.packets) in
          let at : get_or numbers (s - path.first) 0 ≡ s = get_or-range_with_len path.first (length path.packets) (s - path.first) 0 (omega arith) ∙ omega arith in
          let done : is_done_at path kind s ≡ true = rw at at (prefix_len_passes (is_done_at path kind) numbers (s - path.first) 0 (omega arith)) in
          rw (le-ltb s path.first high, done) refl
    ]
