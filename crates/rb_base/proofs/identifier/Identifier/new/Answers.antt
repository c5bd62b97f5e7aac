use Rattle.std.proofs.Common.{◌≡◌, ◌≤◌, ◌-◌, ℕ, List, ◌++◌, length, take, drop, replicate, refl, ap, ◌∙◌, arith, length-append, rules}
use Rattle.std.proofs.lemmas.List.{take_at, drop_at, length-replicate}
use Rattle.rb_base.specs.Identifier.{IsIdentifier}
use Rattle.rb_base.proofs.identifier.Identifier.new.Goals as goal

kept : (text bytes : List ℕ) → length text ≤ 64 → bytes ≡ text ++ replicate (64 - length text) 0 → IsIdentifier text
    → (length text ≤ 64) × (length bytes ≡ 64) × (drop (length text) bytes ≡ replicate (64 - length text) 0) × IsIdentifier (take (length text) bytes)
kept text bytes short e name =
    let pad = replicate (64 - length text) 0 in (
      short,
      ap length e ∙ length-append text pad ∙ rw length-replicate (omega arith),
      rw e (drop_at text pad (length text) refl),
      rw (e, take_at text pad (length text) refl) name,
    )

pub invariant_of-result : goal.invariant_of-result
invariant_of-result c =
    kept c.as_bytes-text.result.now c.padded.result (omega arith) c.padded.ensures (search rules)
