use Rattle.std.proofs.Common.{◌≡◌, ◌≤◌, ◌-◌, ℕ, List, ◌++◌, length, take, drop, replicate, refl, ap, ◌∙◌, arith, length-append, rules}
use Rattle.std.proofs.lemmas.List.{take_at, drop_at, length-replicate}
use Rattle.rb_script_types.specs.EndIds.{IsEndId}
use Rattle.rb_script_types.proofs.end_id.EndId.new.Goals as goal

kept : (text bytes : List ℕ) → length text ≤ 128 → bytes ≡ text ++ replicate (128 - length text) 0 → IsEndId text
    → (length text ≤ 128) × (length bytes ≡ 128) × (drop (length text) bytes ≡ replicate (128 - length text) 0) × IsEndId (take (length text) bytes)
kept text bytes short e name =
    let pad = replicate (128 - length text) 0 in (
      short,
      ap length e ∙ length-append text pad ∙ rw length-replicate (omega arith),
      rw e (drop_at text pad (length text) refl),
      rw (e, take_at text pad (length text) refl) name,
    )

pub invariant_of-result : goal.invariant_of-result
invariant_of-result c =
    kept c.as_bytes-text.result.now c.padded.result (omega arith) c.padded.ensures (search rules)
