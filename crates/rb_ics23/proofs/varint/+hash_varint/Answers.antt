use Rattle.std.proofs.Common.{List, ℕ, subst, refl, arith}
use Rattle.rb_ics23.proofs.Varints.{varint-last, more_digits}
use Rattle.rb_ics23.proofs.varint.+hash_varint.Goals as goal

pub returns-then-number-lt128 : goal.returns-then-number-lt128
returns-then-number-lt128 g t c = λ m h.
    let fed = rw c.as_slice.ensures at (c.update.ensures m h) in
    rw (varint-last c.args.number c.if-number-lt128.true) fed

pub returns-else-number-lt128 : goal.returns-else-number-lt128
returns-else-number-lt128 g t c = λ m h.
    let fed = rw c.as_slice-else-number-lt128.ensures at (c.update-else-number-lt128.ensures m h) in
    let more = more_digits m c.args.number _ c.if-number-lt128.false (omega arith) refl in
    subst (λ (bytes : List ℕ). g.D.Digest.holds c.hash_varint.new.hasher bytes) more (c.hash_varint.ensures _ fed)
