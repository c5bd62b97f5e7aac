use Rattle.std.proofs.Common.{◌≡◌, ◌<◌, ℕ, List, ◌++◌, length, Bool, false, ap, ◌∙◌, arith, append_assoc, Option, Some, None, Ok}
use Rattle.std.proofs.lemmas.Bool.Decides.{nat_tests}
use Rattle.std.specs.Io.KnownBytes.{Appends}
use Rattle.std.proofs.lemmas.List.{length-drop, take_rest}
use Rattle.std.proofs.Math.Seq.{take-add}
use Rattle.rb_base.specs.Sink.{is_failure}
use Rattle.rb_base.proofs.sink.write_whole.Goals as goal

appended : (a b c : Option (List ℕ)) (xs ys : List ℕ) → Appends a b xs → Appends b c ys → Appends a c (xs ++ ys)
appended None b c xs ys h k = tt
appended (Some p) None c xs ys h k = absurd h
appended (Some p) (Some q) None xs ys h k = absurd k
appended (Some p) (Some q) (Some r) xs ys h k = k ∙ rw h (append_assoc p xs ys)

still_works : (after : Bool) (n : ℕ) (piece : List ℕ) → after ≡ is_failure {E = ℕ} (Ok n) piece → 0 < n → after ≡ false
still_works after n piece f h = rw f (grind (arith, nat_tests))

pub loop-written-preserved : goal.loop-written-preserved
loop-written-preserved g c =
    let w = c.loop-written.written in
    let n = c.in-Ok.count in (
      omega (arith, c.in-Ok.ensures.bound, length-drop w c.args.bytes.now, ap length (take_rest c.args.bytes.now w)),
      rw (take-add w n c.args.bytes.now) (appended _ _ _ _ _ c.loop-written.invariant.1 (rw take_rest at c.in-Ok.ensures.bytes)),
      still_works _ _ _ c.in-Ok.ensures.failure c.if-count-gt0.true,
    )

pub write-requires : goal.write-requires
write-requires g c = record { works = c.loop-written.invariant.2 }
