use Rattle.std.proofs.Common.{◌≡◌, ℕ, List, ◌++◌, codes, if◌then◌else◌, Result, Ok, Err, append_assoc, refl, ◌∙◌}
use Rattle.std.specs.Result.{OnOk, is_ok}
use Rattle.rb_packets.specs.Values.{height_json}
use Rattle.rb_packets.proofs.values.push_both.Goals as goal

-- an addition that may fail
added : {T E : Type 0} (r : Result T E) (old new more all : List ℕ) → new ≡ (if is_ok r then old ++ more else old) → old ++ more ≡ all → OnOk r (new ≡ all)
added (Ok u) old new more all last is = last ∙ is
added (Err e) old new more all last is = tt

pub returns : goal.returns
unfolding height_json
returns c =
    added c.push_str-2.result _ _ (codes "}") _ c.push_str-2.ensures.bytes
    (rw c.in_ok-push_height_member.ensures (rw c.in_ok-push_number.ensures (rw c.in_ok-push_str.ensures.bytes (simp append_assoc refl))))
