use Rattle.std.proofs.Common.{◌≡◌, [], ◌∷◌, ◌-◌, ◌*◌, ◌%◌, ◌^◌, ◌++◌, List, ℕ, length, take, replicate, refl, ap, ◌∙◌}
use Rattle.rb_valset.proofs.RipemdBlocks.{padding-behind}
use Rattle.rb_valset.proofs.ripemd.tail_of.Goals as goal

pub returns : goal.returns
returns c =
    let rest = c.args.rest.now in
    let zeros : List ℕ = take ((119 - length rest) % 64) (replicate 63 0) in
    let begun = rw c.unwrap.ensures at c.try_extend_from_slice.ensures.ok in
    let first : c.push.new.self.items ≡ rest ++ 0x80 ∷ [] = c.push.ensures.items ∙ ap (λ (x : List ℕ). x ++ 0x80 ∷ []) (begun ∙ ap (λ (x : List ℕ). x ++ rest) c.new-tail.ensures) in
    let second : c.try_extend_from_slice-2.new.self.items ≡ c.push.new.self.items ++ zeros = rw c.unwrap-2.ensures at c.try_extend_from_slice-2.ensures.ok in
    let third = rw c.unwrap-3.ensures at c.try_extend_from_slice-3.ensures.ok in
    let more : List ℕ → List ℕ = λ x. c.try_extend_from_slice-2.new.self.items ++ x in
    padding-behind rest c.push.new.self.items c.try_extend_from_slice-2.new.self.items c.try_extend_from_slice-3.new.self.items zeros c.args.total (c.args.total * 8 % 2 ^ 64)
    c.requires first second refl refl (third ∙ ap more c.to_le_bytes.ensures)
