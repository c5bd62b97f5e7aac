use Rattle.std.proofs.Common.{◌≡◌, ◌<◌, ℕ, Bool, true, cond, List, length, get_or, max, set, ap, ◌∙◌, arith}
use Rattle.std.proofs.lemmas.List.{get_or_default}
use Rattle.std.specs.Int.{from_bool}
use Rattle.rb_lanes.proofs.Planes.{length-bits_of, bit_raised_if}
use Rattle.rb_lanes.proofs.plane.Plane.set_if.Goals as goal

pub returns : goal.returns
returns g c =
    let bytes : List ℕ = c.self.inside.bytes.items in
    let i : ℕ = c.args.column in
    let within : i < length bytes = omega (arith, c.requires, length-bits_of bytes, ap (λ (bits : List Bool). length bits) c.self.view_is) in
    let before : c.index.result.now ≡ get_or bytes i 0 = c.index.ensures ∙ get_or_default bytes i c.index.result.now 0 within in
    let after : c.max.result ≡ max (get_or bytes i 0) (from_bool c.args.is_set) = c.max.ensures ∙ (λ j. max (before j) (c.from.ensures j)) in
    bit_raised_if bytes i c.max.result c.args.is_set (c.self.invariant.1 i 0 within) after
    ∙ ap (λ (bits : List Bool). cond c.args.is_set (set bits i true) bits) c.self.view_is
