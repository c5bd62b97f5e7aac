use Rattle.std.proofs.Common.{◌≡◌, ◌-◌, ℕ, List, min, length, take, drop, sym, ap, ◌∙◌, arith}
use Rattle.std.proofs.lemmas.List.{take_all, length-drop}
use Rattle.rb_lanes.specs.Lanes.{bits_of}
use Rattle.rb_lanes.proofs.Planes.{bits_from}
use Rattle.rb_lanes.proofs.plane.Plane.bytes_from.Goals as goal

pub returns-clause-bits : goal.returns-clause-bits
returns-clause-bits g c =
    let bytes : List ℕ = c.deref.result.now in
    let items : List ℕ = c.self.inside.bytes.items in
    let m : ℕ = c.min.result in
    let whole : take (length bytes - m) (drop m bytes) ≡ drop m bytes = take_all (length bytes - m) (drop m bytes) (omega (arith, length-drop m bytes)) in
    let place : m ≡ min c.args.first (length items) = c.min.ensures ∙ ap (λ (n : ℕ). min c.args.first n) (c.len.ensures ∙ sym c.deref.ensures.len ∙ ap (λ (l : List ℕ). length l) c.deref.ensures.value) in
    ap bits_of (whole ∙ (λ i. drop (place i) (c.deref.ensures.value i)))
    ∙ bits_from items c.args.first
    ∙ ap (drop c.args.first) c.self.view_is
