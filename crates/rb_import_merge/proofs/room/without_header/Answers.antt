use Rattle.std.proofs.Common.{arith, rules, take, ◌≡◌, ◌<◌, ◌+◌, ℕ, length, get_or, sym, subst}
use Rattle.std.proofs.lemmas.Grind.{common_steps}
use Rattle.std.proofs.lemmas.List.{take_all}
use Rattle.rb_import_merge.specs.Room.{AreThose, HasHeader}
use Rattle.rb_import_merge.proofs.Rooms.{those_more, those_same}
use Rattle.rb_import_merge.proofs.room.without_header.Goals as goal
use Rattle.rb_import_merge.proofs.room.without_header.Goals.{then-not-has_header+in_ok-push, else-not-has_header}

pub loop-height-preserved : goal.loop-height-preserved
loop-height-preserved c =
    let P = λ (h : ℕ). ¬ HasHeader c.args.chain.now h in
    let Q = HasHeader c.args.chain.now in
    let i : ℕ = c.loop-height.height-index in
    let x : ℕ = get_or c.args.heights.now i 0 in
    let small : i < length c.args.heights.now = search rules in
    let is : x ≡ get_or c.args.heights.now i x = grind (arith, common_steps) in
    elim c.if-not-has_header.branch [
      | then-not-has_header+in_ok-push w ↦ subst (λ k. AreThose P Q (take (i + 1) c.args.heights.now) k.items) (sym w.bare-is)
          (those_more P Q c.args.heights.now c.loop-height.bare.items _ i x small is c.loop-height.invariant (search rules) w.in_ok-push.ensures.items)
      | else-not-has_header w ↦ subst (λ k. AreThose P Q (take (i + 1) c.args.heights.now) k.items) (sym w.bare-is)
          (those_same P Q c.args.heights.now c.loop-height.bare.items i x small is c.loop-height.invariant (search rules))
    ]

pub returns : goal.returns
returns c =
    subst (λ l. AreThose (λ (h : ℕ). ¬ HasHeader c.args.chain.now h) (HasHeader c.args.chain.now) l c.loop-height.bare.items) (take_all c.loop-height.height-index c.args.heights.now (search rules)) c.loop-height.invariant
