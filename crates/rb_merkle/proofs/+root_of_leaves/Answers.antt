use Rattle.std.proofs.Common.{◌≡◌, length, arith}
use Rattle.rb_merkle.proofs.Roots.{none_by_leaves, one_by_leaves, more_by_leaves}
use Rattle.rb_merkle.proofs.+root_of_leaves.Goals as goal

pub returns-then-is_empty : goal.returns-then-is_empty
returns-then-is_empty t g c =
    let none : length c.args.hashes.now ≡ 0 = grind arith in
    rw (c.digest.ensures, c.as_slice.ensures) (none_by_leaves c.args.hashes.now none)

pub returns-then-hashes-eq1 : goal.returns-then-hashes-eq1
returns-then-hashes-eq1 t g c = one_by_leaves c.args.hashes.now _ c.if-hashes-eq1.true

pub returns : goal.returns
returns t g c =
    rw c.node.ensures (more_by_leaves c.args.hashes.now c.split_point.result c.root_of_leaves-left.result c.root_of_leaves-right.result c.split_point.ensures
    (rw (← c.split_at.ensures.front) c.root_of_leaves-left.ensures) (rw (← c.split_at.ensures.back) c.root_of_leaves-right.ensures))
