-- Which leaves are neighbours (ICS 23, `IsLeftMost`, `IsRightMost`, `IsLeftNeighbor`). Each node has two children, and none is empty.
use Rattle.std.specs.Prelude.{◌+◌, Bool, false, ◌&&◌, ◌==◌, nat_le, if◌then◌else◌, List, [], ◌∷◌, length, reverse, bytes_eq}
use Rattle.std.specs.List.{list_all}
use Rattle.rb_ics23.specs.declared.proof.ProofSpec.{ProofSpec}
use Rattle.rb_ics23.specs.Proof.{Inner}
use Rattle.rb_ics23.specs.Fit.{child_size, least_prefix, most_prefix}

-- the other child stands behind
abbrev pub is_left_child : ProofSpec → Inner → Bool
is_left_child spec step =
    nat_le (least_prefix spec) (length step.prefix) && nat_le (length step.prefix) (most_prefix spec)
    && (length step.suffix == child_size spec)

-- the other child stands before
abbrev pub is_right_child : ProofSpec → Inner → Bool
is_right_child spec step =
    nat_le (least_prefix spec + child_size spec) (length step.prefix)
    && nat_le (length step.prefix) (most_prefix spec + child_size spec) && (length step.suffix == 0)

unfoldable pub is_left_most : ProofSpec → List Inner → Bool
is_left_most spec path = list_all (is_left_child spec) path

unfoldable pub is_right_most : ProofSpec → List Inner → Bool
is_right_most spec path = list_all (is_right_child spec) path

-- whether two steps have one node above them and are the same child of it
abbrev pub same_step : Inner → Inner → Bool
same_step a b = bytes_eq a.prefix b.prefix && bytes_eq a.suffix b.suffix

-- the two children of one node; below them the left path keeps to the right, and the right one to the left
unfoldable pub are_apart : ProofSpec → Inner → List Inner → Inner → List Inner → Bool
are_apart spec l left r right = is_left_child spec l && is_right_child spec r && is_right_most spec left && is_left_most spec right

-- two paths from the root down, which may begin with the same steps
unfoldable pub part_as_neighbours : ProofSpec → List Inner → List Inner → Bool
part_as_neighbours spec [] right = false
part_as_neighbours spec (l ∷ left) [] = false
part_as_neighbours spec (l ∷ left) (r ∷ right) =
    if same_step l r then part_as_neighbours spec left right else are_apart spec l left r right

unfoldable pub are_neighbours : ProofSpec → List Inner → List Inner → Bool
are_neighbours spec left right = part_as_neighbours spec (reverse left) (reverse right)
