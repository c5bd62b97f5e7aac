use Rattle.std.proofs.Common.{◌≡◌, drop, nat_le}
use Rattle.toml.specs.Data.{items_depth, members_depth}
use Rattle.toml.specs.View.{items_view, members_view}
use Rattle.rb_journal.proofs.depth.+depth.Given as goal

-- what is left nests as deep as all
abbrev pub invariant-array_fits-items : goal.invariant-array_fits-items
invariant-array_fits-items l =
    nat_le (items_depth (items_view (drop l.item-index l.item-items))) l.levels ≡ nat_le (items_depth (items_view l.item-items)) l.levels

abbrev pub invariant-table_fits-members : goal.invariant-table_fits-members
invariant-table_fits-members l =
    (goal.iterator-table_fits-members).can_next l._key-iterator ×
    (goal.iterator-table_fits-members).is_finite l._key-iterator ×
    (nat_le (members_depth (members_view l._key-iterator)) l.levels ≡ nat_le (members_depth (members_view l.table.entries)) l.levels)
