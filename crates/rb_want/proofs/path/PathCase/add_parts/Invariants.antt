use Rattle.std.specs.Prelude.{◌≡◌}
use Rattle.std.specs.List.{flat_map, range_with_len}
use Rattle.rb_want.specs.Adding.{with_needed, with_path_ends}
use Rattle.rb_want.specs.Paths.{part_ends, part_needs, path_view}
use Rattle.rb_want.proofs.path.PathCase.add_parts.Given as goal

-- what the parts so far need is added, and why no more is asked
abbrev pub invariant-loop-before : goal.invariant-loop-before
invariant-loop-before l = record {
  requests : l.wanted.requests.items
      ≡ with_needed l.fn.wanted.folders.now l.fn.wanted.requests.items (flat_map (part_needs (path_view l.self)) (range_with_len 1 l.before));
  folders : l.wanted.folders ≡ l.fn.wanted.folders;
  reasons : l.wanted.reasons ≡ l.fn.wanted.reasons;
  ends : l.wanted.ends ≡ l.fn.wanted.ends;
  path_ends : l.wanted.path_ends.items
      ≡ with_path_ends l.fn.wanted.path_ends.items (flat_map (part_ends (path_view l.self) l.self.answers.folder.now) (range_with_len 1 l.before));
}
