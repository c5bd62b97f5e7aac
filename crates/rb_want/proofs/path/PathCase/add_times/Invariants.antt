use Rattle.std.specs.Prelude.{◌≡◌, take}
use Rattle.std.specs.List.{flat_map}
use Rattle.rb_want.specs.Adding.{with_needed}
use Rattle.rb_want.specs.Paths.{time_needs, path_view}
use Rattle.rb_want.proofs.path.PathCase.add_times.Given as goal

-- what tells since when the packets so far wait is added
abbrev pub invariant-loop-sequence : goal.invariant-loop-sequence
invariant-loop-sequence l = record {
  requests : l.wanted.requests.items
      ≡ with_needed l.fn.wanted.folders.now l.fn.wanted.requests.items
      (flat_map (time_needs (path_view l.self) l.self.answers.folder.now) (take l.sequence-index l.sequence-items));
  folders : l.wanted.folders ≡ l.fn.wanted.folders;
  reasons : l.wanted.reasons ≡ l.fn.wanted.reasons;
  ends : l.wanted.ends ≡ l.fn.wanted.ends;
  path_ends : l.wanted.path_ends ≡ l.fn.wanted.path_ends;
}
