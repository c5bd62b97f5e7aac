use Rattle.std.specs.Prelude.{◌≡◌, take}
use Rattle.std.specs.List.{enumerate_from, flat_map}
use Rattle.rb_want.specs.Adding.{with_needed, with_path_ends}
use Rattle.rb_want.specs.Paths.{ends_at, needs_at}
use Rattle.rb_want.proofs.asking.add_paths.Given as goal

-- what the paths so far need is added, and why no more is asked
abbrev pub invariant-loop-place : goal.invariant-loop-place
invariant-loop-place l = record {
  requests : l.wanted.requests.items
      ≡ with_needed l.fn.wanted.folders.now l.fn.wanted.requests.items
      (flat_map (needs_at l.setup.chains.items l.folders.paths.items) (take l.place (enumerate_from 0 l.paths)));
  folders : l.wanted.folders ≡ l.fn.wanted.folders;
  reasons : l.wanted.reasons ≡ l.fn.wanted.reasons;
  ends : l.wanted.ends ≡ l.fn.wanted.ends;
  path_ends : l.wanted.path_ends.items
      ≡ with_path_ends l.fn.wanted.path_ends.items (flat_map (ends_at l.setup.chains.items l.folders.paths.items) (take l.place (enumerate_from 0 l.paths)));
}
