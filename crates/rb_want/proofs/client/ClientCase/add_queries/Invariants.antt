use Rattle.std.specs.Prelude.{◌≡◌, map, take}
use Rattle.rb_want.specs.Adding.{with_needed}
use Rattle.rb_want.specs.Needs.{node_request, tracking_of}
use Rattle.rb_want.proofs.client.ClientCase.add_queries.Given as goal

-- the queries so far are added
abbrev pub invariant-loop-query : goal.invariant-loop-query
invariant-loop-query l = record {
  requests : l.wanted.requests.items
      ≡ with_needed l.fn.wanted.folders.now l.fn.wanted.requests.items (map (node_request (tracking_of l.self)) (take l.query-index l.asked));
  folders : l.wanted.folders ≡ l.fn.wanted.folders;
  reasons : l.wanted.reasons ≡ l.fn.wanted.reasons;
  ends : l.wanted.ends ≡ l.fn.wanted.ends;
  path_ends : l.wanted.path_ends ≡ l.fn.wanted.path_ends;
}
