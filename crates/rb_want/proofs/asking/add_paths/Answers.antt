use Rattle.std.proofs.Common.{◌∙◌, ap}
use Rattle.std.specs.Borrow.{Bor}
use Rattle.rb_want_requests.specs.declared.content.Folders.{Folders}
use Rattle.rb_want.specs.Paths.{ends_at, needs_at}
use Rattle.rb_want.proofs.Zipped.{path_end_more, path_ends_all, path_step, paths_all}
use Rattle.rb_want.proofs.asking.add_paths.Goals as goal

-- what one more path needs is added
pub loop-place-preserved : goal.loop-place-preserved
loop-place-preserved c =
    let now = c.loop-place.wanted in
    let old = c.args.wanted.now in
    record {
      requests = path_step old.folders.now now.folders.now old.requests.items now.requests.items _
          (needs_at c.args.setup.now.chains.items c.args.folders.now.paths.items) c.args.paths.now c.loop-place.place c.index-paths-place.result
          c.loop-place-test.true c.index-paths-place.is (ap (λ (b : Bor Folders). b.now) c.loop-place.invariant.folders) c.loop-place.invariant.requests
          c.in_ok-add_path.ensures.requests;
      folders = c.add_path.ensures.folders ∙ c.loop-place.invariant.folders;
      reasons = c.add_path.ensures.reasons ∙ c.loop-place.invariant.reasons;
      ends = c.add_path.ensures.ends ∙ c.loop-place.invariant.ends;
      path_ends = path_end_more old.path_ends.items now.path_ends.items _ (ends_at c.args.setup.now.chains.items c.args.folders.now.paths.items)
          c.args.paths.now c.loop-place.place c.index-paths-place.result c.loop-place-test.true c.index-paths-place.is
          c.loop-place.invariant.path_ends c.in_ok-add_path.ensures.path_ends;
    }

-- all paths were gone through
pub returns-clause-requests : goal.returns-clause-requests
returns-clause-requests c =
    paths_all c.args.wanted.now.folders.now c.args.wanted.now.requests.items c.loop-place.wanted.requests.items
    (needs_at c.args.setup.now.chains.items c.args.folders.now.paths.items) c.args.paths.now c.loop-place.place c.loop-place-test.false
    c.loop-place.invariant.requests

pub returns-clause-path_ends : goal.returns-clause-path_ends
returns-clause-path_ends c =
    path_ends_all c.args.wanted.now.path_ends.items c.loop-place.wanted.path_ends.items
    (ends_at c.args.setup.now.chains.items c.args.folders.now.paths.items) c.args.paths.now c.loop-place.place c.loop-place-test.false
    c.loop-place.invariant.path_ends
