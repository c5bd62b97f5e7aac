use Rattle.std.proofs.Common.{◌∙◌, ap}
use Rattle.std.specs.Borrow.{Bor}
use Rattle.rb_want_requests.specs.declared.content.Folders.{Folders}
use Rattle.rb_want.specs.Paths.{part_ends, part_needs, path_view}
use Rattle.rb_want.proofs.Adding.{part_end_step, part_step}
use Rattle.rb_want.proofs.path.PathCase.add_parts.Goals as goal

-- what one more part needs is added
pub loop-before-preserved : goal.loop-before-preserved
loop-before-preserved c =
    let now = c.loop-before.wanted in
    let old = c.args.wanted.now in
    record {
      requests = part_step old.folders.now now.folders.now old.requests.items now.requests.items _ (part_needs (path_view c.args.self.now)) c.loop-before.before
          (ap (λ (b : Bor Folders). b.now) c.loop-before.invariant.folders) c.loop-before.invariant.requests c.in_ok-add_part.ensures.requests;
      folders = c.add_part.ensures.folders ∙ c.loop-before.invariant.folders;
      reasons = c.add_part.ensures.reasons ∙ c.loop-before.invariant.reasons;
      ends = c.add_part.ensures.ends ∙ c.loop-before.invariant.ends;
      path_ends = part_end_step old.path_ends.items now.path_ends.items _ (part_ends (path_view c.args.self.now) c.args.self.now.answers.folder.now)
          c.loop-before.before c.loop-before.invariant.path_ends c.in_ok-add_part.ensures.path_ends;
    }
