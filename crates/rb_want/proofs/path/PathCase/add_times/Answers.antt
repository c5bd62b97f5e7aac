use Rattle.std.proofs.Common.{◌∙◌, ap, rules}
use Rattle.std.specs.Borrow.{Bor}
use Rattle.std.proofs.lemmas.List.{get_or_default}
use Rattle.rb_want_requests.specs.declared.content.Folders.{Folders}
use Rattle.rb_want.specs.Paths.{time_needs, path_view}
use Rattle.rb_want.proofs.Adding.{more_step}
use Rattle.rb_want.proofs.path.PathCase.add_times.Goals as goal

-- what tells since when one more packet waits is added
pub loop-sequence-preserved : goal.loop-sequence-preserved
loop-sequence-preserved c =
    let now = c.loop-sequence.wanted in
    let old = c.args.wanted.now in
    record {
      requests = more_step old.folders.now now.folders.now old.requests.items now.requests.items _
          (time_needs (path_view c.args.self.now) c.args.self.now.answers.folder.now) c.deref-sequence-items.result.now c.loop-sequence.sequence-index _
          (search rules) (search (rules, get_or_default)) (ap (λ (b : Bor Folders). b.now) c.loop-sequence.invariant.folders)
          c.loop-sequence.invariant.requests c.in_ok-add_time.ensures.requests;
      folders = c.add_time.ensures.folders ∙ c.loop-sequence.invariant.folders;
      reasons = c.add_time.ensures.reasons ∙ c.loop-sequence.invariant.reasons;
      ends = c.add_time.ensures.ends ∙ c.loop-sequence.invariant.ends;
      path_ends = c.add_time.ensures.path_ends ∙ c.loop-sequence.invariant.path_ends;
    }
