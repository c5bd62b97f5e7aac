use Rattle.std.proofs.Common.{◌≡◌, ◌<◌, ℕ, All, get_or, length, rules, sym}
use Rattle.std.specs.Prelude.{Contains}
use Rattle.rb_import_check.specs.declared.saved.Saved.{Saved}
use Rattle.rb_import_merge.specs.Pending.{committed_in}
use Rattle.rb_import_merge.proofs.Leaving.{CommitmentHas, answers_more, no_answers}
use Rattle.rb_import_merge.proofs.Searching.{at_end}
use Rattle.rb_import_merge.proofs.left_out.PathEvents.add_of_commitments.Goals as goal

pub loop-saved-init : goal.loop-saved-init
loop-saved-init c =
    let it = c.args.self.now in
    record {
      reasons = λ all. all;
      kept = λ n has. has;
      all = no_answers it.setup.now it.answers.now c.args.lacking.now.items;
    }

pub loop-saved-preserved : goal.loop-saved-preserved
loop-saved-preserved c =
    let it = c.args.self.now in
    let s : Saved = c.saved-item.result in
    let i : ℕ = c.loop-saved.saved-index in
    let small : i < length it.answers.now = search rules in
    let is : s ≡ get_or it.answers.now i s = search rules in
    let among : Contains it.answers.now s = (i, small, sym is) in
    record {
      reasons = λ all. c.in_ok-add_committed.ensures.reasons among (c.loop-saved.invariant.reasons all);
      kept = λ n has. c.in_ok-add_committed.ensures.kept n (c.loop-saved.invariant.kept n has);
      all = answers_more it.setup.now it.answers.now i s c.loop-saved.lacking.items _ small is c.in_ok-add_committed.ensures.kept c.loop-saved.invariant.all c.in_ok-add_committed.ensures.all;
    }

pub returns-clause-all : goal.returns-clause-all
returns-clause-all c =
    let it = c.args.self.now in
    at_end (λ (s : Saved). All (CommitmentHas it.setup.now it.answers.now c.loop-saved.lacking.items) (committed_in s.answer)) it.answers.now c.loop-saved.saved-index (search rules) c.loop-saved.invariant.all
