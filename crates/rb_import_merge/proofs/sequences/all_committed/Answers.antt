use Rattle.std.proofs.Common.{◌≡◌, ◌∙◌, ◌++◌, ap, rules}
use Rattle.std.specs.List.{flat_map}
use Rattle.std.proofs.lemmas.List.{take_all}
use Rattle.rb_import_check.specs.declared.saved.Saved.{Saved}
use Rattle.rb_import_check.proofs.Sorting.{added_more}
use Rattle.rb_import_merge.specs.Pending.{committed_in}
use Rattle.rb_import_merge.proofs.sequences.all_committed.Goals as goal

pub loop-saved-preserved : goal.loop-saved-preserved
loop-saved-preserved c =
    let now : c.extend_from_slice.new.self.items ≡ c.loop-saved.all.items ++ committed_in c.saved-item.result.answer = search rules in
    added_more (λ (s : Saved). committed_in s.answer) c.loop-saved.all.items c.extend_from_slice.new.self.items c.args.answers.now c.loop-saved.saved-index c.saved-item.result (search rules) (search rules)
    c.loop-saved.invariant now

pub returns : goal.returns
returns c = c.loop-saved.invariant ∙ ap (flat_map (λ (s : Saved). committed_in s.answer)) (take_all c.loop-saved.saved-index c.args.answers.now (search rules))
