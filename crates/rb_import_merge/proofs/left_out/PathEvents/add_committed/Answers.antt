use Rattle.std.proofs.Common.{◌≡◌, ◌∙◌, ◌<◌, ◌≤◌, ℕ, List, get_or, length, sym, subst}
use Rattle.std.proofs.lemmas.List.{get_or_default}
use Rattle.rb_import_merge.specs.declared.left_out.LeftOutPacket.{LeftOutPacket}
use Rattle.rb_import_merge.specs.LeftOut.{IsLeftOutFor}
use Rattle.rb_import_merge.specs.Pending.{committed_in}
use Rattle.rb_import_merge.proofs.Leaving.{CommitmentHas, entries_all, entries_have, entries_kept, lacks_from, no_numbers, numbers_more, of_a_commitment}
use Rattle.rb_import_merge.proofs.Searching.{at_end}
use Rattle.rb_import_merge.proofs.left_out.PathEvents.add_committed.Goals as goal

pub loop-sequence-init : goal.loop-sequence-init
loop-sequence-init c =
    let it = c.args.self.now in
    record {
      reasons = λ among all. all;
      kept = λ n has. has;
      all = no_numbers it.setup.now it.answers.now (committed_in c.args.saved.now.answer) c.args.lacking.now.items;
    }

pub loop-sequence-preserved : goal.loop-sequence-preserved
loop-sequence-preserved c =
    let it = c.args.self.now in
    let numbers : List ℕ = committed_in c.args.saved.now.answer in
    let i : ℕ = c.loop-sequence.sequence-index in
    let n : ℕ = get_or c.committed_in-sequence-items.result.now i 0 in
    let before : List LeftOutPacket = c.loop-sequence.lacking.items in
    let small : i < length numbers = subst (λ (l : List ℕ). i < length l) c.committed_in-sequence-items.ensures c.loop-sequence-test.true in
    let is : n ≡ get_or numbers i n = subst (λ (l : List ℕ). get_or c.committed_in-sequence-items.result.now i 0 ≡ get_or l i n) c.committed_in-sequence-items.ensures (get_or_default c.committed_in-sequence-items.result.now i 0 n c.loop-sequence-test.true) in
    record {
      reasons = λ among all.
          entries_all (IsLeftOutFor it.setup.now it.answers.now) n c.lack_from_first-lack.result c.as_str-file.result before _ c.in_ok-add_lacking.ensures
          (λ l e. of_a_commitment it.setup.now it.answers.now c.args.saved.now n l c.as_str-file.result among (i, small, sym is) c.as_str-file.ensures.value (sym c.lack_from_first-lack.ensures ∙ e))
          (c.loop-sequence.invariant.reasons among all);
      kept = λ m has. entries_kept m n c.lack_from_first-lack.result c.as_str-file.result before _ c.in_ok-add_lacking.ensures (c.loop-sequence.invariant.kept m has);
      all =
          numbers_more it.setup.now it.answers.now numbers i n before _ small is (λ m. entries_kept m n c.lack_from_first-lack.result c.as_str-file.result before _ c.in_ok-add_lacking.ensures)
          c.loop-sequence.invariant.all
          (λ late lacks. entries_have n c.lack_from_first-lack.result c.as_str-file.result before _ c.in_ok-add_lacking.ensures (λ none. lacks_from it.setup.now.config.first n _ late lacks (sym c.lack_from_first-lack.ensures ∙ none)));
    }

pub returns-clause-all : goal.returns-clause-all
returns-clause-all c =
    let it = c.args.self.now in
    at_end (CommitmentHas it.setup.now it.answers.now c.loop-sequence.lacking.items) (committed_in c.args.saved.now.answer) c.loop-sequence.sequence-index
    (subst (λ (l : List ℕ). length l ≤ c.loop-sequence.sequence-index) c.committed_in-sequence-items.ensures c.loop-sequence-test.false) c.loop-sequence.invariant.all
