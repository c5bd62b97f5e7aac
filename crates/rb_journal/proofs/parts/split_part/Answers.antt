use Rattle.std.proofs.Common.{◌≡◌, ◌++◌, ℕ, List, take, Some, sym, ap, ◌∙◌, take-append-drop, rules}
use Rattle.rb_journal.specs.Parts.{part_end}
use Rattle.rb_journal.proofs.Ends.{part_end-within, part_end-take}
use Rattle.rb_journal.proofs.parts.split_part.Goals as goal

pub split_at-requires : goal.split_at-requires
split_at-requires c =
    let at_end : part_end c.args.bytes.now ≡ Some c.in_ok-end.end = search rules in
    part_end-within c.args.bytes.now c.in_ok-end.end at_end

pub returns : goal.returns
returns c =
    let at_end : part_end c.args.bytes.now ≡ Some c.in_ok-end.end = search rules in
    let whole : ((c.args.bytes.now ≡ c.split_at.result.0.now ++ c.split_at.result.1.now)) =
    sym (ap (λ (xs : List ℕ). xs ++ c.split_at.result.1.now) c.split_at.ensures.front ∙ ap (λ (xs : List ℕ). take c.in_ok-end.end c.args.bytes.now ++ xs) c.split_at.ensures.back ∙ take-append-drop c.in_ok-end.end c.args.bytes.now) in
    (whole, ap part_end c.split_at.ensures.front ∙ part_end-take c.args.bytes.now c.in_ok-end.end at_end ∙ ap Some (sym c.split_at.ensures.front_len))
