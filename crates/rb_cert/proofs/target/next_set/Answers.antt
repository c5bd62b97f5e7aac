use Rattle.std.proofs.Common.{◌≡◌, ◌∙◌, List, ap, sym, get_or, position, None, Some, rules}
use Rattle.std.specs.Option.{option_copied}
use Rattle.rb_valset.specs.Validator.{Member}
use Rattle.rb_valset.proofs.Positions.{find-place, find-none}
use Rattle.rb_book.specs.Book.{Book, has_hash}
use Rattle.rb_cert.proofs.target.next_set.Goals as goal

pub returns-in_err-place : goal.returns-in_err-place
returns-in_err-place g c =
    let none : c.args.next ≡ None = search rules in
    ap option_copied c.from_residual.ensures ∙ sym (find-none (has_hash c.args.known.now.record_of.next) c.args.view.now.book.sets (sym c.requires ∙ none))

pub returns : goal.returns
returns g c =
    let some : c.args.next ≡ Some c.in_ok-place.place = search rules in
    let same : c.sets.result.now ≡ c.args.view.now.book.sets = c.sets.ensures.value ∙ ap (λ (b : Book). b.sets) c.book.ensures.value in
    sym (find-place (has_hash c.args.known.now.record_of.next) c.args.view.now.book.sets c.in_ok-place.place c.index-sets-place.result (sym c.requires ∙ some)
    (c.index-sets-place.is ∙ ap (λ (l : List (List Member)). get_or l c.in_ok-place.place c.index-sets-place.result) same))
