use Rattle.std.proofs.Common.{◌≡◌, true, false, Some, rules, ap, ◌∙◌, sym}
use Rattle.std.specs.List.{count_by}
use Rattle.std.specs.Option.{option_map}
use Rattle.rb_valset.specs.ValidatorSet.{set_hash}
use Rattle.rb_book.specs.Book.{has_hash, is_before}
use Rattle.rb_graph.specs.Moved.{moved}
use Rattle.rb_graph.proofs.Entered.{next_named, next_other}
use Rattle.rb_graph.proofs.reached.next_with.Goals as goal

pub returns-then-eq : goal.returns-then-eq
returns-then-eq g c =
    let named : has_hash c.args.known.now.record_of.next c.args.set.now ≡ true = search rules in
    ap (λ n. Some n) c.requires.place ∙ sym (next_named c.args.book.now c.args.set.now c.requires.unknown c.args.known.now named)

pub returns-in-Some : goal.returns-in-Some
returns-in-Some g c =
    let other : has_hash c.args.known.now.record_of.next c.args.set.now ≡ false = search rules in
    let place = count_by (is_before (set_hash c.args.set.now)) c.args.book.now.sets in
    ap (λ n. Some n) (c.moved.ensures ∙ ap (λ n. moved n c.in-Some.place) c.requires.place)
    ∙ sym (ap (option_map (moved place)) c.in-Some.is)
    ∙ next_other c.args.book.now c.args.set.now c.requires.unknown c.args.known.now c.args.next other c.requires.next

pub returns-in-None : goal.returns-in-None
returns-in-None g c =
    let other : has_hash c.args.known.now.record_of.next c.args.set.now ≡ false = search rules in
    let place = count_by (is_before (set_hash c.args.set.now)) c.args.book.now.sets in
    sym (ap (option_map (moved place)) c.in-None.is)
    ∙ next_other c.args.book.now c.args.set.now c.requires.unknown c.args.known.now c.args.next other c.requires.next
