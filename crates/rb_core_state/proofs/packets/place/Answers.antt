use Rattle.std.proofs.Common.{rules, sym, ◌∙◌, arith}
use Rattle.std.proofs.lemmas.List.Sorted.{answers_always}
use Rattle.rb_book.proofs.Places.{IsPlace-from_number_search}
use Rattle.rb_scan.specs.Packet.{Packet}
use Rattle.rb_core_state.proofs.Places.{new_last}
use Rattle.rb_core_state.proofs.packets.place.Goals as goal

pub returns-then-get-sequence : goal.returns-then-get-sequence
returns-then-get-sequence c =
    let same = sym c.sequence.ensures ∙ sym c.get.ensures.value in
    new_last (λ (p : Packet). p.sequence) c.args.sequence c.args.packets.now c.in-Some-last.last.now c.requires (sym c.in-Some-last.ensures.value)
    (omega (arith, same, c.if-get-sequence.true))

pub returns : goal.returns
returns c =
    let key = λ (p : Packet). p.sequence in
    IsPlace-from_number_search key c.args.sequence c.args.packets.now c.binary_search_by_key.result c.requires c.binary_search_by_key.ensures.bound
    (c.binary_search_by_key.ensures.position key (answers_always _ _ _ (λ f a r q h. search rules)))
