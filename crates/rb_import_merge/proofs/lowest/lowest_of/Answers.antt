use Rattle.std.proofs.Common.{ℕ, ◌+◌, ◌<◌, All, length, get_or, sym, subst}
use Rattle.std.specs.Prelude.{Any, Contains}
use Rattle.std.specs.List.{IsDistinct}
use Rattle.std.specs.List.Sorted.{IsStrictlySortedBy}
use Rattle.std.proofs.lemmas.List.Sorted.{IsPermutation-sym}
use Rattle.std.proofs.lemmas.Result.{err_from_is_err_and}
use Rattle.rb_import_merge.specs.declared.packets.SeenPacket.{SeenPacket}
use Rattle.rb_import_merge.specs.Packets.{StandsFor, are_of_one}
use Rattle.rb_import_merge.specs.Lowest.{AreEqualSendings, AreTwoOf, packet_cmp}
use Rattle.rb_import_merge.proofs.Lowering.{among, standing, once, strictly, two_too}
use Rattle.rb_import_merge.proofs.lowest.lowest_of.Goals as goal

pub returns-clause-among : goal.returns-clause-among
returns-clause-among c = subst (All (Contains c.args.packets.items)) (sym c.firsts_of.ensures) (among c.args.packets.items c.in_ok-sorted.sorted.items c.in_ok-sorted.ensures.same)

pub returns-clause-standing : goal.returns-clause-standing
returns-clause-standing c =
    let equal : (k : ℕ) (d : SeenPacket) → k + 1 < length c.in_ok-sorted.sorted.items → AreEqualSendings (get_or c.in_ok-sorted.sorted.items k d) (get_or c.in_ok-sorted.sorted.items (k + 1) d) =
    subst (λ l. (k : ℕ) (d : SeenPacket) → k + 1 < length l → AreEqualSendings (get_or l k d) (get_or l (k + 1) d)) c.as_slice.ensures.value c.in_ok-judge_sendings.ensures.equal in
    subst (λ l. All (λ (p : SeenPacket). Any (StandsFor p.event.now) l) c.args.packets.items) (sym c.firsts_of.ensures)
    (standing c.args.packets.items c.in_ok-sorted.sorted.items c.in_ok-sorted.ensures.same c.in_ok-sorted.ensures.order equal)

pub returns-clause-once : goal.returns-clause-once
returns-clause-once c = subst (IsDistinct are_of_one) (sym c.firsts_of.ensures) (once c.in_ok-sorted.sorted.items c.in_ok-sorted.ensures.order)

pub returns-clause-order : goal.returns-clause-order
returns-clause-order c = subst (IsStrictlySortedBy packet_cmp) (sym c.firsts_of.ensures) (strictly c.in_ok-sorted.sorted.items c.in_ok-sorted.ensures.order)

pub returns-in_err-judge_sendings-clause-refused : goal.returns-in_err-judge_sendings-clause-refused
returns-in_err-judge_sendings-clause-refused c =
    let p = err_from_is_err_and c.from_residual-in_err-judge_sendings.result c.from_residual-in_err-judge_sendings.ensures.1 in
    let e = c.in_err-judge_sendings.field-0.0 in
    let two : AreTwoOf c.in_ok-sorted.sorted.items e = subst (λ l. AreTwoOf l e) c.as_slice.ensures.value c.in_err-judge_sendings.ensures.refused in
    rw (p.1, p.2) (two_too c.in_ok-sorted.sorted.items c.args.packets.items e (IsPermutation-sym c.args.packets.items c.in_ok-sorted.sorted.items c.in_ok-sorted.ensures.same) two)
