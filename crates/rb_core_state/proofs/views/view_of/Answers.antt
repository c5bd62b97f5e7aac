use Rattle.std.proofs.Common.{List, sym, ◌∙◌, subst}
use Rattle.std.specs.List.Sorted.{IsStrictlyIncreasing}
use Rattle.rb_scan.specs.Packet.{Packet}
use Rattle.rb_scan.specs.Path.{AreFrom, sequences_of}
use Rattle.rb_core_state.proofs.views.view_of.Goals as goal

pub new-requires-clause-sequences : goal.new-requires-clause-sequences
new-requires-clause-sequences g c =
    subst (λ (ps : List Packet). IsStrictlyIncreasing (sequences_of ps)) (sym (c.in_ok-sent.ensures.items ∙ c.packets.ensures.value)) c.packets.ensures.rising

pub new-requires-clause-from_first : goal.new-requires-clause-from_first
new-requires-clause-from_first g c =
    subst (λ first. AreFrom first c.in_ok-sent.sent.items) (sym c.first.ensures)
    (subst (λ (ps : List Packet). AreFrom c.args.path.now.path.first ps) (sym (c.in_ok-sent.ensures.items ∙ c.packets.ensures.value)) c.packets.ensures.from_first)
