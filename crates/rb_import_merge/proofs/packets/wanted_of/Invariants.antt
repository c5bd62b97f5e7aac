use Rattle.std.proofs.Common.{◌≡◌, None, filter, take}
use Rattle.std.specs.Prelude.{option_map}
use Rattle.rb_import_merge.specs.Packets.{AreFromOne, is_wanted}
use Rattle.rb_import_merge.specs.declared.packets.SeenPacket.{SeenPacket}
use Rattle.rb_import_merge.proofs.packets.wanted_of.Given as goal

-- the wanted ones of the events so far, of one source where the setup names none
abbrev pub invariant-loop-seen : goal.invariant-loop-seen
invariant-loop-seen l = record {
  wanted : l.wanted.items ≡ filter (λ (s : SeenPacket). is_wanted l.setup (option_map (λ e. e.now) l.end) l.fn.answers s.event.now) (take l.seen-index l.all);
  source : l.setup.source_channel ≡ None → AreFromOne l.wanted.items;
}
