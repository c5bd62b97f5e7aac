use Rattle.std.proofs.Common.{arith, ◌≡◌, ◌<◌, ◌+◌, rules, sym, subst, length, get_or}
use Rattle.std.proofs.lemmas.Grind.{common_steps}
use Rattle.std.proofs.lemmas.Option.{gets}
use Rattle.rb_import_merge.proofs.Rooms.{AreStoredBefore, all_stored, none_stored, stored_more, stored_same}
use Rattle.rb_import_merge.proofs.room.heights_of.Goals as goal
use Rattle.rb_import_merge.proofs.room.heights_of.Goals.{then-client-place+in-Some+in_ok-add_heights, then-client-place+in_default, else-client-place}

pub loop-number-init : goal.loop-number-init
loop-number-init c = subst (AreStoredBefore 0 c.args.setup.now c.args.clients.now c.args.place) (sym c.new-heights.ensures.items) (none_stored c.args.setup.now c.args.clients.now c.args.place)

pub loop-number-preserved : goal.loop-number-preserved
loop-number-preserved c =
    let small : c.loop-number.number < length c.args.setup.now.clients.items = search rules in
    let is : c.client-item.result ≡ get_or c.args.setup.now.clients.items c.loop-number.number c.client-item.result = search rules in
    elim c.if-client-place.branch [
      | then-client-place+in-Some+in_ok-add_heights w ↦
          stored_more c.args.setup.now c.args.clients.now c.args.place c.loop-number.number c.client-item.result w.in-Some.seen.now c.loop-number.heights.items c.if-client-place.heights.items small is
          (grind (arith, common_steps, gets)) (search rules) (search rules) c.loop-number.invariant
      | then-client-place+in_default w ↦
          subst (λ h. AreStoredBefore (c.loop-number.number + 1) c.args.setup.now c.args.clients.now c.args.place h.items) (sym w.heights-is)
          (stored_same c.args.setup.now c.args.clients.now c.args.place c.loop-number.number c.client-item.result c.loop-number.heights.items small is (λ follows. grind (arith, common_steps, gets)) c.loop-number.invariant)
      | else-client-place w ↦
          subst (λ h. AreStoredBefore (c.loop-number.number + 1) c.args.setup.now c.args.clients.now c.args.place h.items) (sym w.heights-is)
          (stored_same c.args.setup.now c.args.clients.now c.args.place c.loop-number.number c.client-item.result c.loop-number.heights.items small is (λ follows. search rules) c.loop-number.invariant)
    ]

pub returns-clause-stored : goal.returns-clause-stored
returns-clause-stored c = (all_stored c.args.setup.now c.args.clients.now c.args.place c.loop-number.number c.loop-number.heights.items (search rules) c.loop-number.invariant).0

pub returns-clause-all : goal.returns-clause-all
returns-clause-all c = (all_stored c.args.setup.now c.args.clients.now c.args.place c.loop-number.number c.loop-number.heights.items (search rules) c.loop-number.invariant).1
