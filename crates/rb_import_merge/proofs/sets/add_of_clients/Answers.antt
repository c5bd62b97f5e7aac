use Rattle.std.proofs.Common.{arith, ◌≡◌, ◌<◌, ◌+◌, rules, sym, subst, length, get_or}
use Rattle.std.proofs.lemmas.Grind.{common_steps}
use Rattle.std.proofs.lemmas.Option.{gets}
use Rattle.std.specs.Prelude.{Any}
use Rattle.rb_import_merge.specs.Sets.{Gains, NamesNext}
use Rattle.rb_import_merge.proofs.Naming.{NextBefore, next_all, next_more, next_same, next_start}
use Rattle.rb_import_merge.proofs.sets.add_of_clients.Goals as goal
use Rattle.rb_import_merge.proofs.sets.add_of_clients.Goals.{then-client-place+in-Some+in_ok-add_of_records, then-client-place+in_default, else-client-place}

pub loop-number-init : goal.loop-number-init
loop-number-init c = next_start c.args.setup.now c.args.records.now c.args.place c.args.sets.now.sets.items c.args.places.now.items

pub loop-number-preserved : goal.loop-number-preserved
loop-number-preserved c =
    let sets = c.args.sets.now.sets.items in
    let old = c.args.places.now.items in
    let before = c.loop-number.places.items in
    let small : c.loop-number.number < length c.args.setup.now.clients.items = search rules in
    let is : c.client-item.result ≡ get_or c.args.setup.now.clients.items c.loop-number.number c.client-item.result = search rules in
    elim c.if-client-place.branch [
      | then-client-place+in-Some+in_ok-add_of_records w ↦
          next_more c.args.setup.now c.args.records.now c.args.place sets c.loop-number.number c.client-item.result w.in-Some.written.now old before c.if-client-place.places.items small is
          (grind (arith, common_steps, gets)) (search rules) c.loop-number.invariant (subst (λ h. Gains (λ p. Any (NamesNext sets p) w.in-Some.written.now.items) before h.items) (sym w.places-is) (subst (λ l. Gains (λ p. Any (NamesNext sets p) l) before w.add_of_records.new.places.items) w.as_slice.ensures.value w.in_ok-add_of_records.ensures))
      | then-client-place+in_default w ↦
          subst (λ h. Gains (NextBefore (c.loop-number.number + 1) c.args.setup.now c.args.records.now c.args.place sets) old h.items) (sym w.places-is)
          (next_same c.args.setup.now c.args.records.now c.args.place sets c.loop-number.number c.client-item.result old before small is (λ follows. grind (arith, common_steps, gets)) c.loop-number.invariant)
      | else-client-place w ↦
          subst (λ h. Gains (NextBefore (c.loop-number.number + 1) c.args.setup.now c.args.records.now c.args.place sets) old h.items) (sym w.places-is)
          (next_same c.args.setup.now c.args.records.now c.args.place sets c.loop-number.number c.client-item.result old before small is (λ follows. search rules) c.loop-number.invariant)
    ]

pub returns : goal.returns
returns c = next_all c.args.setup.now c.args.records.now c.args.place c.args.sets.now.sets.items c.loop-number.number c.args.places.now.items c.loop-number.places.items (search rules) c.loop-number.invariant
