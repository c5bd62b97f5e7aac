use Rattle.std.proofs.Common.{◌≡◌, ◌==◌, ◌-◌, false, length, codes, le_refl, refl, sym, subst, Ok, ◌∙◌, rules, arith}
use Rattle.std.proofs.lemmas.Grind.{common_steps}
use Rattle.toml_parser.specs.Lexical.{skip_blank}
use Rattle.toml.specs.Data.{no_items, push_item, table}
use Rattle.toml.specs.Tables.{close}
use Rattle.toml.proofs.Turns.{lines_end, lines_more}
use Rattle.rb_script_types.specs.Script.{turn_view}
use Rattle.rb_script_config.specs.Setups.{setup_view}
use Rattle.rb_script_read.specs.Turns.{Reading, reading_view, turn_at}
use Rattle.rb_script_read.proofs.PlainLemmas.{array_more, turns_push}
use Rattle.rb_script_read.proofs.plain.read_turn_texts.Goals as goal

pub turns-init : goal.turns-init
turns-init c = (search rules, le_refl _, λ root n h. (no_items, (n, h, refl), rw (c.new-turns.ensures.items, c.opening-reading.ensures)))

pub turns-preserved : goal.turns-preserved
turns-preserved c =
    let l = c.turns in
    let start_is = c.skip_blank-start.ensures.rest in
    let within = c.in_ok-next.ensures.within in
    let before = c.skip_blank-start.ensures.within in
    let shorter = c.in_ok-rest.ensures.shorter in
    let cfg = setup_view c.args.setup.now in
    let at : c.len.result ≡ length l.turns.items = grind (arith, common_steps) in
    let other : (length (skip_blank c.in_ok-next.after.now) == 0) ≡ false = grind (arith, common_steps) in (
      search rules,
      omega (arith, l.invariant.1),
      λ root n h.
          let (done, leaves, read) = l.invariant.2 root n h in
          let (m, room, loop) = leaves in
          let (last, here, now) = c.in_ok-next.ensures.read root done m room in
          let (k, space, on) = here in
          let next = subst (λ (r : Reading). turn_at cfg c.len.result (reading_view l.reading) (table (close last)) ≡ Ok (turn_view c.in_ok-next.next.turn, r)) (sym c.in_ok-take.ensures) now in (
            push_item done (table (close last)),
            (k - 1, omega arith, loop ∙ on ∙ lines_more k _ _ c.in_ok-next.after.now _ _ (omega arith) other (rw start_is at c.in_ok-rest.ensures.header) (array_more (codes "turn") root done last)),
            turns_push cfg done last l.turns.items c.push.new.self.items c.in_ok-next.next.turn c.len.result (reading_view l.reading) (reading_view c.take.new.self) read at next c.in_ok-push.ensures.items,
          ),
    )

pub returns-then-is_empty : goal.returns-then-is_empty
returns-then-is_empty c root n h =
    let l = c.turns in
    let start_is = c.skip_blank-start.ensures.rest in
    let cfg = setup_view c.args.setup.now in
    let at : c.len.result ≡ length l.turns.items = grind (arith, common_steps) in
    let none : length (skip_blank c.in_ok-next.after.now) ≡ 0 = grind (arith, common_steps) in
    let (done, leaves, read) = l.invariant.2 root n h in
    let (m, room, loop) = leaves in
    let (last, here, now) = c.in_ok-next.ensures.read root done m room in
    let (k, space, on) = here in
    let next = subst (λ (r : Reading). turn_at cfg c.len.result (reading_view l.reading) (table (close last)) ≡ Ok (turn_view c.in_ok-next.next.turn, r)) (sym c.in_ok-take.ensures) now in (
      done,
      last,
      reading_view c.take.new.self,
      loop ∙ on ∙ lines_end k _ c.in_ok-next.after.now (omega arith) none,
      turns_push cfg done last l.turns.items c.push.new.self.items c.in_ok-next.next.turn c.len.result (reading_view l.reading) (reading_view c.take.new.self) read at next c.in_ok-push.ensures.items,
    )
