use Rattle.std.proofs.Common.{◌≡◌, ◌==◌, ◌-◌, ℕ, true, false, [], length, Ok, le_refl, refl, subst, ◌∙◌, rules, arith}
use Rattle.std.proofs.lemmas.Grind.{common_steps}
use Rattle.toml_parser.specs.Lexical.{first, skip_blank}
use Rattle.toml.specs.Data.{no_items, push_item}
use Rattle.toml.specs.View.{view}
use Rattle.toml.specs.Parse.{val}
use Rattle.toml.proofs.Turns.{items_end, items_more}
use Rattle.rb_script_toml.specs.Fields.{next_in_sequence}
use Rattle.rb_script_config.specs.Setups.{setup_view}
use Rattle.rb_script_read.specs.Events.{event}
use Rattle.rb_script_read.specs.TurnNames.{names_now}
use Rattle.rb_script_read.proofs.PlainLemmas.{sequence-push}
use Rattle.rb_script_read.proofs.plain.read_elements.Goals as goal

pub events-init : goal.events-init
events-init c = (search rules, le_refl _, refl, λ n h. (n, no_items, h, refl, rw c.new-events.ensures.items))

pub returns-then-first-eq93-clause-read : goal.returns-then-first-eq93-clause-read
returns-then-first-eq93-clause-read c n h =
    let l = c.events in
    let (m, ds, room, loop, read) = l.invariant.3 n h in
    let closing : (first (skip_blank l.rest.now) == 93) ≡ true = grind (arith, common_steps) in
    (ds, loop ∙ items_end (val 79) m ds l.rest.now (omega arith) closing ∙ rw (c.skip.ensures.rest, c.skip_blank-start.ensures.rest), read)

pub events-preserved : goal.events-preserved
events-preserved c =
    let l = c.events in
    let start_is = c.skip_blank-start.ensures.rest in
    let other : (first (skip_blank l.rest.now) == 93) ≡ false = grind (arith, common_steps) in
    let shorter = c.in_ok-element.ensures.shorter in
    let within = c.in_ok-rest.ensures.within in
    let before = c.skip_blank-start.ensures.within in
    let d = view c.in_ok-element.element in
    let read_one = event (setup_view c.args.setup.now) in
    let path = c.args.path.now in
    let now = names_now l.names in
    let after = names_now c.read_event_at.new.names in
    let one = c.in_ok-event.event in
    let at : c.len-place.result ≡ length l.events.items = grind (arith, common_steps) in
    let next = subst (λ (i : ℕ). next_in_sequence read_one path i now d ≡ Ok (one, after)) at c.in_ok-event.ensures.read in (
      search rules,
      omega (arith, l.invariant.1),
      c.in_ok-event.ensures.earlier ∙ l.invariant.2,
      λ n h.
          let (m, ds, room, loop, read) = l.invariant.3 n h in (
            m - 1,
            push_item ds d,
            omega arith,
            loop ∙ items_more (val 79) m ds l.rest.now d _ _ (omega arith) other (rw start_is at c.in_ok-element.ensures.value) c.in_ok-rest.ensures.value,
            rw c.in_ok-push.ensures.items (sequence-push read_one path (names_now c.args.names.now) [] ds d l.events.items now one after read next),
          ),
    )
