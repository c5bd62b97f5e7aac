use Rattle.std.proofs.Common.{◌≡◌, ◌∙◌, List, ℕ, codes, ap, sym, subst}
use Rattle.toml.specs.Data.{Members, no_members, no_items}
use Rattle.toml.specs.View.{members_view, table_view}
use Rattle.rb_script_toml.specs.KeyPaths.{child}
use Rattle.rb_script_config.specs.Setups.{setup_view}
use Rattle.rb_script_read.specs.NextTurns.{next_turn_view}
use Rattle.rb_script_read.specs.Plain.{AreRead, Leaves, around, in_turn}
use Rattle.rb_script_read.specs.TurnNames.{names_now}
use Rattle.rb_script_read.specs.Turns.{reading_view}
use Rattle.rb_script_read.proofs.PlainLemmas.{none_read, turn_closed}
use Rattle.rb_script_read.proofs.plain.read_turn_text.Goals as goal

pub returns-clause-read : goal.returns-clause-read
returns-clause-read c root done n h =
    let cfg = setup_view c.args.setup.now in
    let reading = reading_view c.args.reading.now in
    let of_events = c.as_str-2.result.now in
    let path = c.as_str-3.result.now in
    let read = c.read_lines.new.lines in
    let ms = table_view read.table in
    let empty : table_view c.new.result ≡ no_members = ap members_view c.new.ensures.empty in
    let start = none_read cfg of_events reading.names (table_view c.new.result) c.new-2.result.items (names_now c.after.result) empty c.new-2.ensures.items c.after.ensures.names in
    let (es, leaves, now) = c.in_ok-rest.ensures.read root done reading.names no_items n h start in
    let below : of_events ≡ child path (codes "event") =
    c.as_str-2.ensures.value ∙ c.in_ok-of_events.ensures ∙ ap (λ (p : List ℕ). child p (codes "event")) (c.as_str.ensures.value ∙ sym c.as_str-3.ensures.value) in
    let there = subst (λ (p : List ℕ). AreRead cfg p reading.names ms es read.events.items (names_now read.names)) below now in (
      around es ms,
      subst (λ (keys : Members). Leaves n (in_turn root done (around no_items keys)) c.args.s.now (in_turn root done (around es ms)) c.in_ok-rest.rest.now) empty leaves,
      turn_closed cfg c.args.index reading es ms path (next_turn_view reading c.in_ok-next.next) (c.as_str-3.ensures.value ∙ c.in_ok-path.ensures) (c.in_ok-next.ensures es there),
    )
