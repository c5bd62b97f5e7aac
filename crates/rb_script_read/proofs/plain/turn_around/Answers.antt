use Rattle.std.proofs.Common.{◌≡◌, ◌-◌, ◌≤◌, ℕ, List, [], codes, length, Ok, ap, subst, refl, ◌∙◌, arith}
use Rattle.std.proofs.lemmas.Grind.{common_steps}
use Rattle.std.proofs.lemmas.List.{map-id}
use Rattle.rb_script_toml.specs.Fields.{elements, section_view}
use Rattle.rb_script_toml.specs.KeyPaths.{child}
use Rattle.rb_script_config.specs.Clients.{client_ids}
use Rattle.rb_script_config.specs.Goals.{asked, settlement}
use Rattle.rb_script_config.specs.HostWindows.{host_window}
use Rattle.rb_script_config.specs.Setups.{setup_view}
use Rattle.rb_script_read.specs.declared.names.SetNames.{SetNames}
use Rattle.rb_script_read.specs.Names.{names_of, with_namings}
use Rattle.rb_script_read.specs.TurnNames.{names_now}
use Rattle.rb_script_read.specs.Turns.{frame, head_view, reading_view}
use Rattle.rb_script_read.proofs.PlainLemmas.{turn_read}
use Rattle.rb_script_read.proofs.plain.turn_around.Goals as goal

pub returns : goal.returns
returns c ds seen =
    let cfg = setup_view c.args.setup.now in
    let reading = reading_view c.args.reading.now in
    let s = section_view c.args.section.now in
    let f = head_view c.in_ok-head.head in
    let events = c.args.events.items in
    let namings = c.into_namings.result.items in
    let fits : length events ≤ reading.room = grind (arith, common_steps) in
    let left : c.in-Some.room ≡ reading.room - length events = grind (arith, common_steps) in
    let framed : frame cfg.version (reading.room - length events) s ≡ Ok f = rw left at c.in_ok-head.ensures.read in
    let none : length c.in_ok-head.head.events.now ≡ 0 = grind (arith, common_steps) in
    let same = c.into_namings.ensures ∙ ap (λ (n : SetNames). with_namings (names_of n) namings) c.requires.earlier in
    let hosted : elements (host_window cfg.chains) (child s.path (codes "window")) [] f.windows ≡ Ok c.in_ok-windows.windows.items =
    subst (λ (ids : List (List ℕ)). elements (host_window ids) (child s.path (codes "window")) [] f.windows ≡ Ok c.in_ok-windows.windows.items) (map-id cfg.chains)
    (rw (c.as_str.ensures.value, c.in_ok-path.ensures) at c.in_ok-windows.ensures) in
    let wanted : elements (asked (client_ids cfg.clients)) (child s.path (codes "goal")) [] f.goals ≡ Ok c.in_ok-goals.goals.items =
    rw (c.as_str-2.ensures.value, c.in_ok-path-2.ensures) at c.in_ok-goals.ensures in
    let settled : elements (settlement (client_ids cfg.clients)) (child s.path (codes "settle")) [] f.settlements ≡ Ok c.in_ok-settlements.settlements.items =
    rw (c.as_str-3.ensures.value, c.in_ok-path-3.ensures) at c.in_ok-settlements.ensures in
    turn_read cfg reading s ds f c.in_ok-head.head.events.now _ _ _ events (names_now c.args.names) _ seen same fits framed refl none hosted wanted settled
