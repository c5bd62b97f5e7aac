use Rattle.std.proofs.Common.{◌≡◌, ◌==◌, ◌-◌, ◌<◌, ◌≤◌, suc, false, length, map, codes, string_bytes, Ok, subst, arith}
use Rattle.std.proofs.lemmas.Grind.{common_steps}
use Rattle.std.proofs.lemmas.List.{length-map}
use Rattle.toml_parser.specs.Lexical.{first, skip_blank}
use Rattle.toml.specs.View.{table_view}
use Rattle.rb_script_types.specs.Config.{Config, config_view}
use Rattle.rb_script_types.specs.Limits.{max_turns}
use Rattle.rb_script_types.specs.Script.{turn_view}
use Rattle.rb_script_config.specs.Setups.{setup_view}
use Rattle.rb_script_config.specs.Tables.{tables_view}
use Rattle.rb_script_read.specs.Work.{little}
use Rattle.rb_script_read.proofs.PlainLemmas.{text_read}
use Rattle.rb_script_read.proofs.plain.read_text.Goals as goal

pub returns : goal.returns
returns c =
    let text = c.args.text.now in
    let rest = c.in_ok-root.rest.now in
    let after = c.in_ok-rest.rest.now in
    let keys = table_view c.in_ok-root.root in
    let root = table_view c.put.new.table in
    let turns = map turn_view c.in_ok-turns.turns.items in
    let plain : (first text == 0xEF) ≡ false = grind (arith, common_steps) in
    let (ns, path, leaves, same) = c.in_ok-root.ensures (suc (length text)) (omega arith) in
    let (m, room, begun) = leaves in
    let named : string_bytes c.in_ok-from_str.field-0 ≡ codes "turn" = grind (arith, common_steps) in
    let absent = rw named at c.in_ok-put.ensures.absent in
    let written = rw named at c.in_ok-put.ensures.written in
    let start_is = c.skip_blank.ensures.rest in
    let before : length (skip_blank rest) ≤ length rest = rw start_is at c.skip_blank.ensures.within in
    let shorter : length after < length (skip_blank rest) = rw start_is at c.in_ok-rest.ensures.shorter in
    let header = rw start_is at c.in_ok-rest.ensures.header in
    let (done, last, end, ended, read) = c.in_ok-turns.ensures ns (m - 1) (omega (arith, room, before, shorter)) in
    let few : length turns ≤ max_turns = omega (arith, length-map c.in_ok-turns.turns.items turn_view) in
    let made : config_view c.into_config.result ≡ setup_view c.in_ok-setup.setup = c.into_config.ensures in
    let light = subst (λ (x : Config). little x turns ≡ Ok c.in_ok-check_work.field-0) made c.in_ok-check_work.ensures in
    rw made (text_read text rest after m ns path keys root _ done last (tables_view c.in_ok-tables.tables) (setup_view c.in_ok-setup.setup) turns end _ plain begun same (omega arith) shorter
    absent written header ended read c.in_ok-tables.ensures c.in_ok-setup.ensures few light)
