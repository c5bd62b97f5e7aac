use Rattle.std.proofs.Common.{◌++◌, ◌∷◌, codes, false, string_bytes, append_assoc, ◌∙◌}
use Rattle.std.specs.Fmt.{decimal}
use Rattle.rb_super_turn.specs.Views.{turn_report_view}
use Rattle.rb_script_text.specs.Json.{boolean, more_text, name_text, ◌is◌}
use Rattle.rb_text_export.specs.ReportJson.{turn_members}
use Rattle.rb_script_text.proofs.Added.{closed_ok}
use Rattle.rb_text_export.proofs.json.push_numbered_turn.Goals as goal

pub returns : goal.returns
returns c =
    let members = turn_members c.args.version c.args.chains.now c.args.paths.now (turn_report_view c.args.turn.now) in
    closed_ok c.push_str-2.result (string_bytes c.args.text.now) (string_bytes c.push_str.new.self) (string_bytes c.push_number.new.text)
    (string_bytes c.push_window_back.new.text) (string_bytes c.push_str-2.new.self) (name_text false (codes "turn") ++ decimal c.args.number)
    (more_text (codes "window_back" is boolean c.args.turn.now.window_back ∷ members)) c.push_str-2.ensures.bytes c.in_ok-push_window_back.ensures
    (c.in_ok-push_number.ensures ∙ append_assoc (string_bytes c.push_str.new.self) (name_text false (codes "turn")) (decimal c.args.number)) c.in_ok-push_str.ensures.bytes
