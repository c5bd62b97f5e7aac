use Rattle.std.proofs.Common.{◌++◌, codes, false, string_bytes}
use Rattle.rb_super_turn.specs.Views.{turn_report_view}
use Rattle.rb_script_text.specs.Json.{boolean_text, more_text, name_text}
use Rattle.rb_text_export.specs.ReportJson.{turn_members}
use Rattle.rb_script_text.proofs.Added.{closed_ok}
use Rattle.rb_text_export.proofs.json.push_turn.Goals as goal

pub returns : goal.returns
returns c =
    closed_ok c.push_str-2.result (string_bytes c.args.text.now) (string_bytes c.push_str.new.self) (string_bytes c.push_boolean.new.text)
    (string_bytes c.push_turn_members.new.text) (string_bytes c.push_str-2.new.self) (name_text false (codes "window_back") ++ boolean_text c.args.turn.now.window_back)
    (more_text (turn_members c.args.version c.args.chains.now c.args.paths.now (turn_report_view c.args.turn.now))) c.push_str-2.ensures.bytes c.in_ok-push_turn_members.ensures
    c.in_ok-push_boolean.ensures c.in_ok-push_str.ensures.bytes
