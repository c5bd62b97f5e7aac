use Rattle.std.proofs.Common.{◌++◌, ◌∷◌, [], codes, true, string_bytes, append-nil, sym, ap, ◌∙◌}
use Rattle.rb_super_turn.specs.Views.{turn_report_view}
use Rattle.rb_script_text.specs.Json.{boolean, boolean_text, name_text, ◌is◌}
use Rattle.rb_text_export.specs.ReportJson.{turn_members}
use Rattle.rb_script_text.proofs.Added.{members_told}
use Rattle.rb_text_export.proofs.json.push_window_back.Goals as goal

pub returns : goal.returns
returns c =
    let old = string_bytes c.args.text.now in
    let back = c.args.turn.now.window_back in
    members_told c.push_turn_members.result old (string_bytes c.push_boolean.new.text) (string_bytes c.push_turn_members.new.text)
    (codes "window_back" is boolean back ∷ []) (turn_members c.args.version c.args.chains.now c.args.paths.now (turn_report_view c.args.turn.now))
    (c.in_ok-push_boolean.ensures ∙ ap (λ t. old ++ t) (sym (append-nil (name_text true (codes "window_back") ++ boolean_text back)))) c.push_turn_members.ensures
