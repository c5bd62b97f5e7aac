use Rattle.std.proofs.Common.{◌≡◌, ◌++◌, string_bytes, subst}
use Rattle.std.specs.Result.{OnOk}
use Rattle.rb_super_turn.specs.Views.{outcome_view}
use Rattle.rb_script_text.specs.Json.{more_text}
use Rattle.rb_text_export.specs.ReportJson.{client_members, left_members, outcome_members}
use Rattle.rb_script_text.proofs.Added.{members_told}
use Rattle.rb_text_export.proofs.json.push_client_members.Goals as goal

pub returns : goal.returns
unfolding client_members
returns c =
    let old = string_bytes c.args.text.now in
    let new = string_bytes c.push_left.new.text in
    let outcome = outcome_view c.args.client.now.outcome in
    let came = outcome_members c.args.version c.args.paths.now outcome in
    subst (λ left. OnOk c.push_left.result (new ≡ old ++ more_text (came ++ left_members c.args.version c.args.paths.now outcome left))) c.as_slice.ensures.value
    (members_told c.push_left.result old (string_bytes c.push_outcome.new.text) new came (left_members c.args.version c.args.paths.now outcome c.as_slice.result.now)
    c.in_ok-push_outcome.ensures c.push_left.ensures)
