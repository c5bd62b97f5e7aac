use Rattle.std.proofs.Common.{string_bytes}
use Rattle.rb_script_toml.specs.Faults.{fault_view}
use Rattle.rb_script_text.proofs.Added.{members_told}
use Rattle.rb_follow.specs.FaultJson.{named_members, turn_members}
use Rattle.rb_follow.proofs.told.push_placed.Goals as goal

pub returns : goal.returns
returns c =
    members_told c.push_document.result (string_bytes c.args.text.now) (string_bytes c.push_named.new.text) (string_bytes c.push_document.new.text)
    (named_members (fault_view c.args.fault.now)) (turn_members c.args.number) c.in_ok-push_named.ensures c.push_document.ensures
