use Rattle.std.proofs.Common.{string_bytes}
use Rattle.rb_text_export.proofs.Hosts.{hosts_told}
use Rattle.rb_text_export.proofs.json.push_windows.Goals as goal

pub returns-in_ok-push_name-in-Four : goal.returns-in_ok-push_name-in-Four
returns-in_ok-push_name-in-Four c =
    hosts_told c.push_hosts.result (string_bytes c.args.text.now) (string_bytes c.push_name.new.text) (string_bytes c.push_hosts.new.text) c.args.version
    c.args.chains.now c.args.hosts.now c.in-Four.is c.in_ok-push_name-in-Four.ensures c.push_hosts.ensures
