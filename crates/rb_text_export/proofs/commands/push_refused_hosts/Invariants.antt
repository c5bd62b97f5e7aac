use Rattle.std.proofs.Common.{◌≡◌, ◌++◌, string_bytes, take}
use Rattle.std.specs.List.{flat_map}
use Rattle.rb_script_types.specs.Config.{config_view}
use Rattle.rb_text_export.specs.Commands.{refused_host_text}
use Rattle.rb_text_export.proofs.commands.push_refused_hosts.Given as goal

abbrev pub invariant-loop-host : goal.invariant-loop-host
invariant-loop-host l = string_bytes l.text ≡ string_bytes l.fn.text ++ flat_map (refused_host_text (config_view l.config).chains l.turn) (take l.host-index l.hosts)
