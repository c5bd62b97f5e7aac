use Rattle.std.proofs.Common.{rules}
use Rattle.rb_script_types.specs.Config.{IsConfig, config_view}
use Rattle.rb_import.proofs.Readable.{is_read, read_turns}
use Rattle.rb_import.proofs.read.is_read_script.Goals as goal

pub returns-then-is_config : goal.returns-then-is_config
returns-then-is_config c = (
  (λ all.
      let config : IsConfig (config_view c.args.script.now.config) = search rules in
      is_read c.args.script.now c.as_slice.result.now c.as_slice.ensures.value config (c.are_turns.ensures.0 all) c.requires),
  (λ is. c.are_turns.ensures.1 (read_turns c.args.script.now c.as_slice.result.now c.as_slice.ensures.value is)),
)
