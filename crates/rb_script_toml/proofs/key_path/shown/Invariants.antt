use Rattle.std.proofs.Common.{◌≡◌, string_bytes, flat_map}
use Rattle.rb_script_toml.specs.KeyPaths.{shown}
use Rattle.rb_script_toml.proofs.key_path.shown.Given as goal

-- what is written is what the characters so far show
abbrev pub invariant-loop-character : goal.invariant-loop-character
invariant-loop-character l = string_bytes l.text ≡ flat_map shown l.yielded
