use Rattle.std.proofs.Common.{◌≡◌, drop, string_bytes}
use Rattle.rb_script_toml.specs.KeyPaths.{below, place_path}
use Rattle.rb_script_toml.proofs.key_path.KeyPath.path.Given as goal

-- what is left is below what was written
abbrev pub invariant-loop-index : goal.invariant-loop-index
invariant-loop-index l = below (string_bytes l.text) (drop l.index-index l.indices) ≡ below (place_path l.self) l.indices
