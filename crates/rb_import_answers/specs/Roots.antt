-- The root of a chain's state that a script has, which is 32 bytes (ICS 23, SHA-256).
use Rattle.std.specs.Prelude.{ℕ, List, length, ◌==◌, if◌then◌else◌}
use Rattle.sha2.specs.Sha256.{sha256}

-- 32 bytes as they are, and others, which aren't a root that proves packets, by their SHA-256, so that different ones stay so (own choice)
unfoldable pub root_of : List ℕ → List ℕ
root_of bytes = if length bytes == 32 then bytes else sha256 bytes
