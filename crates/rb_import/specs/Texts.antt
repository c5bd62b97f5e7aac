-- The text of a script that was made of answers.
use Rattle.std.specs.Prelude.{ℕ, List, codes}

-- what stands behind the opening line: who wrote the script
abbrev pub heading : List ℕ
heading = codes "# Written by ibcplan import.\n"
