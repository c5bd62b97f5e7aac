-- Scans of paths (ICS 18: a relayer looks at two chains).
use Rattle.rb_scan.specs.Path.{Path}
use Rattle.rb_base.specs.declared.gate.Part.{Part}

-- the messages that a part of a path owes: the path as it was seen and the part say them
pub record Scan : Type 0 where
  pub view : Path
  pub part : Part
