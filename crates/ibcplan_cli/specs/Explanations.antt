-- what a clause sees of an `Explained`: the sink
use Rattle.ibcplan_cli.specs.declared.explained.Explained.{Explained}

abbrev pub explained_sink : {W : Type 0} → Explained W → W
explained_sink e = e.inner
